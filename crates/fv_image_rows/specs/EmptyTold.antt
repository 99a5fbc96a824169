-- The machine that a view tells of, as far as volumes are empty: each head becomes a volume without files.
use Rattle.std.specs.Prelude.{ℕ, Bool, true, false, ◌&&◌, List, [], ◌∷◌, flat_map, Option, Some, None, ◌==◌}
use Rattle.std.specs.List.{list_all}
use Rattle.std.specs.Option.{is_none, option_map_or}
use Rattle.std.specs.FinMap as fin
use Rattle.fv_model.specs.Volumes.{Volume}
use Rattle.fv_model.specs.Machines.{Machine}
use Rattle.fv_image.specs.Views.{Snap, Head, View, slots}
use Rattle.fv_image.specs.Volumes.{empty_volume_of}

-- a volume without snapshots
abbrev pub has_none : List Snap → Bool
has_none [] = true
has_none (s ∷ ss) = false

-- The forms of volumes that are told here: the root of the active table is a hole, and there are no snapshots, no base
-- and no unknown places. It shrinks as the other forms come.
unfoldable pub is_plain : Head → Bool
is_plain h = (h.active.root.stamp == 0) && (has_none h.snapshots && (is_none h.base && h.known))

-- no volume has another form
unfoldable pub is_all_plain : View → Bool
is_all_plain w = list_all (λ s. option_map_or is_plain (w.head s) true) slots

-- the volume of a slot with its name, or nothing
abbrev pub named_volume : Option Head → List (List ℕ × Volume)
named_volume None = []
named_volume (Some h) = (h.name, empty_volume_of h) ∷ []

-- the volumes in the order of their slots
unfoldable pub volumes : View → List (List ℕ × Volume)
volumes w = flat_map (λ s. named_volume (w.head s)) slots

-- the machine: the aggregate's blocks, the format's version, and each volume by its name
unfoldable pub empty_told : View → Machine
empty_told w = record { blocks = w.blocks; version = w.version; volumes = fin.from_entries (volumes w) }
