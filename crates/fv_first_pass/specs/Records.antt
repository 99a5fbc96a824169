-- The snapshots of a label, record by record.
use Rattle.std.specs.Prelude.{ℕ, ◌+◌, ◌*◌, ◌==◌, Bool, List, [], ◌∷◌, take, if◌then◌else◌}
use Rattle.std.specs.List.{list_any, range_with_len}
use Rattle.fv_codec.specs.declared.label.SnapRecord.{SnapRecord}
use Rattle.fv_model.specs.Spelling.{is_same_name}
use Rattle.fv_image.specs.Views.{Snap}

-- a record that names none
abbrev pub free : SnapRecord
free = record { name_length = 0; name = []; levels = 0; root = record { vvbn = 0; pvbn = 0; stamp = 0 } }

-- the snapshot that a record of a map slot names, where it names one
abbrev pub snap_in : ℕ → SnapRecord → Snap
snap_in j r = record { slot = j; name = take r.name_length r.name; table = record { levels = r.levels; root = r.root } }

abbrev pub snap_if : ℕ → SnapRecord → List Snap
snap_if j r = if r.name_length == 0 then [] else snap_in j r ∷ []

-- whether a snapshot has the name of a record
abbrev pub is_named : SnapRecord → Snap → Bool
is_named r q = is_same_name q.name (take r.name_length r.name)

-- whether the VVBN of a block of a slot's map passes a test, in a volume of a span of which a map has so many blocks
abbrev pub any_in : (ℕ → Bool) → ℕ → ℕ → ℕ → Bool
any_in test span blocks slot = list_any test (range_with_len (span + slot * blocks) blocks)
