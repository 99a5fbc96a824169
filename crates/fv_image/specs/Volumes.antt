-- The machine that a view tells of, with files, snapshots and bases. All tables are read by places alone: the PVBNs in pointers
-- play no part.
use Rattle.std.specs.Prelude.{ℕ, ◌==◌, List, [], ◌∷◌, map, flat_map, find, Option, Some, None}
use Rattle.std.specs.Option.{option_map, option_map_or, option_and_then}
use Rattle.std.specs.FinMap as fin
use Rattle.fv_model.specs.Spelling.{name_cmp}
use Rattle.fv_model.specs.Tables.{Table, empty_table}
use Rattle.fv_model.specs.Volumes.{Base, Volume}
use Rattle.fv_model.specs.Machines.{Machine}
use Rattle.fv_tables.specs.Told.{Standing, standing_at, table_told}
use Rattle.fv_image.specs.Views.{Rooted, Snap, Footing, Head, View, slots}
use Rattle.fv_image.specs.Chains.{under}

-- ---- tables

-- a table of the volume of a slot, by its root
abbrev pub standing_of : View → ℕ → Rooted → Standing
standing_of w s r = standing_at (under w s) r.levels r.root

abbrev pub table_at : View → ℕ → Rooted → Table
table_at w s r = table_told (standing_of w s r)

-- the active table of the volume of a slot
abbrev pub active_at : View → ℕ → Table
active_at w s = option_map_or (λ h. table_at w s h.active) (w.head s) empty_table

-- a snapshot under its name
abbrev pub snap_told : View → ℕ → Snap → List ℕ × Table
snap_told w s p = (p.name, table_at w s p.table)

-- ---- bases

-- the snapshot of a map slot
unfoldable pub snap_at : Head → ℕ → Option Snap
snap_at h slot = find (λ p. p.slot == slot) h.snapshots

-- the base that a clone stands on, where its parent is the volume of this head and has this snapshot; its table is read through the parent
abbrev pub base_on : View → Footing → Head → Snap → Base
base_on w b parent p = record { parent = parent.name; snapshot = p.name; table = table_at w b.parent p.table; splitting = b.splitting }

abbrev pub base_told : View → Footing → Option Head → Option Base
base_told w b parent = option_and_then (λ g. option_map (base_on w b g) (snap_at g b.slot)) parent

abbrev pub base_from : View → Option Footing → Option Base
base_from w base = option_and_then (λ b. base_told w b (w.head b.parent)) base

-- ---- volumes

-- the volume of a slot, by its head and its active table
unfoldable pub volume_with : View → ℕ → Head → Table → Volume
volume_with w s h active = record {
  kind = h.kind;
  size = h.size;
  most = h.most;
  span = h.span;
  now = h.now;
  active = active;
  snapshots = fin.from_entries {R = name_cmp} (map (snap_told w s) h.snapshots);
  base = base_from w h.base;
  known = h.known;
}

abbrev pub volume_told : View → ℕ → Head → Volume
volume_told w s h = volume_with w s h (table_at w s h.active)

-- the volume of a head without files, snapshots and base
unfoldable pub empty_volume_of : Head → Volume
empty_volume_of h = record {
  kind = h.kind;
  size = h.size;
  most = h.most;
  span = h.span;
  now = h.now;
  active = empty_table;
  snapshots = fin.empty;
  base = None;
  known = h.known;
}

-- a volume with its name, or nothing for an empty slot
abbrev pub named_with : View → (ℕ → Table) → ℕ → Option Head → List (List ℕ × Volume)
named_with w active s None = []
named_with w active s (Some h) = (h.name, volume_with w s h (active s)) ∷ []

-- the volumes in the order of their slots
unfoldable pub volumes_with : View → (ℕ → Table) → List (List ℕ × Volume)
volumes_with w active = flat_map (λ s. named_with w active s (w.head s)) slots

-- The machine of a view, with these active tables by slot: a session's are those of its trees in memory.
unfoldable pub told_with : View → (ℕ → Table) → Machine
told_with w active = record { blocks = w.blocks; version = w.version; volumes = fin.from_entries {R = name_cmp} (volumes_with w active) }

-- the machine that a view tells of
abbrev pub told : View → Machine
told w = told_with w (active_at w)
