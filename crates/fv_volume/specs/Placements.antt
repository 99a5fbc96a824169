-- The roots of a volume's label with places.
use Rattle.std.specs.Prelude.{ℕ, true, List, map, get_or, ◌==◌, if◌then◌else◌}
use Rattle.fv_codec.specs.declared.pointer.Pointer.{Pointer}
use Rattle.fv_pool.specs.declared.rooted.Rooted.{Rooted}
use Rattle.fv_volume.specs.declared.state.Snap.{Snap}
use Rattle.fv_volume.specs.declared.state.VolumeState.{VolumeState}

-- a pointer at a place, or as it is where none is given
abbrev pub put_at : ℕ → Pointer → Pointer
put_at place p = if place == 0 then p else record { vvbn = p.vvbn; pvbn = place; stamp = p.stamp }

abbrev pub rooted_at : ℕ → Rooted → Rooted
rooted_at place table = record { levels = table.levels; root = put_at place table.root }

-- the table of a snapshot, by its map slot
abbrev pub snap_at : List ℕ → Snap → Snap
snap_at places q = record { slot = q.slot; name = q.name; table = rooted_at (get_or places q.slot 0) q.table }

-- The roots of a volume have the places that are given by map slot, 0 for the active table. The label waits to be written.
abbrev pub with_places : VolumeState → List ℕ → VolumeState
with_places x places = record x {
  active = rooted_at (get_or places 0 0) x.active;
  snapshots = map (snap_at places) x.snapshots;
  changed = true;
}
