-- What a view tells of the snapshot that a clone stands on.
use Rattle.std.proofs.Common.{◌≡◌, ℕ, Some, sym, ap, ◌∙◌}
use Rattle.std.specs.Option.{option_map}
use Rattle.fv_disk.specs.Shown.{Image}
use Rattle.fv_tables.specs.Reached.{is_listed, items}
use Rattle.fv_tables.specs.Spelled.{Under}
use Rattle.fv_tables.specs.Told.{standing_at, table_told}
use Rattle.fv_image.specs.Mapped.{root_at}
use Rattle.fv_image.specs.Seen.{base_root}
use Rattle.fv_image.specs.Views.{View}
use Rattle.fv_image.specs.Volumes.{base_from, base_on, base_told, standing_of, table_at}
use Rattle.fv_volmap.specs.Slots.{has, slot_at, slot_of_base}
use Rattle.fv_pool.specs.declared.pool.Pool.{Pool}
use Rattle.fv_volume.specs.declared.state.Base.{Base}
use Rattle.fv_volume.specs.declared.state.VolumeState.{VolumeState}
use Rattle.fv_volume.specs.OneVolume.{base_by}
use Rattle.fv_volume.specs.States.{States, footing_in, head_in, snap_in, table_in, view_over}
use Rattle.fv_volumes.specs.Footing.{IsFooted}
use Rattle.fv_volumes.specs.Housed.{ReachesAll}
use Rattle.fv_volumes.proofs.SlotRoots.{base_rooted, snap_rooted}
use Rattle.fv_volumes.proofs.Told.{head_there}

module _ (pool : Pool) (states : States) (i : Image) (x : VolumeState) (b : Base) (is : IsFooted states x b) where
  abbrev u : View
  u = view_over pool states i

  -- The snapshot's table is the root of its slot in the parent,
  pub footed_at : root_at (head_in is.parent) b.slot ≡ Some (table_in is.snap.table)
  footed_at = snap_rooted (head_in is.parent) b.slot (snap_in is.snap) is.above is.found

  -- which is the root of the base table.
  pub footed_root : base_root u (footing_in b) ≡ Some (table_in is.snap.table)
  footed_root = base_rooted u (footing_in b) (head_in is.parent) (snap_in is.snap) (head_there pool states i b.parent is.parent is.there) is.found

  -- Where the parent's slots have what its roots reach, the slot of the base has what the base table reaches.
  pub footed_reach : ReachesAll u b.parent is.parent → (v : ℕ) → has v (slot_at x.map slot_of_base) ≡ is_listed (items (standing_of u b.parent (table_in is.snap.table))) v
  footed_reach reach v = is.same v ∙ reach b.slot (table_in is.snap.table) footed_at v

  -- Where that table is told over the blocks of the slot of the base, so is the base.
  pub footed_base : (blocks : ℕ → Under) → table_at u b.parent (table_in is.snap.table) ≡ table_told (standing_at (blocks slot_of_base) b.table.levels b.table.root) → base_from u (Some (footing_in b)) ≡ base_by blocks (Some b)
  footed_base blocks alike =
      ap (base_told u (footing_in b)) (head_there pool states i b.parent is.parent is.there)
      ∙ ap (option_map (base_on u (footing_in b) (head_in is.parent))) is.found
      ∙ (λ j. Some (record { parent = sym is.named j; snapshot = sym is.called j; table = alike j; splitting = b.splitting }))
