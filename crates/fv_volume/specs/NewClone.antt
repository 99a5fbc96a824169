-- A clone of a volume's snapshot, as it is made.
use Rattle.std.specs.Prelude.{◌≡◌, ℕ, true, false, [], Some, None}
use Rattle.fv_container.specs.Chains.{Slots, along, container_at, own_entry, parent_at}
use Rattle.fv_volmap.specs.Slots.{has, slot_at, slot_of_base, taken_in}
use Rattle.fv_pool.specs.declared.pool.Pool.{Pool}
use Rattle.fv_volume.specs.declared.state.Base.{Base}
use Rattle.fv_volume.specs.declared.state.Snap.{Snap}
use Rattle.fv_volume.specs.declared.state.VolumeState.{VolumeState}
use Rattle.fv_volume.specs.States.{ledger_of_empty}

-- A slot of a volume stands on a slot of its parent: it has the same numbers, the volume has no entry of its own under them, and the chain from the
-- parent is no longer than 63 volumes, so that it is found whole from the volume.
pub record RestsOn (slots : Slots) (x : VolumeState) (k : ℕ) (y : VolumeState) (j : ℕ) : Type 0 where
  pub parent : parent_at slots x.slot ≡ Some y.slot
  pub same : (v : ℕ) → has v (slot_at x.map k) ≡ has v (slot_at y.map j)
  pub holes : (v : ℕ) → has v (slot_at x.map k) ≡ true → own_entry (container_at slots x.slot) v ≡ None
  pub ends : (v : ℕ) → along slots 64 (Some y.slot) v ≡ along slots 63 (Some y.slot) v

-- What a clone of a volume's snapshot is as it is made: no entry of its own, the snapshot's numbers in its active slot and in that of its base, and
-- the snapshot's root for both. It knows all places only where its parent does.
pub record IsNewClone (pool : Pool) (x y : VolumeState) (q : Snap) (b : Base) : Type 0 where
  pub active_slot : RestsOn pool.containers x 0 y q.slot
  pub base_slot : RestsOn pool.containers x slot_of_base y q.slot
  pub only : (v : ℕ) → taken_in x.map.slots v ≡ true → has v (slot_at x.map slot_of_base) ≡ true
  pub holes : (v : ℕ) → own_entry (container_at pool.containers x.slot) v ≡ None
  pub active : x.active ≡ q.table
  pub based : x.base ≡ Some b
  pub table : b.table ≡ q.table
  pub whole : b.splitting ≡ false
  pub snapshots : x.snapshots ≡ []
  pub now : x.now ≡ y.now
  pub known : x.known ≡ true → y.known ≡ true
  pub files : x.files ≡ None
  pub numbers : x.numbers ≡ None
  pub ledger : x.ledger ≡ ledger_of_empty x.size x.kind x.span
