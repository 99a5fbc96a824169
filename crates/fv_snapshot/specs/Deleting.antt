-- What removing a snapshot answers and leaves.
use Rattle.std.specs.Prelude.{◌≡◌, ◌<◌, ◌⊎◌, ℕ, Bool, false, true, List, length, slice_index_or, None, Some, Result, Err, IfErr, OnErr, OnOk, is_some}
use Rattle.std.specs.Option.{option_map_or}
use Rattle.fv_disk.specs.Shown.{Shown as Disk}
use Rattle.fv_charge.specs.declared.ledger.Ledger.{Ledger}
use Rattle.fv_model.specs.declared.answers.Refusal.{Refusal}
use Rattle.fv_model.specs.declared.answers.Refusal.TheVariants.{NoSnapshot, SnapshotInUse}
use Rattle.fv_model.specs.declared.commands.Command.TheVariants.{SnapDelete}
use Rattle.fv_model.specs.Machines.{Machine}
use Rattle.fv_model.specs.Refusals.{is_base}
use Rattle.fv_model.specs.Volumes.{Volume}
use Rattle.fv_pool.specs.declared.fault.VolumeFault.{VolumeFault}
use Rattle.fv_pool.specs.declared.fault.VolumeFault.TheVariants.{Refused}
use Rattle.fv_pool.specs.declared.pool.Pool.{Pool}
use Rattle.fv_volume.specs.declared.state.Snap.{Snap}
use Rattle.fv_volume.specs.declared.state.VolumeState.{VolumeState}
use Rattle.fv_volume.specs.Asking.{snap_named}
use Rattle.fv_volume.specs.Calls.{Changes, Has}
use Rattle.fv_volume.specs.Held.{IsHeldIn, IsPlacedAs}
use Rattle.fv_volume.specs.Loading.{IsCountOf}
use Rattle.fv_volume.specs.OneVolume.{volume_for}
use Rattle.fv_volume.specs.Snaps.{without_snapshot}
use Rattle.fv_volume.specs.Snapshots.{FindsSnap}
use Rattle.fv_volume.specs.States.{States, state_at, with_state}
use Rattle.fv_volumes.specs.Footing.{is_snap_stood_on}
use Rattle.fv_snapshot.specs.Creating.{SnapFails}

-- a machine in which the volume of a name is this one, and a clone stands on its snapshot of a name or not
pub record HasStood (name : List ℕ) (volume : Volume) (stood : Bool) (snapshot : List ℕ) (m : Machine) : Type 0 where
  pub there : Has name volume m
  pub stands : is_base m name snapshot ≡ stood

-- A clone of a session stands on the snapshot of a name of the volume of a slot: on the map slot that this snapshot has.
abbrev pub is_used : States → ℕ → List ℕ → Bool
is_used states slot name = option_map_or (λ x. option_map_or (λ q. is_snap_stood_on states slot q.slot) (snap_named x.snapshots name) false) (state_at states slot) false

-- A step on the snapshot of a name is refused exactly where the volume has no snapshot of it, and as that.
pub record RefusesNoSnapshot (snaps : List Snap) (name : List ℕ) (result : Result Unit VolumeFault) : Type 0 where
  pub lost : snap_named snaps name ≡ None → result ≡ Err (Refused NoSnapshot)
  pub only : IfErr result (λ e. (r : Refusal) → e ≡ Refused r → (r ≡ NoSnapshot) × (snap_named snaps name ≡ None))

-- Removing the snapshot of a name is refused exactly where the volume has no snapshot of it, and where a clone stands on that, and as that.
pub record RefusesRemoval (snaps : List Snap) (stood : Bool) (name : List ℕ) (result : Result Unit VolumeFault) : Type 0 where
  pub lost : snap_named snaps name ≡ None → result ≡ Err (Refused NoSnapshot)
  pub used : is_some (snap_named snaps name) ≡ true → stood ≡ true → result ≡ Err (Refused SnapshotInUse)
  pub only : IfErr result (λ e. (r : Refusal) → e ≡ Refused r → ((r ≡ NoSnapshot) × (snap_named snaps name ≡ None)) ⊎ ((r ≡ SnapshotInUse) × ((is_some (snap_named snaps name) ≡ true) × (stood ≡ true))))

-- What changed of a volume's files was placed, and then its snapshot of a name was removed, and the ledger was counted anew.
pub record IsUnsnapped (disk : Disk) (pool : Pool) (x : VolumeState) (after : Disk) (left : Pool) (name : List ℕ) (y : VolumeState) : Type 0 where
  pub mid : VolumeState
  pub placed : IsPlacedAs disk pool x after left mid
  pub none : mid.files ≡ None
  pub at : ℕ
  pub finds : FindsSnap x.snapshots name (Some at)
  pub within : at < length x.snapshots
  pub snap : Snap
  pub there : (some : Snap) → slice_index_or x.snapshots at some ≡ snap
  pub ledger : Ledger
  pub counted : IsCountOf y ledger
  pub now : y ≡ record (without_snapshot mid at snap.slot) { ledger = ledger }

-- The snapshot of a name was removed from a volume, or not, as it is told whether a clone stands on it. It is answered as in each machine that has the
-- volume and says the same of clones, and the volume is the one that it becomes there. It is refused exactly where no snapshot has the name, and where
-- a clone stands on it, whatever the disk holds. Nothing changed then, and after another fault files were placed alone. The volume stays one between
-- points.
pub record Deletes (disk : Disk) (pool : Pool) (x : VolumeState) (stood : Bool) (name : List ℕ) (after : Disk) (left : Pool) (y : VolumeState) (result : Result Unit VolumeFault) : Type 0 where
  pub changes : IsHeldIn disk pool x.slot x → Changes (HasStood x.name (volume_for disk pool x) stood name) (SnapDelete x.name name) x.name (volume_for disk pool x) (volume_for after left y) result
  pub done : OnOk result (IsUnsnapped disk pool x after left name y)
  pub unused : OnOk result (stood ≡ false)
  pub failed : OnErr result (IsPlacedAs disk pool x after left y)
  pub refused : IfErr result (λ e. (r : Refusal) → e ≡ Refused r → (left ≡ pool) × (y ≡ x))
  pub held : IsHeldIn disk pool x.slot x → IsHeldIn after left x.slot y
  pub cause : IfErr result (SnapFails disk after pool x)
  pub calm : OnOk result (after.faults ≡ disk.faults)
  pub lost : RefusesRemoval x.snapshots stood name result

-- So it is done to the volume of a slot of a session, whose other volumes stay: whether a clone stands on the snapshot is told by what the volumes
-- of the session stand on.
pub record DeletesAt (disk : Disk) (pool : Pool) (states : States) (slot : ℕ) (name : List ℕ) (after : Disk) (left : Pool) (new : States) (result : Result Unit VolumeFault) : Type 0 where
  pub state : VolumeState
  pub there : state_at states slot ≡ Some state
  pub now : VolumeState
  pub row : new ≡ with_state states slot (Some now)
  pub deletes : Deletes disk pool state (is_used states slot name) name after left now result
