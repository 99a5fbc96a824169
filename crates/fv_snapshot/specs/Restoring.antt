-- What making a snapshot's table the active one answers and leaves.
use Rattle.std.specs.Prelude.{length, ◌≡◌, ℕ, List, None, Some, Result, OnErr, OnOk, IfErr}
use Rattle.fv_disk.specs.Shown.{Shown as Disk}
use Rattle.fv_charge.specs.declared.ledger.Ledger.{Ledger}
use Rattle.fv_model.specs.declared.answers.Refusal.TheVariants.{NoSnapshot}
use Rattle.fv_model.specs.declared.commands.Command.TheVariants.{SnapRestore}
use Rattle.fv_volmap.specs.Slots.{slot_at, with_slot}
use Rattle.fv_pool.specs.declared.fault.VolumeFault.{VolumeFault}
use Rattle.fv_pool.specs.declared.fault.VolumeFault.TheVariants.{Refused}
use Rattle.fv_pool.specs.declared.pool.Pool.{Pool}
use Rattle.fv_volume.specs.declared.state.Snap.{Snap}
use Rattle.fv_volume.specs.declared.state.VolumeState.{VolumeState}
use Rattle.fv_volume.specs.Asking.{snap_named}
use Rattle.fv_volume.specs.Calls.{Changes, HasWithin}
use Rattle.fv_volume.specs.Held.{IsHeldIn}
use Rattle.fv_volume.specs.Loading.{IsCountOf}
use Rattle.fv_volume.specs.OneVolume.{volume_for}
use Rattle.fv_volume.specs.Snaps.{turned_to}
use Rattle.fv_snapshot.specs.Deleting.{RefusesNoSnapshot}

-- The table of a volume's snapshot of a name is the active one, with the numbers of its slot, and the ledger was counted anew.
pub record IsTurned (x : VolumeState) (name : List ℕ) (y : VolumeState) : Type 0 where
  pub snap : Snap
  pub there : snap_named x.snapshots name ≡ Some snap
  pub ledger : Ledger
  pub counted : IsCountOf y ledger
  pub now : y ≡ record (turned_to x snap.table) { map = with_slot x.map 0 (slot_at x.map snap.slot); ledger = ledger }

-- The table of the snapshot of a name was made the active one, or not. It is answered as in each machine in which the volume is within its size and
-- all volumes within the capacity, and the volume is the one that it becomes there. The one fault is that no snapshot has the name, and it comes
-- exactly then, whatever the disk holds; nothing changed then. The volume stays one between points.
pub record Restores (disk : Disk) (pool : Pool) (x : VolumeState) (others : ℕ) (name : List ℕ) (y : VolumeState) (result : Result Unit VolumeFault) : Type 0 where
  pub changes : IsHeldIn disk pool x.slot x → Changes (HasWithin x.name (volume_for disk pool x) others pool.found.blocks) (SnapRestore x.name name) x.name (volume_for disk pool x) (volume_for disk pool y) result
  pub done : OnOk result (IsTurned x name y)
  pub failed : OnErr result (y ≡ x)
  pub held : IsHeldIn disk pool x.slot x → IsHeldIn disk pool x.slot y
  pub cause : IfErr result (λ e. e ≡ Refused NoSnapshot)
  pub lost : RefusesNoSnapshot x.snapshots name result
