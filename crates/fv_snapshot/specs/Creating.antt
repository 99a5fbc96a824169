-- What making a snapshot answers and leaves.
use Rattle.std.specs.Prelude.{Bool, cond, get_or, is_some, false, true, map, ◌≡◌, ◌≤◌, ◌+◌, ℕ, List, None, Option, Some, Result, Ok, Err, IfErr, IfOk, OnErr, OnOk}
use Rattle.std.specs.List.{list_all, range_with_len}
use Rattle.fv_disk.specs.Shown.{Rose, Shown as Disk}
use Rattle.fv_charge.specs.declared.ledger.Ledger.{Ledger}
use Rattle.fv_charge.specs.Changes.{admission}
use Rattle.fv_model.specs.Numbers.{most_snapshots}
use Rattle.fv_model.specs.declared.answers.Refusal.{Refusal}
use Rattle.fv_model.specs.declared.answers.Refusal.TheVariants.{SnapshotExists, TooMany}
use Rattle.fv_model.specs.declared.commands.Command.TheVariants.{SnapCreate}
use Rattle.fv_model.specs.Machines.{Machine, capacity}
use Rattle.fv_model.specs.Refusals.{refusal}
use Rattle.fv_model.specs.Space.{map_blocks}
use Rattle.fv_model.specs.Tables.{Table}
use Rattle.fv_tables.specs.Spelled.{Under}
use Rattle.fv_image.specs.ReachRules.{are_distinct}
use Rattle.fv_pool.specs.declared.fault.VolumeFault.{VolumeFault}
use Rattle.fv_pool.specs.declared.fault.VolumeFault.TheVariants.{Refused, DiskFault, Damaged, Memory}
use Rattle.fv_pool.specs.declared.pool.Pool.{Pool}
use Rattle.fv_volume.specs.declared.state.Snap.{Snap}
use Rattle.fv_volume.specs.declared.state.VolumeState.{VolumeState}
use Rattle.fv_volume.specs.Asking.{snap_named}
use Rattle.fv_volume.specs.Calls.{Changes, HasBeside}
use Rattle.fv_volume.specs.Held.{IsHeldIn, IsPlacedAs, MayFail}
use Rattle.fv_volume.specs.OneVolume.{base_told_by, snaps_by, volume_as, volume_for, Content}
use Rattle.fv_volume.specs.Promising.{CanHave}
use Rattle.fv_volume.specs.Snaps.{with_snapshot}
use Rattle.fv_volume.specs.Snapshots.{IsLeastFree, has_slot}
use Rattle.fv_volume.specs.States.{snaps_in}

-- the refusal that is answered, if it is one
abbrev pub refusal_in : {T : Type 0} → Result T Refusal → Option Refusal
refusal_in (Ok x) = None
refusal_in (Err r) = Some r

-- whether each slot that a snapshot can have is one's
abbrev pub are_full : List Snap → Bool
are_full snaps = list_all (λ k. has_slot snaps k) (range_with_len 1 most_snapshots)

-- The refusal of a snapshot of a name, by what a volume has in memory: the list of its snapshots, and its ledger. The aggregate has so many blocks,
-- of which the other volumes commit so many.
abbrev pub creation_refusal : List Snap → Ledger → ℕ → ℕ → List ℕ → Option Refusal
creation_refusal snaps ledger blocks others name =
    cond (is_some (snap_named snaps name)) (Some SnapshotExists)
    (cond (are_full snaps) (Some TooMany) (refusal_in (admission (record ledger { charge = ledger.charge + map_blocks ledger.span }) others (capacity blocks))))

-- what a volume holds with this active table, and with the tables of its snapshots and of its base over these blocks
abbrev pub content_by : Table → (ℕ → Under) → VolumeState → Content
content_by active blocks x = record { active = active; snapshots = snaps_by blocks x.snapshots; base = base_told_by blocks x.base }

-- A snapshot of a name is refused as in each machine that has the volume, whatever it holds, in an aggregate of so many blocks of which the others
-- commit so many. So it is where the snapshots have different names. The refusal rests on what the volume has in memory alone. Where it isn't
-- refused, no snapshot has the name, the least free map slot is answered, and the volume has room for the map.
pub record JudgesCreation (x : VolumeState) (blocks others : ℕ) (name : List ℕ) (result : Result ℕ Refusal) : Type 0 where
  pub agrees : (active : Table) (blocks_of : ℕ → Under) (m : Machine) → CanHave x (content_by active blocks_of x) → are_distinct (map (λ p. p.name) (snaps_in x.snapshots)) ≡ true
      → HasBeside x.name (volume_as x (content_by active blocks_of x)) others blocks m → refusal m (SnapCreate x.name name) ≡ refusal_in result
  pub same : refusal_in result ≡ creation_refusal x.snapshots x.ledger blocks others name
  pub slot : IfOk result (IsLeastFree x.snapshots)
  pub none : OnOk result (snap_named x.snapshots name ≡ None)
  pub fits : OnOk result (x.ledger.charge + map_blocks x.span ≤ x.size)

-- A volume has this map slot for a snapshot of a name: the least that is free. No snapshot has the name, and there is room for the map.
pub record IsGranted (x : VolumeState) (name : List ℕ) (slot : ℕ) : Type 0 where
  pub free : IsLeastFree x.snapshots slot
  pub none : snap_named x.snapshots name ≡ None
  pub fits : x.ledger.charge + map_blocks x.span ≤ x.size

-- What changed of a volume's files was placed, and then a snapshot of its active table was kept under the least free slot.
pub record IsSnapped (disk : Disk) (pool : Pool) (x : VolumeState) (after : Disk) (left : Pool) (name : List ℕ) (y : VolumeState) : Type 0 where
  pub mid : VolumeState
  pub placed : IsPlacedAs disk pool x after left mid
  pub none : mid.files ≡ None
  pub slot : ℕ
  pub free : IsLeastFree x.snapshots slot
  pub now : y ≡ with_snapshot mid slot name

-- Why a step on snapshots wasn't done: it is refused, what changed of the files wasn't placed, or memory ran out. The disk's count of faults rose where
-- a read failed, and stays otherwise.
abbrev pub SnapFails : Disk → Disk → Pool → VolumeState → VolumeFault → Type 0
SnapFails disk after pool x (Refused r) = after.faults ≡ disk.faults
SnapFails disk after pool x DiskFault = MayFail disk pool (Some x) DiskFault × Rose disk.faults after.faults
SnapFails disk after pool x (Damaged at want found) = MayFail disk pool (Some x) (Damaged at want found) × (after.faults ≡ disk.faults)
SnapFails disk after pool x Memory = after.faults ≡ disk.faults

-- A snapshot of a name was made of a volume, or not. It is answered as in each machine that has the volume, and the volume is the one that it
-- becomes there. Where it is refused nothing changed, and after another fault files were placed alone. The volume stays one between points.
pub record Creates (disk : Disk) (pool : Pool) (x : VolumeState) (others : ℕ) (name : List ℕ) (after : Disk) (left : Pool) (y : VolumeState) (result : Result Unit VolumeFault) : Type 0 where
  pub changes : IsHeldIn disk pool x.slot x → Changes (HasBeside x.name (volume_for disk pool x) others pool.found.blocks) (SnapCreate x.name name) x.name (volume_for disk pool x) (volume_for after left y) result
  pub done : OnOk result (IsSnapped disk pool x after left name y)
  pub failed : OnErr result (IsPlacedAs disk pool x after left y)
  pub refused : IfErr result (λ e. (r : Refusal) → e ≡ Refused r → (left ≡ pool) × (y ≡ x))
  pub held : IsHeldIn disk pool x.slot x → IsHeldIn after left x.slot y
  pub cause : IfErr result (SnapFails disk after pool x)
  pub calm : OnOk result (after.faults ≡ disk.faults)

-- What is known of it in memory, whatever the volume stands for: it is refused only as it is judged, and the map that was kept waits to be written.
pub record TellsCreation (pool : Pool) (x : VolumeState) (others : ℕ) (name : List ℕ) (y : VolumeState) (result : Result Unit VolumeFault) : Type 0 where
  pub judged : IfErr result (λ e. (r : Refusal) → e ≡ Refused r → creation_refusal x.snapshots x.ledger pool.found.blocks others name ≡ Some r)
  pub waits : OnOk result ((slot : ℕ) → IsLeastFree x.snapshots slot → get_or y.fresh slot false ≡ true)
