-- What is left of a session where a change of a file of a volume wasn't made.
use Rattle.std.specs.Prelude.{◌≡◌, ◌≢◌, ◌<◌, ℕ, true, false, List, Some}
use Rattle.fv_disk.specs.Shown.{Shown}
use Rattle.fv_disk.specs.DiskCalls.{OnlyReads}
use Rattle.fv_container.specs.Chains.{slot_count}
use Rattle.fv_pool.specs.declared.pool.Pool.{Pool}
use Rattle.fv_pool.specs.BlocksOver.{LeavesPool}
use Rattle.fv_pool.specs.Calls.{GivesUp}
use Rattle.fv_volume.specs.declared.state.VolumeState.{VolumeState}
use Rattle.fv_volume.specs.OneVolume.{volume_for, IsStanding}
use Rattle.fv_volume.specs.Slots.{HasName}
use Rattle.fv_volume.specs.States.{state_at}
use Rattle.fv_aggregate.specs.declared.session.Session.{Session}
use Rattle.fv_aggregate.specs.Reading.{but_numbers}

-- A volume is as it was, but for what of its files is in memory, the numbers in use that these gave up, and that the next point may have it to write.
-- Where that hasn't, only the numbers of its files may have come. Where it stood for a volume of the machine, it stands for the same one.
pub record KeepsVolume (before : Shown) (pool : Pool) (x : VolumeState) (after : Shown) (left : Pool) (y : VolumeState) : Type 0 where
  pub same : y ≡ record x { map = y.map; files = y.files; numbers = y.numbers; changed = y.changed }
  pub maps : GivesUp x.map y.map
  pub unwritten : x.changed ≡ true → y.changed ≡ true
  pub idle : y.changed ≡ false → but_numbers y ≡ but_numbers x
  pub standing : IsStanding before pool x → IsStanding after left y
  pub volume : IsStanding before pool x → volume_for after left y ≡ volume_for before pool x

-- No change was made of the volume of a slot. Of the disk only the time and the count of faults changed, and of what the volumes share only the
-- cache; each other volume is as it was. More blocks may be counted as pending, and the session may have failed.
pub record IsUnmade (before : Shown) (old : Session) (slot : ℕ) (after : Shown) (new : Session) : Type 0 where
  pub only_reads : OnlyReads before after
  pub pool : LeavesPool old.pool new.pool
  pub state : VolumeState
  pub there : state_at old.volumes slot ≡ Some state
  pub now : VolumeState
  pub left : state_at new.volumes slot ≡ Some now
  pub volume : KeepsVolume before old.pool state after new.pool now
  pub others : (s : ℕ) → s ≢ slot → state_at new.volumes s ≡ state_at old.volumes s
  pub same : new ≡ record old { volumes = new.volumes; pool = new.pool; pending = new.pending; failed = new.failed }

-- so it is of the volume of a name
pub record IsUnmadeIn (before : Shown) (old : Session) (name : List ℕ) (after : Shown) (new : Session) : Type 0 where
  pub slot : ℕ
  pub within : slot < slot_count
  pub named : HasName old.volumes slot name
  pub unmade : IsUnmade before old slot after new
