-- What a session is once blocks were read for it.
use Rattle.std.specs.Prelude.{◌≡◌, ℕ, None}
use Rattle.std.specs.Option.{option_map}
use Rattle.fv_disk.specs.Shown.{Shown}
use Rattle.fv_disk.specs.DiskCalls.{OnlyReads}
use Rattle.fv_pool.specs.BlocksOver.{LeavesPool}
use Rattle.fv_volume.specs.declared.state.VolumeState.{VolumeState}
use Rattle.fv_volume.specs.States.{States, state_at}
use Rattle.fv_aggregate.specs.declared.session.Session.{Session}

-- a volume without the numbers of its files in memory
abbrev pub but_numbers : VolumeState → VolumeState
but_numbers x = record x { numbers = None }

-- Of the volumes nothing changed but the numbers of files in memory.
abbrev pub SameButNumbers : States → States → Type 0
SameButNumbers old new = (s : ℕ) → option_map but_numbers (state_at new s) ≡ option_map but_numbers (state_at old s)

-- A session is another one but for its cache and the numbers of files in memory.
pub record IsAsRead (old new : Session) : Type 0 where
  pub pool : LeavesPool old.pool new.pool
  pub volumes : SameButNumbers old.volumes new.volumes
  pub same : new ≡ record old { volumes = new.volumes; pool = new.pool }

-- Blocks were read for a session. Of the disk only the time and the count of faults changed, and of the session only its cache and the numbers
-- of files in memory.
pub record WasRead (before : Shown) (old : Session) (after : Shown) (new : Session) : Type 0 where
  pub only_reads : OnlyReads before after
  pub pool : LeavesPool old.pool new.pool
  pub volumes : SameButNumbers old.volumes new.volumes
  pub same : new ≡ record old { volumes = new.volumes; pool = new.pool }
