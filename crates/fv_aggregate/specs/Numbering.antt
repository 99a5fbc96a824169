-- What is done before a command on a volume's files: their numbers are read into memory.
use Rattle.std.specs.Prelude.{◌≡◌, ℕ, true, None, IsTrue, Result, OnErr, OnOk, false}
use Rattle.std.specs.Option.{is_some}
use Rattle.fv_disk.specs.Shown.{Shown}
use Rattle.fv_disk.specs.DiskCalls.{OnlyReads}
use Rattle.fv_disk.specs.declared.fault.BlockFault.{BlockFault}
use Rattle.fv_model.specs.Machines.{Machine}
use Rattle.fv_pool.specs.declared.pool.Pool.{Pool}
use Rattle.fv_volume.specs.declared.state.VolumeState.{VolumeState}
use Rattle.fv_pool.specs.Calls.{BlockCause, Reads}
use Rattle.fv_pool.specs.Lending.{lent_for}
use Rattle.fv_volume.specs.Asking.{TellsActive}
use Rattle.fv_volume.specs.OneVolume.{home_in, standing_for, IsReady, IsStanding}
use Rattle.fv_aggregate.specs.declared.fault.Fault.{Fault}
use Rattle.fv_aggregate.specs.declared.session.Session.{Session}
use Rattle.fv_aggregate.specs.Calls.{Goes, GoesFor, KeepsAsking, KeepsEntries, WasRead}
use Rattle.fv_aggregate.specs.Commands.{AsksTable}
use Rattle.fv_aggregate.specs.Known.{KeepsNumbers}
use Rattle.fv_aggregate.specs.Standing.{StandsFor}

-- The numbers of the files of a slot's volume were read into memory. Nothing changed but these and the cache, and no volume lost its
-- numbers. After a fault the session stands for what it stood for, and nothing changed, either, but for these and that it may have failed.
pub record HasNumbered (slot : ℕ) (before : Shown) (old : Session) (after : Shown) (new : Session) (result : Result Unit Fault) : Type 0 where
  pub goes : Goes 0 (AsksTable slot None false) before old after new result
  pub asks : KeepsAsking 0 before old after new
  pub goes_for : IsTrue before.tells → (last m : Machine) → StandsFor before old last m → GoesFor before last m m after new result
  pub only_reads : OnlyReads before after
  pub entries : KeepsEntries old new
  pub read : OnOk result (WasRead before old after new)
  pub unread : OnErr result (WasRead before old after (record new { failed = old.failed }))
  pub kept : KeepsNumbers old.volumes new.volumes

-- The numbers of the files of a volume are in memory. Nothing else of it changed, nor these where they were there, and calls can be made on it still.
-- Where it stood it stands. Of the pool only the cache changed.
pub record NumbersState (before : Shown) (pool : Pool) (x : VolumeState) (after : Shown) (left : Pool) (y : VolumeState) (result : Result Unit BlockFault) : Type 0 where
  pub reads : Reads before pool after left
  pub there : OnOk result (is_some y.numbers ≡ true)
  pub same : y ≡ record x { numbers = y.numbers }
  pub idle : is_some x.numbers ≡ true → y ≡ x
  pub kept : OnErr result (y ≡ x)
  pub standing : IsStanding before pool x → IsStanding after left y
  pub ready : IsReady after left y
  pub cause : BlockCause (TellsActive before pool x) (standing_for before pool x) (lent_for pool x.map before 0 (home_in x) 0) after.faults result
