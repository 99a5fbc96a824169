-- What `apply` does with a command.
use Rattle.std.specs.Prelude.{◌≡◌, ◌≢◌, ◌⊎◌, ℕ, None, Result, OnOk, IfOk, IsNone, IsSome, IsTrue, false, true}
use Rattle.fv_disk.specs.Shown.{Shown}
use Rattle.fv_disk.specs.Crash.{Leaves}
use Rattle.fv_disk.specs.DiskCalls.{OnlyReads}
use Rattle.fv_model.specs.declared.answers.Reply.{Reply}
use Rattle.fv_model.specs.declared.commands.Command.{Command}
use Rattle.fv_model.specs.declared.commands.Command.TheVariants.{Cp}
use Rattle.fv_model.specs.Machines.{Machine}
use Rattle.fv_cp.specs.Placing.{HaveNoFiles}
use Rattle.fv_cp.specs.Settling.{OldOrHeld}
use Rattle.fv_aggregate.specs.declared.fault.Fault.{Fault}
use Rattle.fv_aggregate.specs.declared.session.Session.{Session}
use Rattle.fv_aggregate.specs.Calls.{CountsSteps, GoesFor, IsOnFiles, IsPlain, IsWithinLimit, KeepsAsking, MakesNoHoles}
use Rattle.fv_aggregate.specs.Cleaning.{GoesAs, StepsBy}
use Rattle.fv_aggregate.specs.Commands.{asked_by, changed_by, changes_volume, is_refusal, keeps_todo, machine_after, places_files, reaches_disk, reads_files, removes_volume, room_by, takes_steps, Replies}
use Rattle.fv_aggregate.specs.Known.{KeepsNumbersBut, MayLose}
use Rattle.fv_aggregate.specs.Reclaiming.{HasPointed, MakesRoom}
use Rattle.fv_aggregate.specs.Standing.{HoldsAsCommitted, IsWithoutFiles, StandsFor}
use Rattle.fv_aggregate.specs.Working.{LeavesTodo}

-- A command was applied, or not. Whatever the disk holds: what every call does (`goes`), and what a command that reads files does beside
-- and each other one (`on_files`, `plain`); a session that has failed leaves the disk (`dead`). Where the session stands for a machine it
-- is answered as that answers (`reply`), and stands for the next one (`goes_for`).
pub record HasApplied {D : Type 0} (command : Command) (shown : Shown) (before : D) (old : Session) (start : ℕ)
    (shown_after : Shown) (after : D) (new : Session) (stop : ℕ) (result : Result Reply Fault) : Type 0 where
  pub goes : GoesAs (takes_steps command) (room_by old.volumes command) (asked_by old.volumes command) shown old shown_after new result
  -- one that copies blocks writes free ones, where an image that stands for no machine may have labels of volumes; one that takes steps may run
  -- points of its own
  pub asks : changes_volume command ≡ false → reaches_disk command ≡ false → KeepsAsking (room_by old.volumes command) shown old shown_after new
  pub goes_for : IsTrue shown.tells → (last m : Machine) → StandsFor shown old last m
      → GoesFor shown last m (machine_after m command) shown_after new result
  pub reply : IsTrue shown.tells → (last m : Machine) → StandsFor shown old last m → IfOk result (Replies m command)
  pub plain : reads_files command ≡ false → IsPlain command shown before old shown_after after new result
  pub on_files : reads_files command ≡ true → IsOnFiles command shown before old shown_after after new result
  -- a `cp` is a consistency point, and each image on its way is one side of it
  pub point : IsTrue shown.tells → (last m : Machine) → StandsFor shown old last m → command ≡ Cp
      → OnOk result (HasPointed 0 old shown_after new m)
  pub sides : IsTrue shown.tells → (last m : Machine) → StandsFor shown old last m → command ≡ Cp
      → Leaves shown shown_after (OldOrHeld shown old.pool old.volumes last)
  -- a point that makes room for a command is one, too, for its room; one that takes steps makes room for each
  pub roomy : takes_steps command ≡ false → MakesRoom (room_by old.volumes command) shown old shown_after result
  -- with room within the dirty limit each other one writes nothing, but one that copies blocks or takes steps, and but for the latter it makes no
  -- entry of a volume that stays a hole
  pub calm : command ≢ Cp → reaches_disk command ≡ false → IsWithinLimit old command → OnlyReads shown shown_after
  pub entries : command ≢ Cp → takes_steps command ≡ false → IsWithinLimit old command → removes_volume command ≡ false → MakesNoHoles old new
  -- no file comes into memory, and what the next root would hold is what the root on the disk holds, as far as the command leaves that; one that
  -- copies blocks doesn't, nor one that takes steps
  pub files : IsTrue shown.tells → changed_by command ≡ None → reaches_disk command ≡ false → IsWithoutFiles old → OnOk result (IsWithoutFiles new)
  pub same : IsTrue shown.tells → changed_by command ≡ None → reaches_disk command ≡ false → removes_volume command ≡ false
      → (places_files command ≡ false) ⊎ IsWithoutFiles old → HoldsAsCommitted old → OnOk result (HoldsAsCommitted new)
  -- what background steps do, and what they leave to be done
  pub stepped : takes_steps command ≡ true → IsNone old.failed → StepsBy command shown before old shown_after after new result
  -- What is left to do stays, where no file is in memory, by a command that only asks, by a `cp`, and by one that is refused; and so does the
  -- active table of each volume.
  pub left : IsTrue shown.tells → (last m : Machine) → StandsFor shown old last m → HaveNoFiles old.volumes
      → IfOk result (λ reply. (keeps_todo command ≡ true) ⊎ IsTrue (is_refusal reply) → LeavesTodo shown old shown_after new)
  pub steps : CountsSteps command shown old start stop result
  pub numbers : IsNone new.failed → KeepsNumbersBut (MayLose command old.volumes) old.volumes new.volumes
  pub dead : IsSome old.failed → after ≡ before
