-- How a run ends: its faults, and for each of them the status and the count that tell of it.
use Rattle.std.specs.Prelude.{◌≡◌, ℕ, Option, Some, None, Result, Ok, Err}
use Rattle.fv_lines.specs.Counts.{Count}
use Rattle.fv_lines.specs.Counts as count
use Rattle.fv_first_pass.specs.declared.fault.CheckFault.{CheckFault}
use Rattle.fv_first_pass.specs.declared.fault.CheckFault.TheVariants as checking
use Rattle.fv_aggregate.specs.declared.fault.OpenFault.{OpenFault}
use Rattle.fv_aggregate.specs.declared.fault.OpenFault.TheVariants as opening
use Rattle.fv_aggregate.specs.declared.fault.Fault.{Fault as SessionFault}
use Rattle.fv_aggregate.specs.declared.fault.Fault.TheVariants as session
use Rattle.fv_run.specs.declared.ending.Fault.{Fault}
use Rattle.fv_run.specs.declared.ending.Fault.TheVariants.{Usage, Unsound, NotAggregate, Source, Sink, Disk, Memory, Damaged, Limit}

abbrev pub status_of : Fault → ℕ
status_of Unsound = 1
status_of NotAggregate = 2
status_of Source = 3
status_of Sink = 4
status_of Disk = 5
status_of Memory = 6
status_of Usage = 7
status_of Damaged = 8
status_of Limit = 9

-- the status after a result
abbrev pub status_in : Result Unit Fault → ℕ
status_in (Ok done) = 0
status_in (Err fault) = status_of fault

-- A call ends with a status that tells of its result, of which this holds.
pub record EndsWith (Holds : Result Unit Fault → Type 0) (answer : ℕ) : Type 0 where
  pub end : Result Unit Fault
  pub status : answer ≡ status_in end
  pub holds : Holds end

-- the count that rose where a fault ended a run; the others have none
abbrev pub count_of : Fault → Option Count
count_of Source = Some count.Source
count_of Sink = Some count.Sink
count_of Disk = Some count.Disk
count_of fault = None

abbrev pub raised_by : {T : Type 0} → Result T Fault → Option Count
raised_by (Ok done) = None
raised_by (Err fault) = count_of fault

abbrev pub of_opening : OpenFault → Fault
of_opening opening.DiskFault = Disk
of_opening opening.NotAggregate = NotAggregate
of_opening (opening.Damaged at want found) = Damaged
of_opening opening.Memory = Memory

abbrev pub of_session : SessionFault → Fault
of_session session.DiskFault = Disk
of_session (session.Failed faults) = Disk
of_session (session.Damaged at want found) = Damaged
of_session session.Memory = Memory

abbrev pub of_check : CheckFault → Fault
of_check checking.DiskFault = Disk
of_check checking.NotAggregate = NotAggregate
of_check checking.Memory = Memory

-- a fault that may end a run over the image of a machine
abbrev pub IsWholeFault : Fault → Type 0
IsWholeFault NotAggregate = ⊥
IsWholeFault Damaged = ⊥
IsWholeFault Usage = ⊥
IsWholeFault Unsound = ⊥
IsWholeFault fault = Unit {0}
