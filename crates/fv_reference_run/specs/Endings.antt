-- How a run ends.
use Rattle.std.specs.Prelude.{◌≡◌, ◌<◌, ◌≢◌, ℕ, List, ◌++◌, length, take, Option, Some, None, Result, Ok, Err}
use Rattle.fv_disk.specs.Shown.{Shown}
use Rattle.fv_disk.specs.HostCalls.{Rests}
use Rattle.fv_lines.specs.Counts.{Count, Counts}
use Rattle.fv_lines.specs.Counts as count
use Rattle.fv_reference_run.specs.declared.ending.Fault.{Fault}
use Rattle.fv_reference_run.specs.declared.ending.Fault.TheVariants.{Usage, Source, Sink, Memory}

abbrev pub status_of : Fault → ℕ
status_of Source = 3
status_of Sink = 4
status_of Memory = 6
status_of Usage = 7

-- the status after a result
abbrev pub status_in : Result Unit Fault → ℕ
status_in (Ok done) = 0
status_in (Err fault) = status_of fault

abbrev pub fault_in : {T : Type 0} → Result T Fault → Option Fault
fault_in (Ok x) = None
fault_in (Err fault) = Some fault

-- the count of faults that an end raises: want of memory and words without meaning have none
abbrev pub raised_by : Option Fault → Option Count
raised_by (Some Source) = Some count.Source
raised_by (Some Sink) = Some count.Sink
raised_by other = None

-- The disk rests, a fault has its cause, and words that were understood have a meaning.
pub record Ends (old new : Shown) (fault : Option Fault) : Type 0 where
  pub rests : Rests old new
  pub counts : Counts old new (raised_by fault)
  pub understood : fault ≢ Some Usage

-- all bytes are given, or a prefix of them, and never the whole, after a fault
abbrev pub IsGiven : Option Fault → List ℕ → List ℕ → List ℕ → Type 0
IsGiven None old bytes new = new ≡ old ++ bytes
IsGiven (Some fault) old bytes new = (k : ℕ) × (k < length bytes) × (new ≡ old ++ take k bytes)
