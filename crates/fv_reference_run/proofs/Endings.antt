-- How calls end, one after another.
use Rattle.std.proofs.Common.{◌≢◌}
use Rattle.std.specs.Prelude.{Option, Some, None, Ok, Err}
use Rattle.fv_disk.specs.declared.Failed.{Failed}
use Rattle.fv_disk.specs.Shown.{Shown}
use Rattle.fv_disk.proofs.Resting.{rests_itself, rests_on}
use Rattle.fv_lines.specs.Reading.{Asks}
use Rattle.fv_lines.proofs.Counting.{counts_none, counts_then, asked, asked_failed}
use Rattle.fv_reference_run.specs.declared.ending.Fault.{Fault}
use Rattle.fv_reference_run.specs.declared.ending.Fault.TheVariants.{Usage, Source, Memory}
use Rattle.fv_reference_run.specs.Endings.{Ends}

pub no_fault : None ≢ Some Usage
no_fault e = cc

memory_understood : Some Memory ≢ Some Usage
memory_understood e = cc

source_understood : Some Source ≢ Some Usage
source_understood e = cc

-- no call
pub ends_none : (host : Shown) → Ends host host None
ends_none host = record { rests = rests_itself host; counts = counts_none host; understood = no_fault }

-- calls that were done, and then more of them
pub ends_then : (old mid new : Shown) (fault : Option Fault) → Ends old mid None → Ends mid new fault → Ends old new fault
ends_then old mid new fault first second = record {
  rests = rests_on old mid new first.rests second.rests;
  counts = counts_then old mid new _ first.counts second.counts;
  understood = second.understood;
}

-- calls that were done, and then there is no memory
pub ends_wanting : (old new : Shown) → Ends old new None → Ends old new (Some Memory)
ends_wanting old new ends = record { rests = ends.rests; counts = ends.counts; understood = memory_understood }

-- calls of the source alone
pub ends_asked : {X : Type 0} (old new : Shown) (x : X) → Asks old new (Ok x) → Ends old new None
ends_asked old new x asks = record { rests = asks.rests; counts = asked old new x asks; understood = no_fault }

pub ends_unasked : {X : Type 0} (old new : Shown) (e : Failed) → Asks {T = X} old new (Err e) → Ends old new (Some Source)
ends_unasked old new e asks = record { rests = asks.rests; counts = asked_failed old new e asks; understood = source_understood }
