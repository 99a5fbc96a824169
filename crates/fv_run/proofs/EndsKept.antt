-- Which counts of faults rose in a call that left the ends of the host as they were.
use Rattle.std.proofs.Common.{◌≡◌, ap}
use Rattle.std.specs.Prelude.{Some, None}
use Rattle.fv_disk.specs.Shown.{Shown, Ends, Rose}
use Rattle.fv_lines.specs.Counts.{Counts, Disk}
use Rattle.fv_aggregate.specs.Causes.{KeepsEnds}

-- no call of the disk failed
pub counts_kept : {old new : Shown} → KeepsEnds old new → new.faults ≡ old.faults → Counts old new None
counts_kept kept same = record {
  tells = kept.tells;
  source = ap (λ (e : Ends). e.source_faults) kept.ends;
  sink = ap (λ (e : Ends). e.sink_faults) kept.ends;
  disk = same;
}

-- one did
pub counts_rose : {old new : Shown} → KeepsEnds old new → Rose old.faults new.faults → Counts old new (Some Disk)
counts_rose kept rose = record {
  tells = kept.tells;
  source = ap (λ (e : Ends). e.source_faults) kept.ends;
  sink = ap (λ (e : Ends). e.sink_faults) kept.ends;
  disk = rose;
}
