use Rattle.std.proofs.Common.{◌-◌, ◌≤◌}
use Rattle.fv_container.specs.Passing.{IsAll}
use Rattle.fv_container.proofs.passing.pass_many.Given as goal

abbrev pub invariant-loop-n : goal.invariant-loop-n
invariant-loop-n g l = record {
  least : l.from ≤ l.n;
  most : l.n ≤ l.end;
  passed : IsAll g.T.PartialEq.eq l.row l.value l.from l.n;
}

abbrev pub decreases-loop-n : goal.decreases-loop-n
decreases-loop-n g l = l.end - l.n
