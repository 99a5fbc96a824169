use Rattle.std.proofs.Common.{◌≤◌}
use Rattle.fv_container.specs.Passing.{IsAll}
use Rattle.fv_container.proofs.passing.next_other.Given as goal

abbrev pub invariant-loop-n : goal.invariant-loop-n
invariant-loop-n g l = record {
  least : l.from ≤ l.n;
  passed : IsAll g.T.PartialEq.eq l.row l.value l.from l.n;
}
