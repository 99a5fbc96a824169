use Rattle.std.proofs.Common.{◌≤◌, ◌-◌, length}
use Rattle.fv_aggmap.proofs.Holding.{AreHeldTo}
use Rattle.fv_aggmap.proofs.free.free_from.Given as goal

abbrev pub invariant-loop-left_free : goal.invariant-loop-left_free
invariant-loop-left_free l = record {
  after : l.from ≤ l.at;
  within : l.at ≤ length l.left;
  held : AreHeldTo l.left l.right l.from l.at;
}

abbrev pub decreases-loop-left_free : goal.decreases-loop-left_free
decreases-loop-left_free l = length l.left - l.at
