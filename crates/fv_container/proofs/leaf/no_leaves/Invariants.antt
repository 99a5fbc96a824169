use Rattle.std.proofs.Common.{◌≡◌, ◌≤◌, None, replicate}
use Rattle.std.specs.Vec.{vec_capacity}
use Rattle.fv_container.proofs.leaf.no_leaves.Given as goal

abbrev pub invariant-loop : goal.invariant-loop
invariant-loop l = record {
  leaves : l.leaves.items ≡ replicate l.counter None;
  room : l.room ≤ vec_capacity l.leaves;
}
