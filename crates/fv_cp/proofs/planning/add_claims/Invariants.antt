use Rattle.std.proofs.Common.{◌≡◌, ◌≤◌, ◌+◌, min, drop}
use Rattle.std.specs.Prelude.{sum_by}
use Rattle.fv_cp.specs.Choosing.{greatest_number, claimed, claimed_by}
use Rattle.fv_cp.proofs.planning.add_claims.Given as goal

abbrev pub invariant-loop-slot : goal.invariant-loop-slot
invariant-loop-slot l = record {
  sum : min (l.sum + sum_by claimed_by (drop l.slot l.volumes)) greatest_number ≡ min (l.first + claimed l.volumes) greatest_number;
  most : l.sum ≤ greatest_number;
}
