use Rattle.std.proofs.Common.{◌≡◌, ◌≤◌}
use Rattle.fv_bits.proofs.Counts.{passing}
use Rattle.fv_charge.specs.Counted.{is_apart}
use Rattle.fv_charge.proofs.count.count_apart.Given as goal

abbrev pub invariant-loop-number : goal.invariant-loop-number
invariant-loop-number l = (l.count ≡ passing (is_apart l.held l.base) 0 l.number) × (l.count ≤ l.number)
