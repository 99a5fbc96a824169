use Rattle.std.proofs.Common.{◌≡◌, ◌≤◌, ◌*◌}
use Rattle.fv_aggregate.specs.Delayed.{held_in}
use Rattle.fv_aggregate.proofs.delays.sum_held.Given as goal

abbrev pub invariant-loop-slot : goal.invariant-loop-slot
invariant-loop-slot l = (l.sum ≡ held_in l.volumes l.slot) × (l.sum ≤ 8589934591 * l.slot)
