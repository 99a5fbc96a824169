use Rattle.std.proofs.Common.{◌≡◌, ◌≤◌, ◌*◌}
use Rattle.fv_model.specs.Numbers.{most_overhead}
use Rattle.fv_fourth_pass.specs.Spaced.{overheads_to}
use Rattle.fv_fourth_pass.proofs.numbers.overheads.Given as goal

abbrev pub invariant-loop-slot : goal.invariant-loop-slot
invariant-loop-slot l = record { sum : l.sum ≡ overheads_to l.labels l.slot; most : l.sum ≤ l.slot * most_overhead }
