use Rattle.std.proofs.Common.{◌≡◌, ◌≤◌, ◌*◌, ◌^◌}
use Rattle.fv_fourth_pass.specs.Spaced.{commits_to}
use Rattle.fv_fourth_pass.proofs.numbers.commits.Given as goal

abbrev pub invariant-loop-slot : goal.invariant-loop-slot
invariant-loop-slot l = record { sum : l.sum ≡ commits_to l.labels l.uses l.slot; most : l.sum ≤ l.slot * 2 ^ 57 }
