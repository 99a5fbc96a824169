use Rattle.std.proofs.Common.{◌≡◌, ◌≤◌, length}
use Rattle.fv_fourth_pass.specs.Silent.{HasLow}
use Rattle.fv_fourth_pass.proofs.reach_sets.copied_to.Given as goal

abbrev pub invariant-loop-number : goal.invariant-loop-number
invariant-loop-number l = record {
  size : length l.copy ≡ l.span;
  low : length l.from ≤ l.span → HasLow l.from l.copy l.number;
}
