use Rattle.std.proofs.Common.{◌≡◌, ℕ, List, ◌++◌, length}
use Rattle.fv_third_pass.specs.Tallied.{Tallies}
use Rattle.fv_third_pass.specs.Words.{in_row}
use Rattle.fv_third_pass.proofs.words.hold_row.Given as goal

abbrev pub invariant-loop-vvbn : goal.invariant-loop-vvbn
invariant-loop-vvbn l = record {
  size : length l.holders.held ≡ length l.fn.holders.held;
  tallies : (list : List ℕ) → Tallies list l.fn.holders → Tallies (list ++ in_row l.row l.vvbn) l.holders;
}
