use Rattle.std.proofs.Common.{◌≡◌, ℕ, List, ◌++◌, length, take}
use Rattle.fv_third_pass.specs.Tallied.{Tallies}
use Rattle.fv_third_pass.specs.Nodes.{at_places}
use Rattle.fv_third_pass.proofs.words.hold_places.Given as goal

abbrev pub invariant-loop-k : goal.invariant-loop-k
invariant-loop-k l = record {
  size : length l.holders.held ≡ length l.fn.holders.held;
  tallies : (list : List ℕ) → Tallies list l.fn.holders → Tallies (list ++ at_places (take l.k l.places)) l.holders;
}
