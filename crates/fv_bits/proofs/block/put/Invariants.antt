use Rattle.std.proofs.Common.{◌≡◌, ℕ, ◌+◌, ◌<◌, ◌≤◌, length, get_or}
use Rattle.fv_bits.proofs.block.put.Given as goal

abbrev pub invariant-loop-at : goal.invariant-loop-at
invariant-loop-at l = record {
  inside : (k : ℕ) → k < l.at → l.first + k < length l.initial.words → get_or l.words (l.first + k) 0 ≡ get_or l.block k 0;
  before : (k : ℕ) → k < l.first → get_or l.words k 0 ≡ get_or l.initial.words k 0;
  behind : (k : ℕ) → l.first + l.at ≤ k → get_or l.words k 0 ≡ get_or l.initial.words k 0;
}
