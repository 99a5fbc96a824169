use Rattle.std.proofs.Common.{◌≡◌, ℕ, ◌<◌, ◌≤◌, true, false, get_or}
use Rattle.fv_container.proofs.places.is_same_between.Given as goal

abbrev pub invariant-loop-k : goal.invariant-loop-k
invariant-loop-k l = record {
  same : l.same ≡ true → (k : ℕ) → l.from ≤ k → k < l.k → get_or l.places k 0 ≡ get_or l.tree k 0;
  differs : l.same ≡ false → ((k : ℕ) → l.from ≤ k → k < l.end → get_or l.places k 0 ≡ get_or l.tree k 0) → ⊥;
}
