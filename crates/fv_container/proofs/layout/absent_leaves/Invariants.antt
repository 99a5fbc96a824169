use Rattle.std.proofs.Common.{◌≡◌, ◌<◌, ◌≤◌, ℕ, true, false, length, get_or}
use Rattle.std.specs.Vec.{vec_capacity}
use Rattle.fv_container.proofs.layout.absent_leaves.Given as goal

abbrev pub invariant-loop-k : goal.invariant-loop-k
invariant-loop-k l = record {
  long : length l.absent.items ≡ l.leaves;
  room : l.room ≤ vec_capacity l.absent;
  absent : (k : ℕ) → k < l.k → get_or l.absent.items k false ≡ true → get_or l.tree k 0 ≡ 0;
  there : (k : ℕ) → k < l.k → get_or l.tree k 0 ≡ 0 → get_or l.absent.items k false ≡ true;
}
