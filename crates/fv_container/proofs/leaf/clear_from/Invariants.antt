use Rattle.std.proofs.Common.{◌≡◌, ◌<◌, ◌≤◌, ℕ, length}
use Rattle.fv_container.specs.Paged.{pair_at}
use Rattle.fv_container.proofs.leaf.clear_from.Given as goal

abbrev pub invariant-loop-c : goal.invariant-loop-c
invariant-loop-c l = record {
  index : l.leaf.index ≡ l.initial.leaf.index;
  pvbns : length l.leaf.pvbns ≡ 256;
  kinds : length l.leaf.kinds ≡ 256;
  before : (c : ℕ) → c < 256 → c < l.from → pair_at l.leaf c ≡ pair_at l.initial.leaf c;
  later : (c : ℕ) → c < 256 → l.c ≤ c → pair_at l.leaf c ≡ pair_at l.initial.leaf c;
  past : (c : ℕ) → c < l.c → l.from ≤ c → pair_at l.leaf c ≡ (0, 0);
}
