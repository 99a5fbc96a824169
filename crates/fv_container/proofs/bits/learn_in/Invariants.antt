use Rattle.std.proofs.Common.{◌≡◌, ◌<◌, ◌≤◌, ◌+◌, ◌⊎◌, ℕ, not, length, get_or, false}
use Rattle.std.specs.Prelude.{◌==◌}
use Rattle.fv_container.proofs.bits.learn_in.Given as goal

abbrev pub invariant-loop-c : goal.invariant-loop-c
invariant-loop-c l = record {
  long : length l.used ≡ length l.initial.used;
  here : (c : ℕ) → c < l.c → l.from + c < length l.initial.used → get_or l.used (l.from + c) false ≡ not (get_or l.leaf.kinds c 0 == 0);
  others : (v : ℕ) → (v < l.from) ⊎ (l.from + l.c ≤ v) → get_or l.used v false ≡ get_or l.initial.used v false;
}
