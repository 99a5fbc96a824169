use Rattle.std.proofs.Common.{◌≡◌, ℕ, ◌+◌, ◌<◌, ◌≤◌, ◌⊎◌, length, get_or}
use Rattle.fv_container.proofs.load.fill_children.Given as goal

abbrev pub invariant-loop-c : goal.invariant-loop-c
invariant-loop-c l = record {
  len : length l.places ≡ length l.initial.places;
  filled : (c : ℕ) → c < l.c → l.from + c < l.end → get_or l.places (l.from + c) 0 ≡ get_or l.children c 0;
  past : (m : ℕ) → l.end ≤ m → get_or l.places m 0 ≡ get_or l.initial.places m 0;
  outside : (m : ℕ) → (m < l.from) ⊎ (l.from + l.c ≤ m) → get_or l.places m 0 ≡ get_or l.initial.places m 0;
}
