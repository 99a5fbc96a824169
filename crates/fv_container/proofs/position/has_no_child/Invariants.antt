use Rattle.std.proofs.Common.{◌≡◌, ℕ, ◌<◌, ◌≤◌, get_or}
use Rattle.fv_container.proofs.position.has_no_child.Given as goal

abbrev pub invariant-loop-c : goal.invariant-loop-c
invariant-loop-c l = (c : ℕ) → l.from ≤ c → c < l.c → get_or l.children c 0 ≡ 0
