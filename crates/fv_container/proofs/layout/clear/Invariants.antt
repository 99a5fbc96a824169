use Rattle.std.proofs.Common.{◌≡◌, ℕ, ◌<◌, length, get_or}
use Rattle.fv_container.proofs.layout.clear.Given as goal

abbrev pub invariant-loop-n : goal.invariant-loop-n
invariant-loop-n l = record {
  len : length l.row ≡ length l.initial.row;
  done : (m : ℕ) → m < l.n → get_or l.row m 0 ≡ 0;
}
