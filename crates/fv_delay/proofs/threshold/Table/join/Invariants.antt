use Rattle.std.proofs.Common.{◌≡◌, ℕ, ◌<◌, ◌≤◌, get_or, length}
use Rattle.fv_delay.proofs.Joining.{joined}
use Rattle.fv_delay.proofs.threshold.Table.join.Given as goal

abbrev pub invariant-loop-level : goal.invariant-loop-level
invariant-loop-level l = record {
  all : l.self.all ≡ joined l.fn.self.all l.other.all;
  full : l.self.full ≡ joined l.fn.self.full l.other.full;
  long : length l.self.partial ≡ 64;
  done : (n d : ℕ) → n < l.level → get_or l.self.partial n d ≡ joined (get_or l.fn.self.partial n 0) (get_or l.other.partial n 0);
  rest : (n : ℕ) → l.level ≤ n → get_or l.self.partial n 0 ≡ get_or l.fn.self.partial n 0;
}
