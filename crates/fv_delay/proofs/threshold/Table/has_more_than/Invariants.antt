use Rattle.std.proofs.Common.{◌≡◌, ℕ, ◌<◌, get_or}
use Rattle.fv_delay.proofs.threshold.Table.has_more_than.Given as goal

abbrev pub invariant-loop-level : goal.invariant-loop-level
invariant-loop-level l = (m : ℕ) → l.count < m → m < l.level → get_or l.self.partial m 0 ≡ 0
