use Rattle.std.proofs.Common.{◌≡◌, ◌-◌, ℕ, map}
use Rattle.std.specs.List.{range_with_len}
use Rattle.fv_reference.proofs.trees.first_ranges.Given as goal

abbrev pub invariant-loop-level : goal.invariant-loop-level
invariant-loop-level l = l.spots.items ≡ map {A = ℕ} {B = ℕ × ℕ} (λ k. (k, 0)) (range_with_len l.from (l.level - l.from))
