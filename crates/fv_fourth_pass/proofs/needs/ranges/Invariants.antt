use Rattle.std.proofs.Common.{◌≡◌, ◌≤◌, ◌*◌}
use Rattle.std.specs.Prelude.{sum_by}
use Rattle.std.specs.List.{range_with_len}
use Rattle.fv_fourth_pass.specs.Needed.{ranges_at}
use Rattle.fv_fourth_pass.proofs.needs.ranges.Given as goal

abbrev pub invariant-loop-level : goal.invariant-loop-level
invariant-loop-level l = record { count : l.count ≡ sum_by (ranges_at l.reserve) (range_with_len 0 l.level); few : l.count ≤ l.level * 4294967295 }
