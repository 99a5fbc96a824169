use Rattle.std.proofs.Common.{◌≡◌, ◌≤◌}
use Rattle.std.specs.Prelude.{count_by}
use Rattle.std.specs.List.{range_with_len}
use Rattle.fv_image.specs.Views.{head_of}
use Rattle.fv_fourth_pass.specs.Filled.{is_delayed_by}
use Rattle.fv_fourth_pass.proofs.filled.count_delayed.Given as goal

abbrev pub invariant-loop-vvbn : goal.invariant-loop-vvbn
invariant-loop-vvbn l = record { count : l.count ≡ count_by (is_delayed_by (head_of l.label) l.held l.row) (range_with_len 0 l.vvbn); few : l.count ≤ l.vvbn }
