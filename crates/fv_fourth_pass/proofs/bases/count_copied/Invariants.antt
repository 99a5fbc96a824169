use Rattle.std.proofs.Common.{◌≡◌, ◌≤◌}
use Rattle.std.specs.Prelude.{count_by}
use Rattle.std.specs.List.{range_with_len}
use Rattle.fv_fourth_pass.specs.Based.{is_copied}
use Rattle.fv_fourth_pass.proofs.bases.count_copied.Given as goal

abbrev pub invariant-loop-vvbn : goal.invariant-loop-vvbn
invariant-loop-vvbn l = record { count : l.count ≡ count_by (is_copied l.base l.row) (range_with_len 0 l.vvbn); few : l.count ≤ l.vvbn }
