use Rattle.std.proofs.Common.{◌≡◌, ◌≤◌, take}
use Rattle.std.specs.Prelude.{count_by}
use Rattle.fv_image.specs.HintRules.{is_unknown}
use Rattle.fv_fourth_pass.proofs.hints.unknown_children.Given as goal

abbrev pub invariant-loop-k : goal.invariant-loop-k
invariant-loop-k l = record { count : l.count ≡ count_by is_unknown (take l.k l.children); few : l.count ≤ l.k }
