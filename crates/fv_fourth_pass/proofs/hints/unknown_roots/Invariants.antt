use Rattle.std.proofs.Common.{◌≡◌, ◌≤◌, take}
use Rattle.std.specs.Prelude.{count_by}
use Rattle.fv_fourth_pass.specs.Hinted.{has_unknown_root}
use Rattle.fv_fourth_pass.proofs.hints.unknown_roots.Given as goal

abbrev pub invariant-loop-k : goal.invariant-loop-k
invariant-loop-k l = record { count : l.count ≡ count_by has_unknown_root (take l.k l.files); few : l.count ≤ l.k }
