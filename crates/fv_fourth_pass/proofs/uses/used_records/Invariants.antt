use Rattle.std.proofs.Common.{◌≡◌, ◌≤◌, take}
use Rattle.std.specs.Prelude.{count_by}
use Rattle.fv_fourth_pass.specs.Used.{is_used}
use Rattle.fv_fourth_pass.proofs.uses.used_records.Given as goal

abbrev pub invariant-loop-k : goal.invariant-loop-k
invariant-loop-k l = record { count : l.count ≡ count_by is_used (take l.k l.records); few : l.count ≤ l.k }
