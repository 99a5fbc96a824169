use Rattle.std.proofs.Common.{◌≡◌, ◌≤◌, ◌*◌, ◌^◌, take}
use Rattle.std.specs.Prelude.{sum_by}
use Rattle.fv_fourth_pass.specs.Needed.{reserved_of}
use Rattle.fv_fourth_pass.proofs.needs.reserved_by.Given as goal

abbrev pub invariant-loop-k : goal.invariant-loop-k
invariant-loop-k l = record { count : l.count ≡ sum_by (reserved_of l.over) (take l.k l.files); few : l.count ≤ l.k * 2 ^ 41 }
