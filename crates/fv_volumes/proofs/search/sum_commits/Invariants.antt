use Rattle.std.proofs.Common.{◌≡◌, ◌≤◌, ◌*◌, ◌^◌, take, sum_by}
use Rattle.fv_volume.specs.Slots.{committed_by}
use Rattle.fv_volumes.proofs.search.sum_commits.Given as goal

abbrev pub invariant-loop-slot : goal.invariant-loop-slot
invariant-loop-slot l = (l.sum ≡ sum_by committed_by (take l.slot l.states)) × (l.sum ≤ l.slot * 2 ^ 34)
