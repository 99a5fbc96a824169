use Rattle.std.proofs.Common.{◌≡◌, ◌≤◌, List}
use Rattle.fv_delay.specs.declared.counts.Count.{Count}
use Rattle.fv_delay.specs.ByThreshold.{IsTable, threshold_below, threshold_for}
use Rattle.fv_delay.proofs.threshold.Table.threshold.Given as goal

abbrev pub invariant-loop-count : goal.invariant-loop-count
invariant-loop-count l =
    (l.count ≤ 63) × ((counts : List Count) → IsTable l.self counts → threshold_below l.count l.left counts ≡ threshold_for counts l.missing)

abbrev pub decreases-loop-count : goal.decreases-loop-count
decreases-loop-count l = l.count
