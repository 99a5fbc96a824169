use Rattle.std.proofs.Common.{◌≡◌, ◌-◌, ◌++◌, filter, drop}
use Rattle.fv_delay.specs.Choice.{is_full, regions_counted, total}
use Rattle.fv_delay.proofs.choosing.take_full.Given as goal

abbrev pub invariant-loop-count : goal.invariant-loop-count
invariant-loop-count l =
    (l.regions ++ regions_counted (filter is_full (drop l.count-index l.counts)) ≡ l.fn.regions ++ regions_counted (filter is_full l.counts))
    × (l.left - total (filter is_full (drop l.count-index l.counts)) ≡ l.missing - total (filter is_full l.counts))
