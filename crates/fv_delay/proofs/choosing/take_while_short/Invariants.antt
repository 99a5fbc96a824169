use Rattle.std.proofs.Common.{◌≡◌, ◌++◌, drop}
use Rattle.fv_delay.specs.Choice.{regions_counted, while_short}
use Rattle.fv_delay.proofs.choosing.take_while_short.Given as goal

abbrev pub invariant-loop-count : goal.invariant-loop-count
invariant-loop-count l =
    l.regions ++ regions_counted (while_short 0 l.left (drop l.count-index l.rest)) ≡ l.fn.regions ++ regions_counted (while_short 0 l.missing l.rest)
