use Rattle.std.proofs.Common.{◌≡◌, ◌++◌, filter, drop}
use Rattle.fv_delay.specs.Choice.{is_partial}
use Rattle.fv_delay.proofs.choosing.partial_in_order.Given as goal

abbrev pub invariant-loop-count : goal.invariant-loop-count
invariant-loop-count l = l.rest.items ++ filter is_partial (drop l.count-index l.counts) ≡ filter is_partial l.counts
