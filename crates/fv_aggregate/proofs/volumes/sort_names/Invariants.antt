use Rattle.std.proofs.Common.{◌≡◌, ◌-◌}
use Rattle.fv_aggregate.specs.Telling.{names_from}
use Rattle.fv_aggregate.proofs.volumes.sort_names.Given as goal

abbrev pub invariant-loop-step : goal.invariant-loop-step
invariant-loop-step l = l.sorted.keys ≡ names_from l.volumes (64 - l.step) l.step
