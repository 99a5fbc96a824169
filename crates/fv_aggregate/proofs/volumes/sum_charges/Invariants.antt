use Rattle.std.proofs.Common.{◌≡◌, ◌≤◌, ◌-◌, ◌*◌}
use Rattle.fv_aggregate.specs.Telling.{charged_from}
use Rattle.fv_aggregate.proofs.volumes.sum_charges.Given as goal

abbrev pub invariant-loop-step : goal.invariant-loop-step
invariant-loop-step l = (l.sum ≡ charged_from l.volumes (64 - l.step) l.step) × (l.sum ≤ 4294967295 * l.step)
