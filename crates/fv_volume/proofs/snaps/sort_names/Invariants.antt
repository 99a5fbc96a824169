use Rattle.std.proofs.Common.{◌≡◌, ◌-◌, drop, length}
use Rattle.fv_volume.specs.Snaps.{names_kept}
use Rattle.fv_volume.proofs.snaps.sort_names.Given as goal

abbrev pub invariant-loop-step : goal.invariant-loop-step
invariant-loop-step l = l.sorted.keys ≡ names_kept (drop (length l.snaps - l.step) l.snaps)
