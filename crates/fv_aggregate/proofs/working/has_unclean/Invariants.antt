use Rattle.std.specs.Prelude.{◌≡◌, ◌<◌, ℕ, false}
use Rattle.fv_volume.specs.States.{state_at}
use Rattle.fv_aggregate.specs.Working.{is_unclean}
use Rattle.fv_aggregate.proofs.working.has_unclean.Given as goal

abbrev pub invariant-loop-slot : goal.invariant-loop-slot
invariant-loop-slot l = (s : ℕ) → s < l.slot → is_unclean (state_at l.volumes s) ≡ false
