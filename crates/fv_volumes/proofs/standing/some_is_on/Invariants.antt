use Rattle.std.proofs.Common.{◌≡◌, ◌<◌, ℕ, false}
use Rattle.fv_volume.specs.States.{state_at}
use Rattle.fv_volumes.specs.Footing.{is_base_on, stands_by}
use Rattle.fv_volumes.proofs.standing.some_is_on.Given as goal

abbrev pub invariant-loop-at : goal.invariant-loop-at
invariant-loop-at l = (s : ℕ) → s < l.at → stands_by (is_base_on l.slot l.snap) (state_at l.states s) ≡ false
