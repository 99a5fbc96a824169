use Rattle.std.proofs.Common.{◌<◌, ℕ}
use Rattle.std.specs.Prelude.{IsSome}
use Rattle.fv_volume.specs.States.{state_at}
use Rattle.fv_volumes.proofs.search.free_slot.Given as goal

abbrev pub invariant-loop-slot : goal.invariant-loop-slot
invariant-loop-slot l = (s : ℕ) → s < l.slot → IsSome (state_at l.states s)
