use Rattle.std.proofs.Common.{◌≡◌, ◌<◌, ℕ, false}
use Rattle.fv_volume.specs.States.{state_at}
use Rattle.fv_volume.specs.Slots.{is_named}
use Rattle.fv_volumes.proofs.search.find_name.Given as goal

abbrev pub invariant-loop-slot : goal.invariant-loop-slot
invariant-loop-slot l = (s : ℕ) → s < l.slot → is_named (state_at l.states s) l.name ≡ false
