use Rattle.fv_volume.specs.Loading.{AreCountedTo}
use Rattle.fv_volumes.proofs.load.count_volumes.Given as goal

abbrev pub invariant-loop-slot : goal.invariant-loop-slot
invariant-loop-slot l = AreCountedTo l.slot l.fn.states.items l.states.items
