use Rattle.fv_volumes.specs.Housed.{AreSettledTo}
use Rattle.fv_cp.proofs.point.settle.Given as goal

abbrev pub invariant-loop-slot : goal.invariant-loop-slot
invariant-loop-slot l = AreSettledTo l.fn.volumes l.volumes l.labels l.slot
