use Rattle.fv_cp.specs.Course.{ClearedTo}
use Rattle.fv_cp.proofs.point.clear_free.Given as goal

abbrev pub invariant-loop-slot : goal.invariant-loop-slot
invariant-loop-slot l = ClearedTo l.volumes l.fn.labels l.labels l.slot
