use Rattle.fv_cp.specs.Choosing.{AreMarkedTo}
use Rattle.fv_cp.specs.Planning.{is_set}
use Rattle.fv_cp.proofs.reclaiming.mark.Given as goal

abbrev pub invariant-loop-slot : goal.invariant-loop-slot
invariant-loop-slot l = AreMarkedTo (is_set l.due) l.fn.volumes l.volumes l.slot
