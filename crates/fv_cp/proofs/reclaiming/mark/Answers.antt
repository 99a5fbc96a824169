use Rattle.std.proofs.Common.{arith}
use Rattle.fv_cp.specs.Planning.{is_set}
use Rattle.fv_cp.proofs.Marking.{marked_all, marked_more, marked_none}
use Rattle.fv_cp.proofs.reclaiming.mark.Goals as goal

pub loop-slot-init : goal.loop-slot-init
loop-slot-init c = marked_none (is_set c.args.due.now) c.args.volumes.now c.requires.long

pub loop-slot-preserved : goal.loop-slot-preserved
loop-slot-preserved c = marked_more (is_set c.args.due.now) c.args.volumes.now c.loop-slot.volumes c.mark_slot.new.volumes c.loop-slot.slot (omega (arith, c.loop-slot-test.true)) c.loop-slot.invariant c.mark_slot.ensures

pub returns-clause-marked : goal.returns-clause-marked
returns-clause-marked c = marked_all (is_set c.args.due.now) c.args.volumes.now c.loop-slot.volumes c.loop-slot.slot (omega (arith, c.loop-slot-test.false)) c.requires.long c.loop-slot.invariant
