use Rattle.std.proofs.Common.{arith}
use Rattle.fv_volumes.proofs.Settling.{settled_all, settled_more, settled_none}
use Rattle.fv_cp.proofs.point.settle.Goals as goal

pub loop-slot-init : goal.loop-slot-init
loop-slot-init c = settled_none c.args.volumes.now c.args.labels.now c.requires.long

pub loop-slot-preserved : goal.loop-slot-preserved
loop-slot-preserved c = settled_more c.args.volumes.now c.loop-slot.volumes c.settle_slot.new.volumes c.args.labels.now c.loop-slot.slot (omega (arith, c.loop-slot-test.true)) c.loop-slot.invariant c.settle_slot.ensures.settled

pub returns-clause-settled : goal.returns-clause-settled
returns-clause-settled c = settled_all c.args.volumes.now c.loop-slot.volumes c.args.labels.now c.loop-slot.slot (omega (arith, c.loop-slot-test.false)) c.requires.long c.loop-slot.invariant
