use Rattle.std.proofs.Common.{arith, take}
use Rattle.fv_memdisk.specs.Past.{State, blank, replay}
use Rattle.fv_memdisk.specs.Tears.{IsUnsettled}
use Rattle.fv_memdisk.proofs.Steps.{count_at}
use Rattle.fv_memdisk.proofs.Tearing.{replay_none, replayed_more}
use Rattle.fv_memdisk.proofs.unsettled.find_unsettled.Goals as goal

pub loop-count-init : goal.loop-count-init
loop-count-init c = λ base. rw (replay_none (blank base)) (c.new-found.ensures base)

pub loop-count-preserved : goal.loop-count-preserved
loop-count-preserved c = λ base.
    replayed_more (λ (st : State). IsUnsettled c.add.new.self.start c.add.new.self.written.items st) (blank base) c.args.events.now c.loop-count.count _ (omega arith)
    (c.in_ok-add.ensures (replay (blank base) (take c.loop-count.count c.args.events.now)) (count_at base c.args.events.now c.loop-count.count (omega arith)) (c.loop-count.invariant base))
