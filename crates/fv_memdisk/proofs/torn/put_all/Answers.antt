use Rattle.std.proofs.Common.{◌≡◌, arith, take}
use Rattle.fv_memdisk.specs.Past.{State, replay}
use Rattle.fv_memdisk.specs.Blocks.{disk_of}
use Rattle.fv_memdisk.proofs.Tearing.{replay_none, replayed_more}
use Rattle.fv_memdisk.proofs.torn.put_all.Goals as goal

pub loop-kept-init : goal.loop-kept-init
loop-kept-init c = λ s stands a. rw (replay_none s) (stands a)

pub loop-kept-preserved : goal.loop-kept-preserved
loop-kept-preserved c = λ s stands a.
    replayed_more (λ (st : State). disk_of c.put_one.new.blocks a ≡ st.reads a) s c.args.events.now c.loop-kept.kept-index _ (omega arith)
    (c.in_ok-put_one.ensures (replay s (take c.loop-kept.kept-index c.args.events.now)) (c.loop-kept.invariant s stands) a)
