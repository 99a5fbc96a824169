use Rattle.std.proofs.Common.{◌≡◌, arith, take, cond}
use Rattle.std.specs.Ordering.{nat_cmp}
use Rattle.std.specs.BTreeSet as set
use Rattle.fv_memdisk.specs.Past.{State, replay}
use Rattle.fv_memdisk.specs.Blocks.{disk_of}
use Rattle.fv_memdisk.proofs.Tearing.{replay_none, replayed_more}
use Rattle.fv_memdisk.proofs.torn.put_all_at.Goals as goal

pub loop-kept-init : goal.loop-kept-init
loop-kept-init c = λ s others stands a. rw (replay_none s) (stands a)

pub loop-kept-preserved : goal.loop-kept-preserved
loop-kept-preserved c = λ s others stands a.
    replayed_more (λ (st : State). disk_of c.put_one_at.new.blocks a ≡ cond (set.contains nat_cmp c.args.chosen.now a) (st.reads a) (others a)) s c.args.events.now c.loop-kept.kept-index _ (omega arith)
    (c.in_ok-put_one_at.ensures (replay s (take c.loop-kept.kept-index c.args.events.now)) others (c.loop-kept.invariant s others stands) a)
