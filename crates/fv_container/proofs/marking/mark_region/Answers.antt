use Rattle.std.proofs.Common.{subst}
use Rattle.fv_codec.specs.declared.container.ContainerLeaf.{ContainerLeaf}
use Rattle.fv_container.specs.Loading.{Marks}
use Rattle.fv_container.specs.Spelled.{names}
use Rattle.fv_container.proofs.Marked.{seen_here, seen_there}
use Rattle.fv_container.proofs.marking.mark_region.Goals as goal

pub returns-in-Some-clause-marked : goal.returns-in-Some-clause-marked
returns-in-Some-clause-marked g c = λ tells. rw c.in-Some.is
    (seen_here (g.D.Disk.shown c.args.disk.now).reads c.args.count c.args.at c.args.region c.in-Some.leaf c.args.bits.now c.mark_leaf.new.bits
    (subst (λ (l : ContainerLeaf). Marks c.args.bits.now (names l.pvbns) c.mark_leaf.new.bits) c.deref.ensures c.mark_leaf.ensures))

pub returns-in_ok-leaf-in-None-clause-marked : goal.returns-in_ok-leaf-in-None-clause-marked
returns-in_ok-leaf-in-None-clause-marked g c = λ tells. rw c.in-None.is
    (seen_there (g.D.Disk.shown c.args.disk.now).reads c.args.count c.args.at c.args.region c.in_ok-leaf-in-None.leaf c.args.bits.now c.mark_leaf-in-None.new.bits c.in_ok-leaf-in-None.ensures.well.pvbns (c.in_ok-leaf-in-None.ensures.pairs tells) c.mark_leaf-in-None.ensures)
