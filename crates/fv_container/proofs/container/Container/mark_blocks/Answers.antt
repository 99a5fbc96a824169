use Rattle.std.proofs.Common.{subst}
use Rattle.fv_container.specs.Mapped.{IsMapped}
use Rattle.fv_container.specs.Paged.{Paged}
use Rattle.fv_container.proofs.Marked.{blocks_out, on_ok}
use Rattle.fv_container.proofs.container.Container.mark_blocks.Goals as goal

pub returns-clause-marked : goal.returns-clause-marked
returns-clause-marked g c = λ tells clean. on_ok c.mark_all.result _ _ (c.mark_all.ensures.marked tells) (λ marks.
    blocks_out (g.D.Disk.shown c.args.disk.now) c.args.self.now c.self.inside.told.entries c.self.inside.tree.items c.self.inside.dirty.items c.self.inside.leaves.items c.deref.result.now c.deref-2.result.now c.self.inside.known.items c.self.inside.told.sure c.self.inside.used c.self.inside.next.items c.self.inside.fresh.items c.self.inside.count c.args.bits.now c.mark_all.new.bits
    c.self.view_is c.self.invariant.0 clean c.deref.ensures.value c.deref-2.ensures.value marks)

pub returns-clause-valid : goal.returns-clause-valid
returns-clause-valid g c = subst (λ (p : Paged). IsMapped p.map) c.self.view_is c.self.invariant.0.mapped
