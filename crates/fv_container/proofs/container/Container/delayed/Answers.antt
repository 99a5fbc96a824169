use Rattle.fv_container.proofs.Counting.{delayed_out}
use Rattle.fv_container.proofs.container.Container.delayed.Goals as goal

pub returns : goal.returns
returns c = λ sure.
    delayed_out c.args.self.now c.self.inside.told.entries c.self.inside.tree.items c.self.inside.dirty.items c.self.inside.leaves.items c.self.inside.known.items c.self.inside.told.sure c.self.inside.used c.self.inside.next.items c.self.inside.fresh.items c.self.inside.count
    c.args.held.now c.args.region c.count_apart.result c.self.view_is c.self.invariant.0 sure c.count_apart.ensures
