use Rattle.fv_container.proofs.Puts.{entry_out}
use Rattle.fv_container.proofs.container.Container.entry_at.Goals as goal

pub returns-clause-entry : goal.returns-clause-entry
returns-clause-entry c = λ sure.
    entry_out c.args.self.now c.self.inside.told.entries c.self.inside.tree.items c.self.inside.dirty.items c.self.inside.leaves.items c.deref.result.now c.self.inside.known.items c.self.inside.told.sure c.self.inside.used c.self.inside.next.items c.self.inside.fresh.items c.self.inside.count
    c.args.vvbn c.entry_in.result c.self.view_is c.self.invariant.0 c.requires.loaded sure c.deref.ensures.value c.entry_in.ensures.pair c.entry_in.ensures.held
