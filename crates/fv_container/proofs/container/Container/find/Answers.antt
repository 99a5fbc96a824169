use Rattle.std.proofs.Common.{rules}
use Rattle.std.proofs.lemmas.List.{places}
use Rattle.fv_container.proofs.Puts.{found_opened, looked_out}
use Rattle.fv_container.proofs.container.Container.find.Goals as goal

pub returns-clause-entry : goal.returns-clause-entry
returns-clause-entry g c = λ tells clean.
    looked_out (g.D.Disk.shown c.args.disk.now) c.args.self.now c.self.inside.told.entries c.self.inside.tree.items c.self.inside.dirty.items c.self.inside.leaves.items c.deref.result.now c.self.inside.known.items c.self.inside.told.sure c.self.inside.used c.self.inside.next.items c.self.inside.fresh.items c.self.inside.count
    c.args.vvbn c.index.result.now c.look_in.result c.self.view_is c.self.invariant.0 c.requires.within tells clean c.deref.ensures.value (search (rules, places)) c.look_in.ensures.pair c.look_in.ensures.held

pub returns-clause-opened : goal.returns-clause-opened
returns-clause-opened g c = λ root height tells opened away.
    found_opened (g.D.Disk.shown c.args.disk.now) c.args.self.now c.self.inside.told.entries c.self.inside.tree.items c.self.inside.dirty.items c.self.inside.leaves.items c.deref.result.now c.self.inside.known.items c.self.inside.told.sure c.self.inside.used c.self.inside.next.items c.self.inside.fresh.items c.self.inside.count
    c.args.vvbn c.index.result.now c.look_in.result c.self.view_is c.self.invariant.0 c.requires.within tells root height opened away c.deref.ensures.value (search (rules, places)) c.look_in.ensures.pair c.look_in.ensures.held
