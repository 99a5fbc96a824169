use Rattle.fv_container.proofs.Occupied.{next_none, next_some}
use Rattle.fv_container.proofs.container.Container.next_region.Goals as goal

pub returns-clause-none : goal.returns-clause-none
returns-clause-none c =
    next_none c.args.self.now c.self.inside.told.entries c.self.inside.tree.items c.self.inside.dirty.items c.self.inside.leaves.items c.self.inside.known.items c.self.inside.told.sure c.self.inside.used c.self.inside.occupied c.self.inside.next.items c.self.inside.fresh.items c.self.inside.count
    c.self.view_is c.self.invariant.0 c.self.invariant.2 c.args.from c.first_member.result c.first_member.ensures.none

pub returns-clause-next : goal.returns-clause-next
returns-clause-next c =
    next_some c.args.self.now c.self.inside.told.entries c.self.inside.tree.items c.self.inside.dirty.items c.self.inside.leaves.items c.self.inside.known.items c.self.inside.told.sure c.self.inside.used c.self.inside.occupied c.self.inside.next.items c.self.inside.fresh.items c.self.inside.count
    c.self.view_is c.self.invariant.0 c.self.invariant.2 c.args.from c.first_member.result c.first_member.ensures.first
