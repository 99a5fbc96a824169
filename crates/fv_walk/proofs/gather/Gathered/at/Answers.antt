use Rattle.std.proofs.Common.{length, ap, arith}
use Rattle.fv_walk.proofs.Gatherings.{within_at, at_judged, at_block}
use Rattle.fv_walk.proofs.gather.Gathered.at.Goals as goal

pub bounds-items-item : goal.bounds-items-item
bounds-items-item c =
    let low = within_at c.as_slice-slots.result.now c.args.self.now.slots.items c.args.slot c.in-Some.item _ c.as_slice-slots.ensures.value c.in-Some.is
    (length c.args.self.now.items.items) c.requires.within in
    let same = ap length c.as_slice-items.ensures.value in omega (arith, low, same)

pub returns-clause-judged : goal.returns-clause-judged
returns-clause-judged c = λ v each.
    at_judged c.as_slice-slots.result.now c.args.self.now.slots.items c.args.slot c.in-Some.item _ c.as_slice-slots.ensures.value c.in-Some.is
    c.args.self.now.items.items c.as_slice-items.result.now c.args.self.now.judged.items c.as_slice-judged.result.now _ _ v
    c.as_slice-items.ensures.value c.as_slice-judged.ensures.value c.requires.judged each

pub returns-clause-block : goal.returns-clause-block
returns-clause-block c = λ g v each.
    at_block c.as_slice-slots.result.now c.args.self.now.slots.items c.args.slot c.in-Some.item _ c.as_slice-slots.ensures.value c.in-Some.is
    g c.args.self.now.items.items c.as_slice-items.result.now _ v c.as_slice-items.ensures.value each
