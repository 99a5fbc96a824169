use Rattle.std.proofs.Common.{◌≡◌}
use Rattle.fv_walk.specs.Gathering.{Each, IsBlockOf, IsKindOf}
use Rattle.fv_walk.proofs.gather.gather.Given as goal

abbrev pub invariant-loop-visit : goal.invariant-loop-visit
invariant-loop-visit g l = record {
  reads : g.S.Source.reads l.fn.source l.source;
  cause : g.S.Source.faults l.source ≡ g.S.Source.faults l.fn.source;
  kinds : Each IsKindOf l.visit-index l.visits l.slots.items l.items.items;
  blocks : g.S.Source.fits l.fn.source → Each (IsBlockOf (g.S.Source.volume l.fn.source)) l.visit-index l.visits l.slots.items l.items.items;
}
