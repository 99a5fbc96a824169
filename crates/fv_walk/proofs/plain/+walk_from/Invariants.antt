use Rattle.std.proofs.Common.{◌≡◌, ◌+◌, ◌∷◌, cond, take}
use Rattle.std.specs.Prelude.{Some, map}
use Rattle.std.specs.List.{All}
use Rattle.fv_image.specs.Views.{Placed}
use Rattle.fv_faults.specs.Walks.{pointers_under}
use Rattle.fv_faults.specs.Met.{place_at}
use Rattle.fv_walk.specs.Visits.{IsUnder, item_of, spot_of}
use Rattle.fv_walk.specs.Sights.{sight_of}
use Rattle.fv_walk.proofs.Seeing.{met_along, visits_in}
use Rattle.fv_walk.proofs.plain.+walk_from.Given as goal

abbrev pub decreases-walk_from : goal.decreases-walk_from
decreases-walk_from g l = cond l.of_inodes 4 0 + l.visit.now.level

abbrev pub invariant-loop-child : goal.invariant-loop-child
invariant-loop-child g l = record {
  reads : g.S.Source.reads l.fn.source l.source;
  cause : g.S.Source.faults l.source ≡ g.S.Source.faults l.fn.source;
  under : All (IsUnder l.visit) l.child-items;
  are : g.S.Source.fits l.fn.source → (x : Placed) → place_at (g.S.Source.volume l.fn.source) (item_of l.visit) ≡ Some x
      → l.child-items ≡ visits_in (g.S.Source.volume l.fn.source) l.of_inodes l.visit x.pvbn (pointers_under (item_of l.visit) x);
  saw : g.S.Source.fits l.fn.source → g.V.Visitor.sees l.fn.visitor
      (map (sight_of (g.S.Source.volume l.fn.source)) (spot_of l.visit ∷ met_along (g.S.Source.volume l.fn.source) l.of_inodes l.visit (take l.child-index l.child-items))) l.visitor;
}
