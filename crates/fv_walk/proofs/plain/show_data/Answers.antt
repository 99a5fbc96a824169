use Rattle.std.proofs.Common.{[], ◌∷◌, List, subst, ◌∙◌}
use Rattle.std.specs.Prelude.{map}
use Rattle.fv_faults.specs.Met.{Spot, place_at}
use Rattle.fv_faults.specs.Walks.{Ground}
use Rattle.fv_walk.specs.Sights.{Sight, sight_of}
use Rattle.fv_walk.specs.Visits.{item_of}
use Rattle.fv_walk.proofs.Seeing.{below_data, met_data, met_hole, sight_is}
use Rattle.fv_walk.proofs.plain.show_data.Goals as goal

pub returns-then-visit-eq0 : goal.returns-then-visit-eq0
returns-then-visit-eq0 g c = λ fits of_inodes.
    let volume : Ground = g.S.Source.volume c.args.source.now in
    subst (λ (ss : List Spot). g.V.Visitor.sees c.args.visitor.now (map (sight_of volume) ss) c.args.visitor.now) (met_hole volume of_inodes c.args.visit.now c.if-visit-eq0.true)
    (g.met.V.Visitor.sees_none c.args.visitor.now)

pub returns : goal.returns
returns g c = λ fits of_inodes.
    let volume : Ground = g.S.Source.volume c.args.source.now in
    let v = c.args.visit.now in
    subst (λ (ss : List Spot). g.V.Visitor.sees c.args.visitor.now (map (sight_of volume) ss) c.see.new.self) (met_data volume of_inodes v c.if-visit-eq0.false c.requires.data)
    (subst (λ (s : Sight). g.V.Visitor.sees c.args.visitor.now (s ∷ []) c.see.new.self)
    (sight_is volume v c.find-at.result c.args.nothing.now (c.find-at.ensures fits) (c.requires.nothing ∙ below_data v (place_at volume (item_of v)) c.requires.data)) c.in_ok-see.ensures)
