use Rattle.std.proofs.Common.{◌≡◌, ◌∷◌, [], ◌<◌, ◌+◌, List, length, get_or, take, sym, ap, subst, ◌∙◌, arith}
use Rattle.std.specs.Prelude.{map}
use Rattle.std.specs.List.{All}
use Rattle.std.proofs.lemmas.List.{take_all}
use Rattle.fv_faults.specs.Walks.{Ground}
use Rattle.fv_faults.specs.Met.{Spot}
use Rattle.fv_walk.specs.Visits.{IsUnder, item_of, spot_of}
use Rattle.fv_walk.specs.Sights.{Sight, sight_of}
use Rattle.fv_walk.proofs.Seeing.{found_there, found_nowhere, found_is, sight_is, met_along, met_hole, met_nowhere, met_cell, met_block, under_block, sees_more}
use Rattle.fv_walk.proofs.Along.{falls}
use Rattle.fv_walk.specs.declared.visit.Visit.{Visit}
use Rattle.fv_walk.proofs.plain.+walk_from.Goals.{then-leads_on+in_ok-walk_from, else-leads_on+in_ok-show_data}
use Rattle.fv_walk.proofs.plain.+walk_from.Goals as goal

pub returns-then-visit-eq0-clause-saw : goal.returns-then-visit-eq0-clause-saw
returns-then-visit-eq0-clause-saw g t c = λ fits.
    let volume : Ground = g.S.Source.volume c.args.source.now in
    subst (λ (ss : List Spot). g.V.Visitor.sees c.args.visitor.now (map (sight_of volume) ss) c.args.visitor.now) (met_hole volume c.args.of_inodes c.args.visit.now c.if-visit-eq0.true)
    (g.met.V.Visitor.sees_none c.args.visitor.now)

pub returns-in_default-clause-saw : goal.returns-in_default-clause-saw
returns-in_default-clause-saw g t c = λ fits.
    let volume : Ground = g.S.Source.volume c.args.source.now in
    subst (λ (ss : List Spot). g.V.Visitor.sees c.args.visitor.now (map (sight_of volume) ss) c.see.new.self)
    (met_nowhere volume c.args.of_inodes c.args.visit.now c.if-visit-eq0.false (found_nowhere volume (item_of c.args.visit.now) (sym c.in_default.is ∙ c.find-at.ensures fits)))
    (subst (λ (s : Sight). g.V.Visitor.sees c.args.visitor.now (s ∷ []) c.see.new.self)
    (sight_is volume c.args.visit.now c.find-at.result c.in_ok-below.below (c.find-at.ensures fits) (c.in_ok-below.ensures.below fits)) c.in_ok-see.ensures)

pub returns-then-ends-clause-saw : goal.returns-then-ends-clause-saw
returns-then-ends-clause-saw g t c = λ fits.
    let volume : Ground = g.S.Source.volume c.args.source.now in
    let there = found_there volume (item_of c.args.visit.now) c.in-Some.found (sym c.in-Some.is ∙ c.find-at.ensures fits) in
    subst (λ (ss : List Spot). g.V.Visitor.sees c.args.visitor.now (map (sight_of volume) ss) c.see.new.self)
    (met_cell volume c.args.of_inodes c.args.visit.now there.x c.if-visit-eq0.false there.is (sym c.ends.ensures ∙ c.if-ends.true))
    (subst (λ (s : Sight). g.V.Visitor.sees c.args.visitor.now (s ∷ []) c.see.new.self)
    (sight_is volume c.args.visit.now c.find-at.result c.in_ok-below.below (c.find-at.ensures fits) (c.in_ok-below.ensures.below fits)) c.in_ok-see.ensures)

pub loop-child-init : goal.loop-child-init
loop-child-init g t c =
    let volume : Ground = g.S.Source.volume c.args.source.now in
    record {
      reads = c.in_ok-below.ensures.reads;
      cause = c.in_ok-below.ensures.cause.calm;
      under = subst (All (IsUnder c.args.visit.now)) (sym c.deref-child-items.ensures.value) c.in_ok-children.ensures.under;
      are = λ fits x is.
          c.deref-child-items.ensures.value
          ∙ under_block volume c.args.of_inodes c.args.visit.now x c.in-Some.found c.in_ok-below.below c.in_ok-children.children.items is
          (found_is volume (item_of c.args.visit.now) c.in-Some.found x (sym c.in-Some.is ∙ c.find-at.ensures fits) is)
          (c.in_ok-below.ensures.below fits) c.in_ok-children.ensures.are;
      saw = λ fits.
          subst (λ (s : Sight). g.V.Visitor.sees c.args.visitor.now (s ∷ []) c.see.new.self)
          (sight_is volume c.args.visit.now c.find-at.result c.in_ok-below.below (c.find-at.ensures fits) (c.in_ok-below.ensures.below fits)) c.in_ok-see.ensures;
    }

-- stands in where there is no pointer
abbrev blank : Visit
blank = record { owner = 0; levels = 0; level = 0; place = 0; pointer = record { vvbn = 0; pvbn = 0; stamp = 0 }; holder = record { vvbn = 0; pvbn = 0; stamp = 0 }; block = 0 }

pub loop-child-preserved : goal.loop-child-preserved
loop-child-preserved g t c = record {
  reads = elim c.if-leads_on.branch [
    | then-leads_on+in_ok-walk_from w ↦
        subst (g.S.Source.reads c.args.source.now) (sym w.source-is)
        (g.met.S.Source.reads_on c.args.source.now c.loop-child.source w.walk_from.new.source c.loop-child.invariant.reads w.in_ok-walk_from.ensures.reads)
    | else-leads_on+in_ok-show_data w ↦ subst (g.S.Source.reads c.args.source.now) (sym w.source-is) c.loop-child.invariant.reads
  ];
  cause = elim c.if-leads_on.branch [
    | then-leads_on+in_ok-walk_from w ↦ ap g.S.Source.faults w.source-is ∙ w.in_ok-walk_from.ensures.cause ∙ c.loop-child.invariant.cause
    | else-leads_on+in_ok-show_data w ↦ ap g.S.Source.faults w.source-is ∙ c.loop-child.invariant.cause
  ];
  under = c.loop-child.invariant.under;
  are = c.loop-child.invariant.are;
  saw = λ fits.
      let volume : Ground = g.S.Source.volume c.args.source.now in
      let v : Visit = c.args.visit.now in
      let visits = c.deref-child-items.result.now in
      let k = c.loop-child.child-index in
      let same : g.S.Source.volume c.loop-child.source ≡ volume = g.met.S.Source.same_volume c.args.source.now c.loop-child.source c.loop-child.invariant.reads in
      let fits_now = g.met.S.Source.fits_on c.args.source.now c.loop-child.source c.loop-child.invariant.reads fits in
      let low : k < length visits = omega (arith, c.loop-child-test.true) in
      let seen : List Sight = map (sight_of volume) (spot_of v ∷ met_along volume c.args.of_inodes v (take (k + 1) visits)) in
      elim c.if-leads_on.branch [
        | then-leads_on+in_ok-walk_from w ↦
            subst (g.V.Visitor.sees c.args.visitor.now seen) (sym w.visitor-is)
            (sees_more volume c.args.of_inodes v g.V.Visitor.sees g.met.V.Visitor.sees_on visits k blank c.stays-inside.result c.args.visitor.now c.loop-child.visitor w.walk_from.new.visitor
            (g.S.Source.volume c.loop-child.source) same low c.stays-inside.ensures (c.loop-child.invariant.saw fits) (w.in_ok-walk_from.ensures.saw fits_now))
        | else-leads_on+in_ok-show_data w ↦
            subst (g.V.Visitor.sees c.args.visitor.now seen) (sym w.visitor-is)
            (sees_more volume c.args.of_inodes v g.V.Visitor.sees g.met.V.Visitor.sees_on visits k blank c.stays-inside.result c.args.visitor.now c.loop-child.visitor w.show_data.new.visitor
            (g.S.Source.volume c.loop-child.source) same low c.stays-inside.ensures (c.loop-child.invariant.saw fits) (w.in_ok-show_data.ensures fits_now c.stays-inside.result))
      ];
}

pub walk_from-requires : goal.walk_from-requires
walk_from-requires g t c κs within =
    let child : Visit = get_or c.deref-child-items.result.now c.loop-child.child-index blank in
    let low : c.loop-child.child-index < length c.deref-child-items.result.now = omega (arith, c.loop-child-test.true) in
    let under : IsUnder c.args.visit.now child = c.loop-child.invariant.under c.loop-child.child-index blank low in
    let lower = falls c.args.of_inodes c.stays-inside.result c.args.visit.now child c.stays-inside.ensures (sym c.ends.ensures ∙ c.if-ends.false) under in
    let measure = c.decreases in
    (omega (arith, measure, lower), (within.0, (within.1, (under.is, sym c.leads_on.ensures ∙ c.if-leads_on.true))))

pub returns-clause-saw : goal.returns-clause-saw
returns-clause-saw g t c = λ fits.
    let volume : Ground = g.S.Source.volume c.args.source.now in
    let there = found_there volume (item_of c.args.visit.now) c.in-Some.found (sym c.in-Some.is ∙ c.find-at.ensures fits) in
    subst (λ (ss : List Spot). g.V.Visitor.sees c.args.visitor.now (map (sight_of volume) ss) c.loop-child.visitor)
    (ap (λ vs. spot_of c.args.visit.now ∷ met_along volume c.args.of_inodes c.args.visit.now vs) (take_all c.loop-child.child-index c.deref-child-items.result.now (omega (arith, c.loop-child-test.false)))
    ∙ met_block volume c.args.of_inodes c.args.visit.now there.x c.deref-child-items.result.now c.if-visit-eq0.false there.is (sym c.ends.ensures ∙ c.if-ends.false) (c.loop-child.invariant.are fits there.x there.is))
    (c.loop-child.invariant.saw fits)
