use Rattle.std.proofs.Common.{◌≡◌, ◌<◌, inl, inr, subst, arith}
use Rattle.std.specs.FinMap as fin
use Rattle.std.proofs.lemmas.Bool.{cases_lt}
use Rattle.fv_tree.specs.Spelled.{Rooted}
use Rattle.fv_tree.specs.Standing.{standing, under}
use Rattle.fv_tree.specs.Seeking.{Lands, IsFurther}
use Rattle.fv_tree.proofs.Causes.{calm_then, fails_on, untouched_then}
use Rattle.fv_tree.proofs.Removing.{none_past}
use Rattle.fv_tree.proofs.Seeking.{holes_then}
use Rattle.fv_tree.proofs.Right.{right_on}
use Rattle.fv_tree.proofs.kept.Tree.next.Goals as goal

pub returns-in-Cell-clause-next : goal.returns-in-Cell-clause-next
returns-in-Cell-clause-next g c = λ told.
    let was = c.loop-at.invariant in
    let t = standing (under (g.B.Blocks.shown c.args.blocks.now)) c.args.self.now in
    let s = standing (under (g.B.Blocks.shown c.loop-at.blocks)) c.args.self.now in
    let same : s ≡ t = λ j. standing (λ u. fin.get (was.untouched.held j) u) c.args.self.now in
    let lands = subst (λ (r : Rooted). Lands r c.loop-at.at c.in_ok-index.field-0) same (c.in_ok-index.ensures.lands told) in
    let cell = subst (Lands t c.loop-at.at) c.in-Cell.is lands in
    (omega (arith, was.low, cell.0), cell.1, holes_then t c.args.from c.loop-at.at c.in-Cell.index (was.holes told) cell.2)

pub returns-in_err-index-clause-cause : goal.returns-in_err-index-clause-cause
returns-in_err-index-clause-cause g c =
    fails_on g.B.Blocks.told c.args.self.now _ _ _ c.from_residual.result _ c.from_residual.ensures.1 c.loop-at.invariant.calm c.loop-at.invariant.untouched c.in_err-index.ensures.cause

pub loop-at-preserved : goal.loop-at-preserved
loop-at-preserved g c =
    let was = c.loop-at.invariant in
    let now = c.in_ok-index.ensures in
    let t = standing (under (g.B.Blocks.shown c.args.blocks.now)) c.args.self.now in
    let s = standing (under (g.B.Blocks.shown c.loop-at.blocks)) c.args.self.now in
    let same : s ≡ t = λ j. standing (λ u. fin.get (was.untouched.held j) u) c.args.self.now in
    let further : c.loop-at.at < c.in-Past.next = subst (IsFurther c.loop-at.at) c.in-Past.is now.further in record {
      low = omega (arith, was.low, further);
      holes = λ told. holes_then t c.args.from c.loop-at.at c.in-Past.next (was.holes told) (subst (Lands t c.loop-at.at) c.in-Past.is (subst (λ (r : Rooted). Lands r c.loop-at.at c.in_ok-index.field-0) same (now.lands told)));
      untouched = untouched_then _ _ _ was.untouched now.untouched;
      calm = calm_then _ _ _ was.calm now.counts.calm;
      reads = g.met.B.Blocks.reads_on c.args.blocks.now c.loop-at.blocks c.walk.new.blocks was.reads now.reads;
    }

pub returns-clause-next : goal.returns-clause-next
returns-clause-next g c = λ told i low.
    let t = standing (under (g.B.Blocks.shown c.args.blocks.now)) c.args.self.now in
    elim (cases_lt i c.loop-at.at) [
      | inl lt ↦ c.loop-at.invariant.holes told i low lt
      | inr le ↦ none_past t i (omega (arith, le, c.loop-at-test.false, c.width-end.ensures.is))
    ]

pub walk-requires-clause-right : goal.walk-requires-clause-right
walk-requires-clause-right g c = λ told. right_on (g.B.Blocks.shown c.args.blocks.now) (g.B.Blocks.shown c.loop-at.blocks) c.args.self.now c.loop-at.invariant.untouched (c.requires.right told)
