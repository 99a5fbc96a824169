use Rattle.std.proofs.Common.{◌≡◌, ◌≤◌, ◌-◌, ◌/◌, ◌^◌, ℕ, List, sym, ap, ◌∙◌, arith}
use Rattle.std.specs.Ordering.{nat_cmp}
use Rattle.fv_model.specs.Trees.{fan}
use Rattle.fv_tree.specs.Spelled.{pointer_below}
use Rattle.fv_tree.specs.Standing.{standing, under}
use Rattle.std.specs.FinMap as fin
use Rattle.fv_tree.proofs.Causes.{calm_itself, calm_then, untouched_itself, untouched_then}
use Rattle.fv_tree.proofs.Found.{found_all, found_next, found_top}
use Rattle.fv_tree.proofs.Calls.{loads_on}
use Rattle.fv_tree.proofs.Right.{right_on}
use Rattle.fv_tree.proofs.added.found_over.Goals as goal

pub loop-level-init : goal.loop-level-init
loop-level-init g c =
    let t = standing (under (g.B.Blocks.shown c.args.blocks.now)) c.args.tree.now in
    let i = c.args.index in
    let none : t.levels - t.levels ≡ 0 = omega arith in
    let top = c.top-pointer.ensures (under (g.B.Blocks.shown c.args.blocks.now)) ∙ ap (λ n. pointer_below t n (i / fan ^ t.levels)) (sym none) in record {
      high = omega arith;
      pointer = λ _. top;
      found = λ _. found_top t i c.stands-found.result c.top-pointer.result top c.stands-found.ensures.exact;
      few = (let few = c.stands-found.ensures.few in omega (arith, few));
      untouched = untouched_itself _;
      calm = calm_itself _;
      reads = g.met.B.Blocks.reads_nothing c.args.blocks.now;
    }

pub loop-level-preserved : goal.loop-level-preserved
loop-level-preserved g c =
    let t = standing (under (g.B.Blocks.shown c.args.blocks.now)) c.args.tree.now in
    let i = c.args.index in
    let level = c.loop-level.level in
    let was = c.loop-level.invariant in
    let now = c.in_ok-pointer.ensures in
    let one = c.stands-found-in-loop-level.ensures in
    let high : level ≤ t.levels = was.high in
    let low : 1 ≤ level = omega (arith, c.loop-level-test.true) in
    let below : g.B.Blocks.told → c.in_ok-pointer.pointer ≡ pointer_below t (t.levels - (level - 1)) (i / fan ^ (level - 1)) =
    λ told. now.below told ∙ ap (λ (h : fin.FinMap nat_cmp (List ℕ)). pointer_below (standing (λ v. fin.get h v) c.args.tree.now) (t.levels - (level - 1)) (i / fan ^ (level - 1))) was.untouched.held in record {
      high = omega (arith, high);
      pointer = below;
      found = λ told. found_next t i level c.stands-found-in-loop-level.result c.loop-level.found c.in_ok-pointer.pointer low high (below told) one.exact (was.found told);
      few = (let before = was.few in let few = one.few in omega (arith, before, few, low));
      untouched = untouched_then _ _ _ was.untouched now.untouched;
      calm = calm_then _ _ _ was.calm now.counts.calm;
      reads = g.met.B.Blocks.reads_on c.args.blocks.now c.loop-level.blocks c.step.new.blocks was.reads now.reads;
    }

pub returns-in_err-pointer-clause-loads : goal.returns-in_err-pointer-clause-loads
returns-in_err-pointer-clause-loads g c =
    loads_on g.B.Blocks.told c.args.tree.now _ _ _ c.from_residual.result _ c.from_residual.ensures.1 c.loop-level.invariant.untouched c.loop-level.invariant.calm (g.met.B.Blocks.reads_on c.args.blocks.now c.loop-level.blocks c.step.new.blocks c.loop-level.invariant.reads c.in_err-pointer.ensures.reads) c.in_err-pointer.ensures.untouched c.in_err-pointer.ensures.counts c.in_err-pointer.ensures.cause

pub returns-clause-found : goal.returns-clause-found
returns-clause-found g c = λ told.
    found_all (standing (under (g.B.Blocks.shown c.args.blocks.now)) c.args.tree.now) c.args.index c.loop-level.level c.loop-level.found (omega (arith, c.loop-level-test.false)) (c.loop-level.invariant.found told)

pub step-requires-clause-right : goal.step-requires-clause-right
step-requires-clause-right g c = λ told. right_on (g.B.Blocks.shown c.args.blocks.now) (g.B.Blocks.shown c.loop-level.blocks) c.args.tree.now c.loop-level.invariant.untouched (c.requires.right told)
