use Rattle.std.proofs.Common.{◌≡◌, ◌≤◌, ◌-◌, ◌/◌, ◌^◌, ◌==◌, ◌&&◌, not, cond, Bool, ℕ, List, sym, ap, ◌∙◌, arith}
use Rattle.std.specs.Ordering.{nat_cmp}
use Rattle.std.specs.FinMap as fin
use Rattle.fv_model.specs.Trees.{fan}
use Rattle.fv_tree.specs.Spelled.{pointer_below}
use Rattle.fv_tree.specs.Standing.{standing, under}
use Rattle.fv_tree.specs.Flushing.{changed_of, loaded}
use Rattle.fv_tree.proofs.Causes.{calm_itself, calm_then, fails_on, untouched_itself, untouched_then}
use Rattle.fv_tree.proofs.Stays.{staying_end, staying_next, staying_top}
use Rattle.fv_tree.proofs.Right.{right_on}
use Rattle.fv_tree.proofs.kept.Tree.staying.Goals as goal

pub loop-level-init : goal.loop-level-init
loop-level-init g c =
    let s = loaded (g.B.Blocks.shown c.args.blocks.now) c.args.self.now in
    let i = c.args.index in
    let none : s.tree.levels - s.tree.levels ≡ 0 = omega arith in
    let top = c.top-pointer.ensures (under (g.B.Blocks.shown c.args.blocks.now)) ∙ ap (λ n. pointer_below s.tree n (i / fan ^ s.tree.levels)) (sym none) in record {
      high = omega arith;
      pointer = λ _. top;
      count = λ _. staying_top s (g.B.Sharing.shared c.args.blocks.now) i c.stays-count.result c.top-pointer.result top c.stays-count.ensures.exact;
      few = (let few = c.stays-count.ensures.few in omega (arith, few));
      untouched = untouched_itself _;
      calm = calm_itself _;
      reads = g.met.B.Blocks.reads_nothing c.args.blocks.now;
    }

pub step-requires-clause-high : goal.step-requires-clause-high
step-requires-clause-high g c = c.loop-level.invariant.high

pub step-requires-clause-pointer : goal.step-requires-clause-pointer
step-requires-clause-pointer g c = λ told.
    c.loop-level.invariant.pointer told
    ∙ ap (λ (h : fin.FinMap nat_cmp (List ℕ)). pointer_below (standing (λ v. fin.get h v) c.args.self.now) (c.args.self.now.levels - c.loop-level.level) (c.args.index / fan ^ c.loop-level.level)) (sym c.loop-level.invariant.untouched.held)

pub returns-in_err-pointer-clause-untouched : goal.returns-in_err-pointer-clause-untouched
returns-in_err-pointer-clause-untouched g c =
    untouched_then (g.B.Blocks.shown c.args.blocks.now) (g.B.Blocks.shown c.loop-level.blocks) (g.B.Blocks.shown c.step.new.blocks) c.loop-level.invariant.untouched c.in_err-pointer.ensures.untouched

pub returns-in_err-pointer-clause-reads : goal.returns-in_err-pointer-clause-reads
returns-in_err-pointer-clause-reads g c = g.met.B.Blocks.reads_on c.args.blocks.now c.loop-level.blocks c.step.new.blocks c.loop-level.invariant.reads c.in_err-pointer.ensures.reads

pub returns-in_err-pointer-clause-cause : goal.returns-in_err-pointer-clause-cause
returns-in_err-pointer-clause-cause g c =
    fails_on g.B.Blocks.told c.args.self.now _ _ _ c.from_residual.result _ c.from_residual.ensures.1 c.loop-level.invariant.calm c.loop-level.invariant.untouched c.in_err-pointer.ensures.cause

pub loop-level-preserved : goal.loop-level-preserved
loop-level-preserved g c =
    let s = loaded (g.B.Blocks.shown c.args.blocks.now) c.args.self.now in
    let i = c.args.index in
    let level = c.loop-level.level in
    let was = c.loop-level.invariant in
    let now = c.in_ok-pointer.ensures in
    let p = c.in_ok-pointer.pointer in
    let one = c.stays-count-in-loop-level.ensures in
    let high : level ≤ s.tree.levels = was.high in
    let low : 1 ≤ level = omega (arith, c.loop-level-test.true) in
    let below : g.B.Blocks.told → p ≡ pointer_below s.tree (s.tree.levels - (level - 1)) (i / fan ^ (level - 1)) =
    λ told. now.below told ∙ ap (λ (h : fin.FinMap nat_cmp (List ℕ)). pointer_below (standing (λ v. fin.get h v) c.args.self.now) (s.tree.levels - (level - 1)) (i / fan ^ (level - 1))) was.untouched.held in
    let reads = g.met.B.Blocks.reads_on c.args.blocks.now c.loop-level.blocks c.step.new.blocks was.reads now.reads in
    let exact = one.exact ∙ ap (λ (shared : Bool). cond {A = ℕ} (not (p.stamp == 0) && (not (changed_of c.args.self.now (level - 1) (i / fan ^ (level - 1))) && shared)) 1 0) (g.met.B.Sharing.reads_share c.args.blocks.now c.step.new.blocks reads p.vvbn) in record {
      high = omega (arith, high);
      pointer = below;
      count = λ told. staying_next s (g.B.Sharing.shared c.args.blocks.now) i level c.stays-count-in-loop-level.result c.loop-level.count p low high (below told) exact (was.count told);
      few = (let before = was.few in let few = one.few in omega (arith, before, few, low));
      untouched = untouched_then _ _ _ was.untouched now.untouched;
      calm = calm_then _ _ _ was.calm now.counts.calm;
      reads = reads;
    }

pub returns-clause-staying : goal.returns-clause-staying
returns-clause-staying g c = λ told.
    staying_end (loaded (g.B.Blocks.shown c.args.blocks.now) c.args.self.now) (g.B.Sharing.shared c.args.blocks.now) c.args.index c.loop-level.level c.loop-level.count (omega (arith, c.loop-level-test.false)) (c.loop-level.invariant.count told)

pub step-requires-clause-right : goal.step-requires-clause-right
step-requires-clause-right g c = λ told. right_on (g.B.Blocks.shown c.args.blocks.now) (g.B.Blocks.shown c.loop-level.blocks) c.args.self.now c.loop-level.invariant.untouched (c.requires.right told)
