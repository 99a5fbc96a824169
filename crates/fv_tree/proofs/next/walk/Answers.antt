use Rattle.std.proofs.Common.{◌≡◌, ◌≤◌, ℕ, ◌+◌, ◌-◌, ◌*◌, ◌/◌, ◌^◌, inl, inr, sym, ap, subst, ◌∙◌, arith}
use Rattle.std.specs.FinMap as fin
use Rattle.std.proofs.Math.Nat.{pow-le-pow_right}
use Rattle.fv_model.specs.Trees.{fan}
use Rattle.fv_tree.specs.Spelled.{Rooted, pointer_at}
use Rattle.fv_tree.specs.Standing.{standing, under}
use Rattle.fv_tree.specs.Seeking.{AreHoles, IsFirstChild}
use Rattle.fv_tree.proofs.Below.{range_above}
use Rattle.fv_tree.proofs.Causes.{calm_itself, calm_then, fails_on, untouched_itself, untouched_then}
use Rattle.fv_tree.proofs.Held.{at_root}
use Rattle.fv_tree.proofs.Seeking.{at_none, at_some, child_fits, child_there, holes_then, holes_to, past_fits}
use Rattle.fv_tree.proofs.Writes.{none_at}
use Rattle.fv_tree.proofs.Right.{right_on}
use Rattle.fv_tree.proofs.next.walk.Goals as goal

pub returns-then-tree-eq0-clause-lands : goal.returns-then-tree-eq0-clause-lands
returns-then-tree-eq0-clause-lands g c = λ told i low lt. none_at (standing (under (g.B.Blocks.shown c.args.blocks.now)) c.args.tree.now) c.if-tree-eq0.true 0 i

pub loop-level-init : goal.loop-level-init
loop-level-init g c =
    let t = standing (under (g.B.Blocks.shown c.args.blocks.now)) c.args.tree.now in
    let wide : fan ^ t.levels ≤ fan ^ 3 = pow-le-pow_right {n = fan} (omega arith) {i = t.levels} {j = 3} c.args.tree.now.few in record {
      high = omega arith;
      low = omega arith;
      within = omega (arith, c.requires.within, wide);
      some = c.if-tree-eq0.false;
      pointer = λ _. at_root t c.args.from c.requires.within;
      holes = λ _ i low lt. absurd (omega (arith, low, lt));
      untouched = untouched_itself _;
      calm = calm_itself _;
      reads = g.met.B.Blocks.reads_nothing c.args.blocks.now;
    }

pub first_child-requires-clause-pointer : goal.first_child-requires-clause-pointer
first_child-requires-clause-pointer g c = λ told.
    let was = c.loop-level.invariant in
    let at = c.loop-level.at in
    let level = c.loop-level.level in
    let same : standing (under (g.B.Blocks.shown c.args.blocks.now)) c.args.tree.now ≡ standing (under (g.B.Blocks.shown c.loop-level.blocks)) c.args.tree.now = λ j. standing (λ v. fin.get (sym was.untouched.held j) v) c.args.tree.now in
    let up : at / fan ^ level ≡ at / c.width-in-loop-level.result / fan = sym (ap (λ w. at / w / fan) c.width-in-loop-level.ensures.is ∙ range_above at level (omega (arith, c.loop-level-test.true))) in
    was.pointer told ∙ (λ j. pointer_at (same j) level (up j))

pub returns-in_err-first_child-clause-cause : goal.returns-in_err-first_child-clause-cause
returns-in_err-first_child-clause-cause g c =
    fails_on g.B.Blocks.told c.args.tree.now _ _ _ c.from_residual.result _ c.from_residual.ensures.1 c.loop-level.invariant.calm c.loop-level.invariant.untouched c.in_err-first_child.ensures.cause

pub overflow_mul-result-in-None : goal.overflow_mul-result-in-None
overflow_mul-result-in-None g c =
    let le : c.loop-level.level - 1 ≤ 2 = omega (arith, c.loop-level.invariant.high, c.args.tree.now.few) in
    let fits = past_fits (c.loop-level.level - 1) c.loop-level.at c.width-in-loop-level.result c.width-in-None.result le c.width-in-loop-level.ensures.is c.width-in-None.ensures.is c.loop-level.invariant.within in
    omega (arith, fits)

pub returns-in-None-clause-lands : goal.returns-in-None-clause-lands
returns-in-None-clause-lands g c = λ told.
    let was = c.loop-level.invariant in
    let at = c.loop-level.at in
    let k = c.loop-level.level - 1 in
    let v = c.width-in-loop-level.result in
    let w = c.width-in-None.result in
    let t = standing (under (g.B.Blocks.shown c.args.blocks.now)) c.args.tree.now in
    let same : t ≡ standing (under (g.B.Blocks.shown c.loop-level.blocks)) c.args.tree.now = λ j. standing (λ u. fin.get (sym was.untouched.held j) u) c.args.tree.now in
    let le : k ≤ 2 = omega (arith, was.high, c.args.tree.now.few) in
    let high : k ≤ t.levels = omega (arith, was.high) in
    let none = at_none c.in_ok-first_child.field-0 _ c.in-None.is (c.in_ok-first_child.ensures.none told) in
    holes_then t c.args.from at ((at / v / fan + 1) * fan * w) (was.holes told)
    (holes_to k at v w le c.width-in-loop-level.ensures.is c.width-in-None.ensures.is t ((at / v / fan + 1) * fan) high
    (λ r low lt. ap (λ (s : Rooted). (pointer_at s k r).stamp) same ∙ none r low (omega (arith, low, lt))))

pub overflow_mul-child : goal.overflow_mul-child
overflow_mul-child g c =
    let le : c.loop-level.level - 1 ≤ 2 = omega (arith, c.loop-level.invariant.high, c.args.tree.now.few) in
    let found = at_some c.in_ok-first_child.field-0 (c.in-Some.child, c.in-Some.next) _ c.in-Some.is c.in_ok-first_child.ensures.found in
    let fits = child_fits (c.loop-level.level - 1) c.loop-level.at c.width-in-loop-level.result c.width-in-Some.result le c.width-in-loop-level.ensures.is c.width-in-Some.ensures.is c.in-Some.child c.loop-level.invariant.within found.1 in
    omega (arith, fits)

pub loop-level-preserved : goal.loop-level-preserved
loop-level-preserved g c =
    let was = c.loop-level.invariant in
    let now = c.in_ok-first_child.ensures in
    let at : ℕ = c.loop-level.at in
    let k : ℕ = c.loop-level.level - 1 in
    let v : ℕ = c.width-in-loop-level.result in
    let w : ℕ = c.width-in-Some.result in
    let child : ℕ = c.in-Some.child in
    let one = c.later-at.ensures.one in
    let t = standing (under (g.B.Blocks.shown c.args.blocks.now)) c.args.tree.now in
    let s = standing (under (g.B.Blocks.shown c.loop-level.blocks)) c.args.tree.now in
    let same : t ≡ s = λ j. standing (λ u. fin.get (sym was.untouched.held j) u) c.args.tree.now in
    let le : k ≤ 2 = omega (arith, was.high, c.args.tree.now.few) in
    let high : k ≤ t.levels = omega (arith, was.high) in
    let is = c.width-in-loop-level.ensures.is in
    let also = c.width-in-Some.ensures.is in
    let found = at_some c.in_ok-first_child.field-0 (c.in-Some.child, c.in-Some.next) _ c.in-Some.is now.found in
    let first : g.B.Blocks.told → IsFirstChild s k (at / v) child c.in-Some.next = λ told. at_some c.in_ok-first_child.field-0 (c.in-Some.child, c.in-Some.next) _ c.in-Some.is (now.child told) in
    let fits = child_fits k at v w le is also child was.within found.1 in record {
      high = omega (arith, was.high);
      low = omega (arith, was.low, c.later-at.ensures.low);
      within = elim one [ inl stays ↦ omega (arith, stays, was.within) | inr starts ↦ omega (arith, starts, fits) ];
      some = found.2;
      pointer = λ told. (first told).pointer ∙ (λ j. pointer_at (sym same j) k child) ∙ ap (pointer_at t k) (sym (child_there k at v w le is also child c.later-at.result found.0 c.later-at.ensures.low c.later-at.ensures.start one));
      holes = λ told. elim one [
        | inl stays ↦ subst (AreHoles t c.args.from) (sym stays) (was.holes told)
        | inr starts ↦ subst (AreHoles t c.args.from) (sym starts) (holes_then t c.args.from at (child * w) (was.holes told)
            (holes_to k at v w le is also t child high (λ r low lt. ap (λ (u : Rooted). (pointer_at u k r).stamp) same ∙ (first told).before r low lt)))
      ];
      untouched = untouched_then _ _ _ was.untouched now.untouched;
      calm = calm_then _ _ _ was.calm now.counts.calm;
      reads = g.met.B.Blocks.reads_on c.args.blocks.now c.loop-level.blocks c.first_child.new.blocks was.reads now.reads;
    }

pub first_child-requires-clause-right : goal.first_child-requires-clause-right
first_child-requires-clause-right g c = λ told. right_on (g.B.Blocks.shown c.args.blocks.now) (g.B.Blocks.shown c.loop-level.blocks) c.args.tree.now c.loop-level.invariant.untouched (c.requires.right told)
