use Rattle.std.proofs.Common.{◌≡◌, ◌≤◌, ◌+◌, ◌-◌, ◌*◌, ◌^◌, ℕ, Bool, not, ◌&&◌, List, sym, ap, ◌∙◌, subst, arith}
use Rattle.std.specs.Ordering.{nat_cmp}
use Rattle.std.specs.FinMap as fin
use Rattle.fv_model.specs.Trees.{fan}
use Rattle.fv_tree.specs.Standing.{standing}
use Rattle.fv_tree.specs.Flushing.{loaded, loaded_over}
use Rattle.fv_tree.specs.Erasing.{HoldsCells}
use Rattle.fv_tree.specs.Taking.{goes_by, IsPart}
use Rattle.fv_tree.proofs.Causes.{calm_then, fails_on, untouched_then}
use Rattle.fv_tree.proofs.Stays.{child_meets, range_low, few_all, few_end, few_fit, few_more, few_whole}
use Rattle.fv_tree.proofs.Taking.{hole_part, kept_part, cell_part, whole_part, own_stays, more_sum, at_most_one}
use Rattle.fv_tree.proofs.Right.{node_loads}
use Rattle.fv_tree.proofs.taken.+taken_under.Goals as goal

pub returns-then-pointer-eq0-clause-part : goal.returns-then-pointer-eq0-clause-part
returns-then-pointer-eq0-clause-part g t c = λ told holds.
    hole_part (loaded (g.B.Blocks.shown c.args.blocks.now) c.args.tree.now) (g.B.Sharing.shared c.args.blocks.now) (goes_by c.args.going) c.args.level c.args.place c.part_of.result c.requires.high
    (ap (λ p. p.stamp) (sym (c.requires.pointer told)) ∙ c.if-pointer-eq0.true) c.part_of.ensures

pub returns-then-pointer-eq0-clause-few : goal.returns-then-pointer-eq0-clause-few
returns-then-pointer-eq0-clause-few g t c = record {
  gone = few_end c.part_of.result.taken.gone c.args.level (let is = ap (λ p. p.taken.gone) c.part_of.ensures in omega (arith, is));
  staying = few_end c.part_of.result.taken.staying c.args.level (let is = ap (λ p. p.taken.staying) c.part_of.ensures in omega (arith, is));
}

pub returns-then-not-meets-clause-part : goal.returns-then-not-meets-clause-part
returns-then-not-meets-clause-part g t c = λ told holds.
    kept_part (loaded (g.B.Blocks.shown c.args.blocks.now) c.args.tree.now) (g.B.Sharing.shared c.args.blocks.now) (goes_by c.args.going) c.args.level c.args.place c.part_of-then-not-meets.result holds
    (λ hole. c.if-pointer-eq0.false (ap (λ p. p.stamp) (c.requires.pointer told) ∙ hole)) (c.meets.ensures.none c.if-not-meets.true) c.part_of-then-not-meets.ensures

pub returns-then-not-meets-clause-few : goal.returns-then-not-meets-clause-few
returns-then-not-meets-clause-few g t c = record {
  gone = few_end c.part_of-then-not-meets.result.taken.gone c.args.level (let is = ap (λ p. p.taken.gone) c.part_of-then-not-meets.ensures in omega (arith, is));
  staying = few_end c.part_of-then-not-meets.result.taken.staying c.args.level (let is = ap (λ p. p.taken.staying) c.part_of-then-not-meets.ensures in omega (arith, is));
}

pub returns-then-level-eq0-clause-part : goal.returns-then-level-eq0-clause-part
returns-then-level-eq0-clause-part g t c = λ told holds.
    let s = loaded (g.B.Blocks.shown c.args.blocks.now) c.args.tree.now in
    let shared = g.B.Sharing.shared c.args.blocks.now in
    let goes = goes_by c.args.going in
    let is = c.with_place.ensures in
    cell_part s shared goes c.args.level c.args.place c.stays_at-staying.result c.part_of-then-level-eq0.result c.with_place.result c.if-level-eq0.true
    (λ hole. c.if-pointer-eq0.false (ap (λ p. p.stamp) (c.requires.pointer told) ∙ hole)) (c.meets.ensures.cell c.if-not-meets.false c.if-level-eq0.true)
    (own_stays s shared goes c.args.level c.args.place c.stays_at-staying.result c.args.pointer.now (c.requires.pointer told) c.stays_at-staying.ensures.exact)
    c.part_of-then-level-eq0.ensures is.gone is.staying is.some is.left

pub taken_under-requires : goal.taken_under-requires
taken_under-requires g t c κs within = let measure = c.decreases in
    (omega (arith, measure, c.if-level-eq0.false), (within, child_meets g.B.Blocks.told (g.B.Blocks.shown c.args.blocks.now) (g.B.Blocks.shown c.loop-slot.blocks) c.args.tree.now c.args.level c.args.place c.loop-slot.slot c.args.pointer.now c.in_ok-children.children c.loop-slot.invariant.untouched c.if-level-eq0.false c.requires.high c.requires.range c.requires.pointer c.in_ok-children.ensures.children c.requires.right c.loop-slot-test.true))

pub overflow_mul-place : goal.overflow_mul-place
overflow_mul-place g t c = let small = range_low c.args.tree.now c.args.level c.args.place c.if-level-eq0.false c.requires.high c.requires.range in omega (arith, small)

pub overflow_add-place : goal.overflow_add-place
overflow_add-place g t c = let small = range_low c.args.tree.now c.args.level c.args.place c.if-level-eq0.false c.requires.high c.requires.range in omega (arith, small, c.loop-slot-test.true)

pub returns-in_err-child-clause-cause : goal.returns-in_err-child-clause-cause
returns-in_err-child-clause-cause g t c =
    fails_on g.B.Blocks.told c.args.tree.now _ _ _ c.from_residual-in_err-child.result _ c.from_residual-in_err-child.ensures.1 c.loop-slot.invariant.calm c.loop-slot.invariant.untouched c.in_err-child.ensures.cause

pub sum_of-sum-requires-clause-gone : goal.sum_of-sum-requires-clause-gone
sum_of-sum-requires-clause-gone g t c =
    let low : 1 ≤ c.args.level = omega (arith, c.if-level-eq0.false) in
    let fits = few_fit (1 + c.loop-slot.sum.taken.gone) c.in_ok-child.child.taken.gone c.loop-slot.slot c.args.level low (let few = c.args.tree.now.few in omega (arith, few, c.requires.high)) c.loop-slot-test.true c.loop-slot.invariant.few_gone c.in_ok-child.ensures.few.gone in
    omega (arith, fits)

pub sum_of-sum-requires-clause-staying : goal.sum_of-sum-requires-clause-staying
sum_of-sum-requires-clause-staying g t c =
    let low : 1 ≤ c.args.level = omega (arith, c.if-level-eq0.false) in
    let fits = few_fit (1 + c.loop-slot.sum.taken.staying) c.in_ok-child.child.taken.staying c.loop-slot.slot c.args.level low (let few = c.args.tree.now.few in omega (arith, few, c.requires.high)) c.loop-slot-test.true c.loop-slot.invariant.few_staying c.in_ok-child.ensures.few.staying in
    omega (arith, fits)

pub loop-slot-preserved : goal.loop-slot-preserved
loop-slot-preserved g t c =
    let a = g.B.Blocks.shown c.args.blocks.now in
    let tree = c.args.tree.now in
    let goes = goes_by c.args.going in
    let level = c.args.level in
    let place = c.args.place in
    let slot = c.loop-slot.slot in
    let child = c.in_ok-child.child in
    let was = c.loop-slot.invariant in
    let now = c.in_ok-child.ensures in
    let sums = c.sum_of-sum.ensures in
    record {
      sum = λ told holds.
          let part = now.part told (subst (λ (h : fin.FinMap nat_cmp (List ℕ)). HoldsCells (standing (λ v. fin.get h v) tree)) (sym was.untouched.held) holds) in
          let here = subst (λ (h : fin.FinMap nat_cmp (List ℕ)). IsPart (loaded_over (λ v. fin.get h v) tree) (g.B.Sharing.shared c.loop-slot.blocks) goes (level - 1) (place * fan + slot) child) was.untouched.held part in
          more_sum (loaded a tree) (g.B.Sharing.shared c.args.blocks.now) goes level place slot c.loop-slot.sum child c.sum_of-sum.result (was.sum told holds)
          (subst (λ (shared : ℕ → Bool). IsPart (loaded a tree) shared goes (level - 1) (place * fan + slot) child) (λ j v. g.met.B.Sharing.reads_share c.args.blocks.now c.loop-slot.blocks was.reads v j) here)
          sums.gone sums.staying sums.some sums.left;
      few_gone =
          let more = few_more (1 + c.loop-slot.sum.taken.gone) child.taken.gone slot (2 * fan ^ (level - 1)) was.few_gone now.few.gone in
          omega (arith, more, sums.gone);
      few_staying =
          let more = few_more (1 + c.loop-slot.sum.taken.staying) child.taken.staying slot (2 * fan ^ (level - 1)) was.few_staying now.few.staying in
          omega (arith, more, sums.staying);
      untouched = untouched_then _ _ _ was.untouched now.untouched;
      calm = calm_then _ _ _ was.calm now.counts.calm;
      reads = g.met.B.Blocks.reads_on c.args.blocks.now c.loop-slot.blocks c.taken_under.new.blocks was.reads now.reads;
    }

pub with_place-requires-2-clause-gone : goal.with_place-requires-2-clause-gone
with_place-requires-2-clause-gone g t c =
    let low : 1 ≤ c.args.level = omega (arith, c.if-level-eq0.false) in
    let all : c.loop-slot.slot ≡ fan = omega (arith, c.loop-slot-test.false) in
    let most = few_whole (1 + c.loop-slot.sum.taken.gone) c.args.level (let few = c.args.tree.now.few in omega (arith, few, c.requires.high)) (few_all (1 + c.loop-slot.sum.taken.gone) c.loop-slot.slot c.args.level low all c.loop-slot.invariant.few_gone) in
    omega (arith, most)

pub with_place-requires-2-clause-staying : goal.with_place-requires-2-clause-staying
with_place-requires-2-clause-staying g t c =
    let low : 1 ≤ c.args.level = omega (arith, c.if-level-eq0.false) in
    let all : c.loop-slot.slot ≡ fan = omega (arith, c.loop-slot-test.false) in
    let most = few_whole (1 + c.loop-slot.sum.taken.staying) c.args.level (let few = c.args.tree.now.few in omega (arith, few, c.requires.high)) (few_all (1 + c.loop-slot.sum.taken.staying) c.loop-slot.slot c.args.level low all c.loop-slot.invariant.few_staying) in
    let one = c.stays_at-staying.ensures.few in omega (arith, most, one)

pub returns-clause-part : goal.returns-clause-part
returns-clause-part g t c = λ told holds.
    let s = loaded (g.B.Blocks.shown c.args.blocks.now) c.args.tree.now in
    let shared = g.B.Sharing.shared c.args.blocks.now in
    let goes = goes_by c.args.going in
    let low : 1 ≤ c.args.level = omega (arith, c.if-level-eq0.false) in
    let all : c.loop-slot.slot ≡ fan = omega (arith, c.loop-slot-test.false) in
    let is = c.with_place-2.ensures in
    whole_part s shared goes c.args.level c.args.place c.stays_at-staying.result c.loop-slot.slot c.loop-slot.sum c.with_place-2.result low all (c.loop-slot.invariant.sum told holds)
    (own_stays s shared goes c.args.level c.args.place c.stays_at-staying.result c.args.pointer.now (c.requires.pointer told) c.stays_at-staying.ensures.exact) is.gone is.staying is.some is.left

pub returns-clause-few : goal.returns-clause-few
returns-clause-few g t c =
    let low : 1 ≤ c.args.level = omega (arith, c.if-level-eq0.false) in
    let all : c.loop-slot.slot ≡ fan = omega (arith, c.loop-slot-test.false) in
    let is = c.with_place-2.ensures in record {
      gone =
          let most = few_all (1 + c.loop-slot.sum.taken.gone) c.loop-slot.slot c.args.level low all c.loop-slot.invariant.few_gone in
          let own = at_most_one (c.loop-slot.sum.some && not c.loop-slot.sum.left) 1 (omega arith) in
          omega (arith, most, own, is.gone);
      staying =
          let most = few_all (1 + c.loop-slot.sum.taken.staying) c.loop-slot.slot c.args.level low all c.loop-slot.invariant.few_staying in
          let own = at_most_one c.loop-slot.sum.some c.stays_at-staying.result c.stays_at-staying.ensures.few in
          omega (arith, most, own, is.staying);
    }

pub children_of-requires-clause-right : goal.children_of-requires-clause-right
children_of-requires-clause-right g t c = λ told. let low : 1 ≤ c.args.level = omega (arith, c.if-level-eq0.false) in node_loads (g.B.Blocks.shown c.args.blocks.now) c.args.tree.now c.args.level c.args.place c.args.pointer.now low (c.requires.pointer told) (c.requires.right told)
