use Rattle.std.proofs.Common.{ℕ, arith}
use Rattle.fv_aggmap.proofs.Giving.{given_none, given_same}
use Rattle.fv_copies.proofs.Marking.{below_last, below_next, below_none, marked_below, marked_given}
use Rattle.fv_copies.proofs.landing.give_back_marked.Goals as goal

pub loop-place-init : goal.loop-place-init
loop-place-init c =
    let bits = c.args.marks.now in
    record {
      within = omega arith;
      given = λ none. given_none c.args.map.now (marked_below bits 0) (below_none bits);
    }

pub overflow_add-from : goal.overflow_add-from
overflow_add-from c = omega (arith, c.in-Some.ensures.first.within, c.len.ensures, c.len.type_inv)

pub loop-place-preserved : goal.loop-place-preserved
loop-place-preserved c =
    let bits = c.args.marks.now in
    let from : ℕ = c.loop-place.from in
    let at : ℕ = c.in-Some.place in
    let first = c.in-Some.ensures.first in
    let was = c.loop-place.invariant in
    record {
      within = omega (arith, first.within);
      given = λ none. marked_given bits at c.args.map.now c.loop-place.map c.give_back.new.self none first.here
          (given_same c.args.map.now c.loop-place.map (marked_below bits from) (marked_below bits at) (λ b. below_next bits from at b first) (was.given none)) c.give_back.ensures;
    }

pub returns : goal.returns
returns c = λ none.
    given_same c.args.map.now c.loop-place.map (marked_below c.args.marks.now c.loop-place.from) _
    (λ b. below_last c.args.marks.now c.loop-place.from b c.in_default.ensures.none) (c.loop-place.invariant.given none)
