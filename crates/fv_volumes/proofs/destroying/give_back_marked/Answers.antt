use Rattle.std.proofs.Common.{ℕ, arith}
use Rattle.fv_container.specs.Spelled.{is_at}
use Rattle.fv_delay.proofs.Reclaimed.{some_none, some_then}
use Rattle.fv_copies.proofs.Marking.{below_last, below_next, below_none, marked_below, marked_given}
use Rattle.fv_volumes.proofs.Destroyed.{forgotten_same, forgotten_start, marked_forgotten}
use Rattle.fv_volumes.proofs.Drawing.{given_none, given_same}
use Rattle.fv_volumes.proofs.destroying.give_back_marked.Goals as goal

pub loop-place-init : goal.loop-place-init
loop-place-init c =
    let bits = c.args.marks.now in
    record {
      within = omega arith;
      given = λ none. given_none c.args.map.now (marked_below bits 0) (below_none bits);
      some = some_none c.args.map.now;
      kept = forgotten_start c.args.kept.now (marked_below bits 0) (below_none bits);
    }

pub overflow_add-from : goal.overflow_add-from
overflow_add-from c = omega (arith, c.in-Some.ensures.first.within, c.len.ensures, c.len.type_inv)

pub loop-place-preserved : goal.loop-place-preserved
loop-place-preserved c =
    let bits = c.args.marks.now in
    let from : ℕ = c.loop-place.from in
    let at : ℕ = c.in-Some.place in
    let first = c.in-Some.ensures.first in
    let was = c.loop-place.invariant in
    let gave = c.give_back.ensures in
    record {
      within = omega (arith, first.within);
      given = λ none. marked_given bits at c.args.map.now c.loop-place.map c.give_back.new.self none first.here
          (given_same c.args.map.now c.loop-place.map (marked_below bits from) (marked_below bits at) (λ b. below_next bits from at b first) (was.given none)) gave;
      some = some_then c.args.map.now c.loop-place.map c.give_back.new.self was.some (record { blocks = λ b. is_at b at; given = gave });
      kept = marked_forgotten bits at c.args.kept.now c.loop-place.kept c.forget.new.self first.here
          (forgotten_same c.args.kept.now c.loop-place.kept (marked_below bits from) (marked_below bits at) (λ b. below_next bits from at b first) was.kept) c.forget.ensures;
    }

pub returns-clause-given : goal.returns-clause-given
returns-clause-given c = λ none.
    given_same c.args.map.now c.loop-place.map (marked_below c.args.marks.now c.loop-place.from) _
    (λ b. below_last c.args.marks.now c.loop-place.from b c.in_default.ensures.none) (c.loop-place.invariant.given none)

pub returns-clause-kept : goal.returns-clause-kept
returns-clause-kept c =
    forgotten_same c.args.kept.now c.loop-place.kept (marked_below c.args.marks.now c.loop-place.from) _
    (λ b. below_last c.args.marks.now c.loop-place.from b c.in_default.ensures.none) c.loop-place.invariant.kept
