use Rattle.std.proofs.Common.{◌≡◌, ◌≢◌, ◌<◌, ◌≤◌, ◌||◌, ℕ, Bool, false, get_or, refl, sym, ap, ap₂, subst, ◌∙◌, ⊎_elim, arith}
use Rattle.std.proofs.lemmas.Bool.{cases_eq, cases_lt}
use Rattle.fv_delay.specs.ByThreshold.{behind, passed, taken_in, takes_delayed}
use Rattle.fv_delay.specs.Delay.{delayed_in}
use Rattle.fv_delay.specs.Holding.{Holding, held_by}
use Rattle.fv_delay.proofs.Skipping.{bare_taken, front_skips, last_bare, next_bare, next_within}
use Rattle.fv_delay.proofs.Walking.{behind_front}
use Rattle.fv_delay.proofs.taken.mark_taken.Goals as goal

pub loop-region-init : goal.loop-region-init
unfolding behind
loop-region-init c = record {
  within = omega arith;
  threshold = λ sure. refl;
  long = refl;
  marked = λ sure k lt. absurd (omega (arith, lt));
  rest = λ k le. refl;
}

pub delayed_by_region-count-requires-clause-known : goal.delayed_by_region-count-requires-clause-known
delayed_by_region-count-requires-clause-known c = c.requires.known c.in-Some.region

pub mark-requires : goal.mark-requires
mark-requires c =
    let within = next_within c.args.container.now c.loop-region.from c.in-Some.region _ refl c.in-Some.ensures.next in
    omega (arith, within, c.requires.long, c.loop-region.invariant.long)

pub overflow_add-from : goal.overflow_add-from
overflow_add-from c = omega (arith, c.in-Some.ensures.next.within, c.requires.entries, c.requires.span)

pub loop-region-preserved : goal.loop-region-preserved
unfolding taken_in
loop-region-preserved c =
    let x : Holding = held_by c.args.map.now c.args.container.now.map in
    let from : ℕ = c.loop-region.from in
    let r : ℕ = c.in-Some.region in
    let next = c.in-Some.ensures.next in
    let was = c.loop-region.invariant in
    let marks = c.mark.ensures in
    record {
      within = next_within c.args.container.now from r _ refl next;
      threshold = λ sure.
          let skips = front_skips 0 x from r next.after (next_bare c.args.map.now c.args.container.now from r sure next) in
          c.takes_delayed-is_taken.ensures.passed ∙ ap₂ passed (was.threshold sure ∙ ap (behind c.args.start) (sym skips)) (c.delayed_by_region-count.ensures (sure r)) ∙ sym (behind_front c.args.start 0 x r);
      long = marks.long ∙ was.long;
      marked = λ sure k lt.
          let bare = next_bare c.args.map.now c.args.container.now from r sure next in
          let skips = front_skips 0 x from r next.after bare in
          ⊎_elim
          (λ (e : k ≡ r). subst (λ (n : ℕ). get_or c.mark.new.plan n false ≡ (taken_in c.args.start x n || get_or c.args.plan.now n false)) (sym e)
          (marks.here ∙ ap₂ (λ (s t : Bool). s || t) (c.takes_delayed-is_taken.ensures.taken ∙ ap₂ takes_delayed (was.threshold sure ∙ ap (behind c.args.start) (sym skips)) (c.delayed_by_region-count.ensures (sure r))) (was.rest r next.after)))
          (λ (ne : k ≢ r). marks.others k ne ∙ ⊎_elim
          (λ (low : k < from). was.marked sure k low)
          (λ (high : from ≤ k).
          was.rest k high ∙ sym (ap (λ (t : Bool). t || get_or c.args.plan.now k false) (bare_taken c.args.start x k (bare k high (omega (arith, lt, ne))))))
          (cases_lt k from))
          (cases_eq k r);
      rest = λ k le. marks.others k (omega (arith, le)) ∙ was.rest k (omega (arith, le, next.after));
    }

pub returns-clause-marked : goal.returns-clause-marked
returns-clause-marked c = λ sure region within. ⊎_elim
    (λ (low : region < c.loop-region.from). c.loop-region.invariant.marked sure region low)
    (λ (high : c.loop-region.from ≤ region).
    let x : Holding = held_by c.args.map.now c.args.container.now.map in
    let none : delayed_in x.map x.container region ≡ 0 = last_bare c.args.map.now c.args.container.now c.loop-region.from _ sure c.in_default.ensures.none region high within in
    c.loop-region.invariant.rest region high ∙ sym (ap (λ (t : Bool). t || get_or c.args.plan.now region false) (bare_taken c.args.start x region none)))
    (cases_lt region c.loop-region.from)

pub returns-clause-others : goal.returns-clause-others
returns-clause-others c = λ k past. c.loop-region.invariant.rest k (omega (arith, c.loop-region.invariant.within, past))
