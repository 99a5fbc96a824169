use Rattle.std.proofs.Common.{◌≡◌, ◌<◌, ℕ, Bool, true, false, sym, subst, ◌∙◌, arith, ⊎_elim}
use Rattle.std.proofs.lemmas.Bool.{cases_lt}
use Rattle.fv_volume.specs.States.{state_at}
use Rattle.fv_aggregate.specs.Working.{is_unclean}
use Rattle.fv_aggregate.proofs.working.has_unclean.Goals as goal

pub loop-slot-init : goal.loop-slot-init
loop-slot-init c = λ s low. absurd (omega (arith, low))

pub loop-slot-preserved : goal.loop-slot-preserved
loop-slot-preserved c = λ s low. ⊎_elim
    (λ (before : s < c.loop-slot.slot). c.loop-slot.invariant s before)
    (λ late.
    let same : c.loop-slot.slot ≡ s = omega (arith, low, late) in
    subst (λ (n : ℕ). is_unclean (state_at c.args.volumes.now n) ≡ false) same (sym c.is_unclean.ensures ∙ c.if-is_unclean.false))
    (cases_lt s c.loop-slot.slot)

pub returns-then-is_unclean-clause-some : goal.returns-then-is_unclean-clause-some
returns-then-is_unclean-clause-some c = λ is known.
    let wrong : ◌≡◌ {A = Bool} true false = sym c.if-is_unclean.true ∙ c.is_unclean.ensures ∙ known c.loop-slot.slot (omega arith) in cc

pub returns-clause-none : goal.returns-clause-none
returns-clause-none c = λ is s low. c.loop-slot.invariant s (omega (arith, low, c.loop-slot-test.false))
