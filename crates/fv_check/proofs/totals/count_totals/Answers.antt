use Rattle.std.proofs.Common.{◌≡◌, refl, subst, arith}
use Rattle.fv_third_pass.specs.Surveys.{layout_of}
use Rattle.fv_check.specs.Judged.{AreTotals}
use Rattle.fv_check.proofs.totals.count_totals.Goals as goal

pub loop-slot-init : goal.loop-slot-init
loop-slot-init c = record {
  few = record { volumes = omega arith; charged = omega arith };
  exact = λ i long silent. record { volumes = refl; charged = refl };
}

pub loop-slot-preserved : goal.loop-slot-preserved
loop-slot-preserved c = record {
  few = c.in_ok-add_slot.ensures.few;
  exact = λ i long silent. c.in_ok-add_slot.ensures.exact i long silent (c.loop-slot.invariant.exact i long silent);
}

pub returns : goal.returns
returns c = λ i long silent.
    subst (λ n. AreTotals (layout_of c.args.survey.now i).view n c.loop-slot.totals)
    (let past = c.loop-slot-test.false in let end = c.loop-slot.auto.slot-end in let e : c.loop-slot.slot ≡ 64 = omega (arith, past, end) in e)
    (c.loop-slot.invariant.exact i long silent)
