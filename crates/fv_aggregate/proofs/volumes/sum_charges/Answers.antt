use Rattle.std.proofs.Common.{◌≡◌, ◌-◌, arith}
use Rattle.fv_volume.specs.States.{state_at}
use Rattle.fv_aggregate.specs.Telling.{charged_by}
use Rattle.fv_aggregate.proofs.Charges.{charges_more}
use Rattle.fv_aggregate.proofs.volumes.sum_charges.Goals as goal

pub loop-step-preserved : goal.loop-step-preserved
loop-step-preserved c =
    let states = c.args.volumes.now in
    let k = c.loop-step.step in
    let more = charges_more states k (omega (arith, c.loop-step-test.true)) in
    let here : c.charge_of-sum.result ≡ charged_by (state_at states (63 - k)) = c.charge_of-sum.ensures.charge in
    (omega (arith, more, here, c.loop-step.invariant.0), omega (arith, c.charge_of-sum.ensures.most, c.loop-step.invariant.1))
