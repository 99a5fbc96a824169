use Rattle.std.proofs.Common.{◌∙◌, ◌-◌, sym, ap, arith}
use Rattle.fv_volume.specs.States.{state_at}
use Rattle.fv_aggregate.specs.Telling.{with_name}
use Rattle.fv_aggregate.proofs.Telling.{names_more}
use Rattle.fv_aggregate.proofs.volumes.sort_names.Goals as goal

pub loop-step-preserved : goal.loop-step-preserved
loop-step-preserved c =
    let states = c.args.volumes.now in
    let k = c.loop-step.step in
    c.in_ok-sort_name.ensures ∙ ap (with_name (state_at states (63 - k))) c.loop-step.invariant ∙ sym (names_more states k (omega (arith, c.loop-step-test.true)))
