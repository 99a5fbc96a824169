use Rattle.std.proofs.Common.{sym, ◌∙◌, arith}
use Rattle.fv_volume.proofs.SnapNames.{names_none, names_step}
use Rattle.fv_volume.proofs.snaps.sort_names.Goals as goal

pub loop-step-init : goal.loop-step-init
loop-step-init c = c.requires ∙ sym (names_none c.args.snaps.now)

pub loop-step-preserved : goal.loop-step-preserved
loop-step-preserved c =
    names_step c.args.snaps.now c.loop-step.step _ _ _ (omega (arith, c.loop-step-test.true)) c.in_ok-sort_name.ensures c.loop-step.invariant
