use Rattle.std.proofs.Common.{◌≡◌, ◌∙◌, ap, arith, get_or}
use Rattle.std.specs.Prelude.{slice_set}
use Rattle.fv_volume.specs.States.{state_at}
use Rattle.fv_cp.specs.Course.{label_lent}
use Rattle.fv_cp.proofs.Clearing.{cleared_all, cleared_more, cleared_none}
use Rattle.fv_cp.proofs.point.clear_free.Goals as goal

pub loop-slot-init : goal.loop-slot-init
loop-slot-init c = cleared_none c.args.volumes.now c.args.labels.now c.told-labels c.requires.places

pub loop-slot-preserved : goal.loop-slot-preserved
loop-slot-preserved c =
    let n = c.loop-slot.slot in
    let place : c.label_lent.result ≡ label_lent (state_at c.args.volumes.now n) (get_or c.loop-slot.labels n 0) = c.label_lent.ensures ∙ ap (λ o. label_lent o (get_or c.loop-slot.labels n 0)) c.get.ensures in
    cleared_more c.args.volumes.now c.args.labels.now c.loop-slot.labels _ n (omega (arith, c.loop-slot-test.true)) (ap (slice_set c.loop-slot.labels n) place) c.loop-slot.invariant

pub returns : goal.returns
returns c = cleared_all c.args.volumes.now c.args.labels.now c.loop-slot.labels c.loop-slot.slot (omega (arith, c.loop-slot-test.false)) c.loop-slot.invariant
