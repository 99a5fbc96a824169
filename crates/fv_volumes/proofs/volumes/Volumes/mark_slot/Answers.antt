use Rattle.std.proofs.Common.{◌≡◌, Option, Err, rules, refl, sym, subst}
use Rattle.std.specs.Prelude.{IfErr, IfSome}
use Rattle.fv_container.specs.Chains.{map_in}
use Rattle.fv_container.specs.Clean.{IsCleanOn}
use Rattle.fv_container.specs.Paged.{Paged}
use Rattle.fv_pool.specs.BlocksOver.{IsHoldFault}
use Rattle.fv_volumes.specs.Destroying.{MarksAt}
use Rattle.fv_volumes.proofs.MarkedSlots.{hold_fault, marks_right}
use Rattle.fv_volumes.proofs.volumes.Volumes.mark_slot.Goals as goal

pub returns-in_default-clause-marks : goal.returns-in_default-clause-marks
returns-in_default-clause-marks g c = λ tells. subst (λ (held : Option Paged). MarksAt c.in_ok-marks.marks (map_in held)) c.in_default.ensures tt

pub returns-in_err-mark_blocks-clause-fault : goal.returns-in_err-mark_blocks-clause-fault
returns-in_err-mark_blocks-clause-fault g c =
    let d = g.D.Disk.shown c.args.disk.now in
    let slots = c.args.pool.now.containers in
    let fault = c.in_err-mark_blocks.field-0.0 in
    let failed : c.from_residual-in_err-mark_blocks.result ≡ Err fault = search rules in
    subst (λ r. IfErr r (IsHoldFault d slots)) (sym failed) (hold_fault d slots c.args.slot c.in-Some.container.now (sym c.in-Some.ensures) fault c.in_err-mark_blocks.ensures.fault)

pub returns-clause-marks : goal.returns-clause-marks
returns-clause-marks g c = λ tells.
    let i = (g.D.Disk.shown c.args.disk.now).reads in
    let clean = subst (λ (held : Option Paged). IfSome held (IsCleanOn i)) (sym c.in-Some.ensures) (tells.1 c.args.slot) in
    subst (λ (held : Option Paged). MarksAt c.mark_blocks.new.bits (map_in held)) c.in-Some.ensures
    (marks_right 1048576 refl c.in-Some.container.now.map c.in_ok-marks.marks c.mark_blocks.new.bits c.in_ok-marks.ensures.empty c.mark_blocks.ensures.valid (c.in_ok-mark_blocks.ensures.marked tells.0 clean))
