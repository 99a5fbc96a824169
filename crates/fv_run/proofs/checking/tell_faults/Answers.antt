use Rattle.std.proofs.Common.{rules, ◌≡◌, ◌∙◌, ◌∷◌, sym, subst}
use Rattle.std.specs.Prelude.{Err, Result}
use Rattle.fv_run.specs.declared.ending.Fault.{Fault}
use Rattle.fv_run.specs.CheckTexts.{faults_text}
use Rattle.fv_run.specs.Checking.{TellsText}
use Rattle.fv_run.proofs.Checked.{stopped_at, told_one}
use Rattle.fv_run.proofs.checking.tell_faults.Goals as goal

pub loop-fault-preserved : goal.loop-fault-preserved
loop-fault-preserved g c =
    let first : c.loop-fault.fault-iterator ≡ c.in-Some.fault.now ∷ c.next.new.self = search rules in
    told_one (g.H.Disk.shown c.args.host.now) (g.H.Disk.shown c.loop-fault.host) (g.H.Disk.shown c.tell.new.host) c.args.lines.now.lines.keys _ _ c.in-Some.fault.now _ c.loop-fault.invariant first
    (c.as_slice.ensures.value ∙ c.fault_line.ensures) c.in_ok-tell.ensures

pub returns-in_err-tell : goal.returns-in_err-tell
returns-in_err-tell g c =
    let failed : c.from_residual.result ≡ Err c.in_err-tell.field-0.0 = search rules in
    let first : c.loop-fault.fault-iterator ≡ c.in-Some.fault.now ∷ c.next.new.self = search rules in
    subst (λ (r : Result Unit Fault). TellsText (g.H.Disk.shown c.args.host.now) (faults_text c.args.lines.now.lines.keys) (g.H.Disk.shown c.tell.new.host) r) (sym failed)
    (stopped_at (g.H.Disk.shown c.args.host.now) (g.H.Disk.shown c.loop-fault.host) (g.H.Disk.shown c.tell.new.host) c.args.lines.now.lines.keys _ _ c.in-Some.fault.now _ c.in_err-tell.field-0.0 c.loop-fault.invariant first
    (c.as_slice.ensures.value ∙ c.fault_line.ensures) c.in_err-tell.ensures)
