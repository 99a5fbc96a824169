use Rattle.std.proofs.Common.{◌≡◌, sym, subst, rules}
use Rattle.std.specs.Prelude.{Result, Ok, Err}
use Rattle.fv_model.specs.Lines.{lines}
use Rattle.fv_model.specs.Machines.{empty_machine}
use Rattle.fv_reference_run.specs.declared.ending.Fault.{Fault}
use Rattle.fv_reference_run.specs.declared.program.Turn.TheVariants.{Ended}
use Rattle.fv_reference_run.specs.Running.{Steps, Runs}
use Rattle.fv_reference_run.proofs.Stepped.{stops, ends, too_many}
use Rattle.fv_reference_run.proofs.program.answer_script.Goals as goal

pub returns-in_err-step : goal.returns-in_err-step
returns-in_err-step g c =
    let failed : c.from_residual.result ≡ Err c.in_err-step.field-0.0 = search rules in
    subst (λ (r : Result Unit Fault). Runs (empty_machine c.args.blocks) (lines (g.H.Disk.shown c.args.host.now).ends.left) (g.H.Disk.shown c.args.host.now) (g.H.Disk.shown c.step.new.host) r) (sym failed)
    (stops _ _ _ _ _ _ _ c.loop-count.invariant _ _ _ _ c.in_err-step.ensures)

pub returns-in-Ended : goal.returns-in-Ended
returns-in-Ended g c =
    let steps : Steps c.loop-count.machine c.loop-count.script (g.H.Disk.shown c.loop-count.host) c.step.new.machine c.step.new.script (g.H.Disk.shown c.step.new.host) (Ok Ended) = rw (← c.in-Ended.is) c.in_ok-step.ensures in
    ends _ _ _ _ _ _ _ c.loop-count.invariant _ _ _ steps _ _ c.tell_count.ensures.tells c.tell_count.ensures.sink

pub returns : goal.returns
returns g c = too_many _ _ _ _ _ _ _ c.loop-count.invariant
