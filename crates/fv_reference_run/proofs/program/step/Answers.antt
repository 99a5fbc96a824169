use Rattle.std.proofs.Common.{◌≡◌, sym, subst, rules}
use Rattle.std.specs.Prelude.{Result, Ok, Err}
use Rattle.fv_model.specs.Lines.{line_of}
use Rattle.fv_lines.specs.declared.reading.Found.TheVariants as found
use Rattle.fv_lines.specs.Reading.{Finds}
use Rattle.fv_reference_run.specs.declared.ending.Fault.{Fault}
use Rattle.fv_reference_run.specs.declared.program.Turn.{Turn}
use Rattle.fv_reference_run.specs.Answering.{Answers}
use Rattle.fv_reference_run.specs.Running.{Steps}
use Rattle.fv_reference_run.proofs.Stepped.{step_ended, step_past, step_unanswered}
use Rattle.fv_reference_run.proofs.program.step.Goals as goal

pub returns-in-End : goal.returns-in-End
returns-in-End g c =
    let finds : Finds c.args.script.now (g.H.Disk.shown c.args.host.now) c.next_line.new.script (g.H.Disk.shown c.next_line.new.host) c.next_line.new.script.line (Ok found.End) = rw (← c.in-End.is) c.in-Ok.ensures.finds in
    step_ended _ _ _ _ _ _ finds

pub returns-in-PastLimit : goal.returns-in-PastLimit
returns-in-PastLimit g c =
    let finds : Finds c.args.script.now (g.H.Disk.shown c.args.host.now) c.next_line.new.script (g.H.Disk.shown c.next_line.new.host) c.next_line.new.script.line (Ok found.PastLimit) = rw (← c.in-PastLimit.is) c.in-Ok.ensures.finds in
    step_past _ _ _ _ _ _ _ finds

pub returns-in_err-answer-in-Line : goal.returns-in_err-answer-in-Line
returns-in_err-answer-in-Line g c =
    let failed : c.from_residual.result ≡ Err c.in_err-answer-in-Line.field-0.0 = search rules in
    let finds : Finds c.args.script.now (g.H.Disk.shown c.args.host.now) c.next_line.new.script (g.H.Disk.shown c.next_line.new.host) c.next_line.new.script.line (Ok found.Line) = rw (← c.in-Line.is) c.in-Ok.ensures.finds in
    let answers : Answers c.args.machine.now (line_of c.next_line.new.script.line) (g.H.Disk.shown c.next_line.new.host) c.answer.new.machine (g.H.Disk.shown c.answer.new.host) (Err c.in_err-answer-in-Line.field-0.0) = rw (← c.line.ensures) c.in_err-answer-in-Line.ensures in
    subst (λ (r : Result Turn Fault). Steps c.args.machine.now c.args.script.now (g.H.Disk.shown c.args.host.now) c.answer.new.machine c.next_line.new.script (g.H.Disk.shown c.answer.new.host) r) (sym failed)
    (step_unanswered _ _ _ _ _ _ finds _ _ _ answers)
