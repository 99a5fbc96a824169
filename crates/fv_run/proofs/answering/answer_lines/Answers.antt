use Rattle.std.proofs.Common.{◌≡◌, sym, subst, rules, ℕ}
use Rattle.std.specs.Prelude.{Result, Ok, Err}
use Rattle.fv_model.specs.Lines.{line_of}
use Rattle.fv_lines.specs.declared.reading.Found.TheVariants as found
use Rattle.fv_lines.specs.Reading.{Finds}
use Rattle.fv_lines.specs.Held.{Held}
use Rattle.fv_run.specs.declared.ending.Fault.{Fault}
use Rattle.fv_run.specs.Built.{built}
use Rattle.fv_run.specs.Answering.{AnswersLines, Applies, StandsAt}
use Rattle.fv_run.proofs.NoneFound.{source_failed, limit_passed, at_end}
use Rattle.fv_run.proofs.SoFar.{starts}
use Rattle.fv_run.proofs.Stepped.{apply_failed, tell_failed, goes_on, mid_ready}
use Rattle.fv_run.proofs.answering.answer_lines.Goals as goal

pub loop-found-init : goal.loop-found-init
loop-found-init g c =
    subst (λ (held : Held). StandsAt c.args.limit c.args.session.now (g.H.Disk.shown c.args.host.now) held c.args.session.now (g.H.Disk.shown c.args.host.now) 0) (sym c.new-script.ensures)
    (starts c.args.limit c.args.session.now (g.H.Disk.shown c.args.host.now) (g.met.H.Disk.laws c.args.host.now) c.requires)

pub returns-in_default : goal.returns-in_default
returns-in_default g c = source_failed c.args.limit c.args.session.now (g.H.Disk.shown c.args.host.now) c.loop-found.script c.loop-found.session (g.H.Disk.shown c.loop-found.host) c.loop-found.count c.loop-found.invariant c.next_line.new.script (g.H.Disk.shown c.next_line.new.host) c.next_line.new.script.line c.in_default.field-0 c.in_default.ensures.finds

pub returns-in_err-apply-in-Line : goal.returns-in_err-apply-in-Line
returns-in_err-apply-in-Line g c =
    let failed : c.from_residual.result ≡ Err c.in_err-apply-in-Line.field-0.0 = search rules in
    let finds : Finds c.loop-found.script (g.H.Disk.shown c.loop-found.host) c.next_line.new.script (g.H.Disk.shown c.next_line.new.host) c.next_line.new.script.line (Ok found.Line) = rw (← c.in-Line.is) c.in-Ok.ensures.finds in
    let applies : Applies c.loop-found.session (built (line_of c.next_line.new.script.line)) (g.H.Disk.shown c.next_line.new.host) c.apply.new.session (g.H.Disk.shown c.apply.new.host) (Err c.in_err-apply-in-Line.field-0.0) = rw (← c.line.ensures) c.in_err-apply-in-Line.ensures in
    subst (λ (r : Result ℕ Fault). AnswersLines c.args.limit c.args.session.now (g.H.Disk.shown c.args.host.now) c.apply.new.session (g.H.Disk.shown c.apply.new.host) r) (sym failed)
    (apply_failed c.args.limit c.args.session.now (g.H.Disk.shown c.args.host.now) c.loop-found.script c.loop-found.session (g.H.Disk.shown c.loop-found.host) c.loop-found.count c.loop-found.invariant c.next_line.new.script (g.H.Disk.shown c.next_line.new.host) c.next_line.new.script.line finds _ _ _ applies)

pub returns-in_err-tell-in-Line : goal.returns-in_err-tell-in-Line
returns-in_err-tell-in-Line g c =
    let failed : c.from_residual-in_err-tell-in-Line.result ≡ Err c.in_err-tell-in-Line.field-0.0 = search rules in
    let finds : Finds c.loop-found.script (g.H.Disk.shown c.loop-found.host) c.next_line.new.script (g.H.Disk.shown c.next_line.new.host) c.next_line.new.script.line (Ok found.Line) = rw (← c.in-Line.is) c.in-Ok.ensures.finds in
    let applies : Applies c.loop-found.session (built (line_of c.next_line.new.script.line)) (g.H.Disk.shown c.next_line.new.host) c.apply.new.session (g.H.Disk.shown c.apply.new.host) (Ok c.apply.new.reply) = rw (← c.line.ensures) c.in_ok-apply-in-Line.ensures in
    subst (λ (r : Result ℕ Fault). AnswersLines c.args.limit c.args.session.now (g.H.Disk.shown c.args.host.now) c.apply.new.session (g.H.Disk.shown c.tell.new.host) r) (sym failed)
    (tell_failed c.args.limit c.args.session.now (g.H.Disk.shown c.args.host.now) c.loop-found.script c.loop-found.session (g.H.Disk.shown c.loop-found.host) c.loop-found.count c.loop-found.invariant c.next_line.new.script (g.H.Disk.shown c.next_line.new.host) c.next_line.new.script.line finds _ _ _ applies _ _ c.in_err-tell-in-Line.ensures)

pub loop-found-preserved : goal.loop-found-preserved
loop-found-preserved g c =
    let finds : Finds c.loop-found.script (g.H.Disk.shown c.loop-found.host) c.next_line.new.script (g.H.Disk.shown c.next_line.new.host) c.next_line.new.script.line (Ok found.Line) = rw (← c.in-Line.is) c.in-Ok.ensures.finds in
    let applies : Applies c.loop-found.session (built (line_of c.next_line.new.script.line)) (g.H.Disk.shown c.next_line.new.host) c.apply.new.session (g.H.Disk.shown c.apply.new.host) (Ok c.apply.new.reply) = rw (← c.line.ensures) c.in_ok-apply-in-Line.ensures in
    goes_on c.args.limit c.args.session.now (g.H.Disk.shown c.args.host.now) c.loop-found.script c.loop-found.session (g.H.Disk.shown c.loop-found.host) c.loop-found.count c.loop-found.invariant c.next_line.new.script (g.H.Disk.shown c.next_line.new.host) c.next_line.new.script.line finds _ _ _ applies _ c.in_ok-tell-in-Line.ensures

pub returns-in-End : goal.returns-in-End
returns-in-End g c =
    let finds : Finds c.loop-found.script (g.H.Disk.shown c.loop-found.host) c.next_line.new.script (g.H.Disk.shown c.next_line.new.host) c.next_line.new.script.line (Ok found.End) = rw (← c.in-End.is) c.in-Ok.ensures.finds in
    at_end c.args.limit c.args.session.now (g.H.Disk.shown c.args.host.now) c.loop-found.script c.loop-found.session (g.H.Disk.shown c.loop-found.host) c.loop-found.count c.loop-found.invariant c.next_line.new.script (g.H.Disk.shown c.next_line.new.host) c.next_line.new.script.line finds

pub returns-in-PastLimit : goal.returns-in-PastLimit
returns-in-PastLimit g c =
    let finds : Finds c.loop-found.script (g.H.Disk.shown c.loop-found.host) c.next_line.new.script (g.H.Disk.shown c.next_line.new.host) c.next_line.new.script.line (Ok found.PastLimit) = rw (← c.in-PastLimit.is) c.in-Ok.ensures.finds in
    limit_passed c.args.limit c.args.session.now (g.H.Disk.shown c.args.host.now) c.loop-found.script c.loop-found.session (g.H.Disk.shown c.loop-found.host) c.loop-found.count c.loop-found.invariant c.next_line.new.script (g.H.Disk.shown c.next_line.new.host) c.next_line.new.script.line finds

pub apply-requires : goal.apply-requires
apply-requires g c =
    let finds : Finds c.loop-found.script (g.H.Disk.shown c.loop-found.host) c.next_line.new.script (g.H.Disk.shown c.next_line.new.host) c.next_line.new.script.line (Ok found.Line) = rw (← c.in-Line.is) c.in-Ok.ensures.finds in
    mid_ready c.args.limit c.args.session.now (g.H.Disk.shown c.args.host.now) c.loop-found.script c.loop-found.session (g.H.Disk.shown c.loop-found.host) c.loop-found.count c.loop-found.invariant c.next_line.new.script (g.H.Disk.shown c.next_line.new.host) c.next_line.new.script.line finds
