use Rattle.std.proofs.Common.{◌≡◌, ◌∙◌, sym, subst, ap, rules}
use Rattle.std.specs.Prelude.{Result, Ok, Err}
use Rattle.fv_model.specs.declared.answers.Reply.{Reply}
use Rattle.fv_model.specs.Lines.{line_of}
use Rattle.fv_script.specs.declared.fault.LineFault.{LineFault}
use Rattle.fv_script.specs.Reading.{handed}
use Rattle.fv_aggregate.specs.Answers.{answer}
use Rattle.fv_aggregate.proofs.Answered.{fails}
use Rattle.fv_run.specs.declared.ending.Fault.{Fault}
use Rattle.fv_run.specs.Endings.{of_session}
use Rattle.fv_run.specs.Built.{built}
use Rattle.fv_run.specs.Answering.{Applies}
use Rattle.fv_run.proofs.Applied.{said, said_none, said_range, applied_none, applied_range}
use Rattle.fv_run.proofs.Built.{cp_reads_none}
use Rattle.fv_run.proofs.StepsApplied.{applied_as, unapplied_as}
use Rattle.fv_aggregate.proofs.Damages.{as_read}
use Rattle.fv_run.proofs.Courses.{command_over}
use Rattle.fv_run.proofs.LeftAlong.{less_said}
use Rattle.fv_run.proofs.ProbesAlong.{paths_said}
use Rattle.fv_run.proofs.answering.apply.Goals as goal

pub returns-in_err-apply_into-in-Ok : goal.returns-in_err-apply_into-in-Ok
returns-in_err-apply_into-in-Ok g c =
    let failed : answer c.apply_into.new.into c.from_residual.result ≡ Err (of_session c.in_err-apply_into-in-Ok.field-0.0) = fails c.apply_into.new.into c.from_residual.result (of_session c.in_err-apply_into-in-Ok.field-0.0) (search rules) in
    let done = c.in_err-apply_into-in-Ok.ensures in
    subst (λ (r : Result Reply Fault). Applies c.args.session.now (built (line_of c.args.line.now)) (g.H.Disk.shown c.args.host.now) c.apply_into.new.self (g.H.Disk.shown c.apply_into.new.disk) r) (sym failed)
    (unapplied_as _ _ (line_of c.args.line.now) c.read_into.new.into _ _ (said _ _ (sym (ap (λ (r : Result Unit LineFault). handed r c.read_into.new.into) c.in-Ok.is) ∙ c.read_into.ensures)) c.requires (λ other once few. (done.calm other once few).stays.reads) _ done.goes (λ other. (done.plain other).damage) done.goes_for)

pub returns-in-Ok : goal.returns-in-Ok
returns-in-Ok g c =
    let done = c.in_ok-apply_into-in-Ok.ensures in
    applied_as _ _ (line_of c.args.line.now) c.read_into.new.into _ _ (said _ _ (sym (ap (λ (r : Result Unit LineFault). handed r c.read_into.new.into) c.in-Ok.is) ∙ c.read_into.ensures)) c.requires _ (λ other once few. (done.calm other once few).stays.reads) done.goes done.asks done.files done.goes_for done.reply (λ tells last m stands cp. (done.point tells last m stands cp).stands) (λ cp. ((done.plain (cp_reads_none c.read_into.new.into cp)).pointed cp).pending)
    (λ files asks. as_read _ _ _ _ ((done.on_files files).asked asks)) (command_over g.H.Disk.shown _ _ _ _ _ _ _ _ done)
    (less_said g.H.Disk.shown _ _ _ _ _ _ _ (line_of c.args.line.now) c.read_into.new.into (said _ _ (sym (ap (λ (r : Result Unit LineFault). handed r c.read_into.new.into) c.in-Ok.is) ∙ c.read_into.ensures)) c.requires.unfailed done)
    (paths_said g.H.Disk.shown _ _ _ _ _ _ _ (line_of c.args.line.now) c.read_into.new.into (said _ _ (sym (ap (λ (r : Result Unit LineFault). handed r c.read_into.new.into) c.in-Ok.is) ∙ c.read_into.ensures)) done)

pub returns-in-Err-Syntax : goal.returns-in-Err-Syntax
returns-in-Err-Syntax g c =
    subst (λ (z : Reply). Applies c.args.session.now (built (line_of c.args.line.now)) (g.H.Disk.shown c.args.host.now) c.args.session.now (g.H.Disk.shown c.args.host.now) (Ok z)) (sym c.refuse.ensures)
    (applied_none _ _ _ (g.met.H.Disk.laws c.args.host.now) c.requires (said_none _ (ap Err (sym c.in-Err-Syntax.field-0-is) ∙ sym (ap (λ (r : Result Unit LineFault). handed r c.read_into.new.into) c.in-Err-Syntax.is) ∙ c.read_into.ensures)))

pub returns-in-Err-Range : goal.returns-in-Err-Range
returns-in-Err-Range g c =
    subst (λ (z : Reply). Applies c.args.session.now (built (line_of c.args.line.now)) (g.H.Disk.shown c.args.host.now) c.args.session.now (g.H.Disk.shown c.args.host.now) (Ok z)) (sym c.refuse-in-Err-Range.ensures)
    (applied_range _ _ _ (g.met.H.Disk.laws c.args.host.now) c.requires (said_range _ (ap Err (sym c.in-Err-Range.field-0-is) ∙ sym (ap (λ (r : Result Unit LineFault). handed r c.read_into.new.into) c.in-Err-Range.is) ∙ c.read_into.ensures)))
