use Rattle.std.proofs.Common.{◌≡◌, sym, subst, refl, rules}
use Rattle.std.specs.Prelude.{Result, Err}
use Rattle.fv_model.specs.declared.answers.Reply.{Reply}
use Rattle.fv_model.specs.Runs.{Says}
use Rattle.fv_aggregate.specs.Answers.{answer}
use Rattle.fv_aggregate.proofs.Answered.{fails}
use Rattle.fv_run.specs.declared.ending.Fault.{Fault}
use Rattle.fv_run.specs.Endings.{of_session}
use Rattle.fv_run.specs.Built.{built}
use Rattle.fv_run.specs.Answering.{Applies}
use Rattle.fv_run.proofs.Built.{cp_reads_none}
use Rattle.fv_run.proofs.StepsApplied.{applied_as, unapplied_as}
use Rattle.fv_aggregate.proofs.Damages.{as_read}
use Rattle.fv_run.proofs.Courses.{command_over}
use Rattle.fv_run.proofs.LeftAlong.{less_said}
use Rattle.fv_run.proofs.ProbesAlong.{paths_said}
use Rattle.fv_run.proofs.generating.apply.Goals as goal

pub returns-in_err-apply_into : goal.returns-in_err-apply_into
returns-in_err-apply_into g c =
    let failed : answer c.apply_into.new.into c.from_residual.result ≡ Err (of_session c.in_err-apply_into.field-0.0) = fails c.apply_into.new.into c.from_residual.result (of_session c.in_err-apply_into.field-0.0) (search rules) in
    let done = c.in_err-apply_into.ensures in
    subst (λ (r : Result Reply Fault). Applies c.args.session.now (built (Says c.args.command.now)) (g.H.Disk.shown c.args.host.now) c.apply_into.new.self (g.H.Disk.shown c.apply_into.new.disk) r) (sym failed)
    (unapplied_as _ _ (Says c.args.command.now) c.args.command.now _ _ refl c.requires (λ other once few. (done.calm other once few).stays.reads) _ done.goes (λ other. (done.plain other).damage) done.goes_for)

pub returns : goal.returns
returns g c =
    let done = c.in_ok-apply_into.ensures in
    applied_as _ _ (Says c.args.command.now) c.args.command.now _ _ refl c.requires _ (λ other once few. (done.calm other once few).stays.reads) done.goes done.asks done.files done.goes_for done.reply (λ tells last m stands cp. (done.point tells last m stands cp).stands) (λ cp. ((done.plain (cp_reads_none c.args.command.now cp)).pointed cp).pending)
    (λ files asks. as_read _ _ _ _ ((done.on_files files).asked asks)) (command_over g.H.Disk.shown _ _ _ _ _ _ _ _ done)
    (less_said g.H.Disk.shown _ _ _ _ _ _ _ (Says c.args.command.now) c.args.command.now refl c.requires.unfailed done)
    (paths_said g.H.Disk.shown _ _ _ _ _ _ _ (Says c.args.command.now) c.args.command.now refl done)
