use Rattle.std.proofs.Common.{rules, ◌≡◌, ℕ, length, refl, ap, sym, subst, ◌+◌, arith}
use Rattle.std.specs.Prelude.{Err, List, Result}
use Rattle.fv_model.specs.declared.commands.Command.{Command}
use Rattle.fv_script.proofs.Taken.{none_taken, one_taken}
use Rattle.fv_run.specs.declared.ending.Fault.{Fault}
use Rattle.fv_run.specs.declared.generating.Tally.{Tally}
use Rattle.fv_run.specs.Generating.{AppliesAll, lines_said}
use Rattle.fv_run.proofs.Tallied.{at_end, cut_out, goes_out, starts}
use Rattle.fv_run.proofs.generating.apply_all.Goals as goal

pub loop-command-init : goal.loop-command-init
loop-command-init g c = starts (lines_said c.args.script.now) c.args.session.now (g.H.Disk.shown c.args.host.now) (g.met.H.Disk.laws c.args.host.now) c.requires.ready

pub returns-in_err-apply : goal.returns-in_err-apply
returns-in_err-apply g c =
    let failed : c.from_residual.result ≡ Err c.in_err-apply.field-0.0 = search rules in
    subst (λ (r : Result Tally Fault). AppliesAll (lines_said c.args.script.now) c.args.session.now (g.H.Disk.shown c.args.host.now) c.apply.new.session (g.H.Disk.shown c.apply.new.host) r) (sym failed)
    (cut_out (lines_said c.args.script.now) c.loop-command.script c.next_into.new.self c.next_into.new.into c.args.session.now (g.H.Disk.shown c.args.host.now) c.loop-command.session (g.H.Disk.shown c.loop-command.host) c.loop-command.tally.lines c.loop-command.tally.accepted c.loop-command.invariant (one_taken _ _ _ _ c.next_into.ensures c.loop-command-test.true) c.apply.new.session (g.H.Disk.shown c.apply.new.host) c.in_err-apply.field-0.0 c.in_err-apply.ensures)

pub loop-command-smaller : goal.loop-command-smaller
loop-command-smaller g c = omega (arith, ap (λ (commands : List Command). length commands) (one_taken _ _ _ _ c.next_into.ensures c.loop-command-test.true))

pub loop-command-preserved : goal.loop-command-preserved
loop-command-preserved g c =
    goes_out (lines_said c.args.script.now) c.loop-command.script c.next_into.new.self c.next_into.new.into c.args.session.now (g.H.Disk.shown c.args.host.now) c.loop-command.session (g.H.Disk.shown c.loop-command.host) c.loop-command.tally.lines c.loop-command.tally.accepted c.loop-command.invariant (one_taken _ _ _ _ c.next_into.ensures c.loop-command-test.true) c.apply.new.session (g.H.Disk.shown c.apply.new.host) c.apply.new.reply c.in_ok-apply.ensures
    (c.loop-command.tally.lines + 1) (c.loop-command.tally.accepted + c.count_accepted.result) refl (ap (λ (n : ℕ). c.loop-command.tally.accepted + n) c.count_accepted.ensures.value)

pub returns : goal.returns
returns g c = at_end (lines_said c.args.script.now) c.loop-command.script c.args.session.now (g.H.Disk.shown c.args.host.now) c.loop-command.session (g.H.Disk.shown c.loop-command.host) c.loop-command.tally (none_taken _ _ _ _ c.next_into.ensures c.loop-command-test.false) c.loop-command.invariant
