use Rattle.std.proofs.Common.{◌≡◌, rules, length, ap, arith}
use Rattle.std.specs.Prelude.{Err, List}
use Rattle.fv_model.specs.declared.commands.Command.{Command}
use Rattle.fv_script.proofs.Taken.{none_taken, one_taken}
use Rattle.fv_saying.proofs.Written.{begins, ends, fails, goes_on}
use Rattle.fv_saying.proofs.drawn.write_generated.Goals as goal

pub loop-script-init : goal.loop-script-init
loop-script-init g c = begins _ _ _ (g.met.H.Disk.laws c.args.host.now) c.new-script.ensures

pub loop-script-smaller : goal.loop-script-smaller
loop-script-smaller g c = omega (arith, ap (λ (commands : List Command). length commands) (one_taken _ _ _ _ c.next_into.ensures c.loop-script-test.true))

pub loop-script-preserved : goal.loop-script-preserved
loop-script-preserved g c = goes_on _ _ _ _ _ _ _ c.loop-script.invariant (one_taken _ _ _ _ c.next_into.ensures c.loop-script-test.true) c.in_ok-write_command.ensures.told

pub returns-in_err-write_command : goal.returns-in_err-write_command
returns-in_err-write_command g c =
    let failed : c.from_residual.result ≡ Err c.in_err-write_command.field-0.0 = search rules in
    rw failed (fails _ _ _ _ _ _ _ _ c.loop-script.invariant (one_taken _ _ _ _ c.next_into.ensures c.loop-script-test.true) c.in_err-write_command.ensures.told)

pub returns : goal.returns
returns g c = ends _ _ _ _ c.loop-script.invariant (none_taken _ _ _ _ c.next_into.ensures c.loop-script-test.false)
