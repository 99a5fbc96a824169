use Rattle.fv_aggregate.proofs.WorkedLoops.{HasGone}
use Rattle.fv_aggregate.proofs.session.Session.take_steps.Given as goal

abbrev pub invariant-loop-taken : goal.invariant-loop-taken
invariant-loop-taken g l = record { gone : HasGone g.D.Disk.shown l.fn.disk l.fn.self l.taken l.disk l.self }
