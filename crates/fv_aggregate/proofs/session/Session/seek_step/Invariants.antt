use Rattle.fv_aggregate.proofs.WorkedLoops.{HasSought}
use Rattle.fv_aggregate.proofs.session.Session.seek_step.Given as goal

abbrev pub invariant-loop-slot : goal.invariant-loop-slot
invariant-loop-slot g l = record { sought : HasSought (g.D.Disk.shown l.fn.disk) l.fn.self l.slot (g.D.Disk.shown l.disk) l.self }
