use Rattle.fv_aggregate.proofs.CleanedLoop.{HasCleaned}
use Rattle.fv_aggregate.proofs.session.Session.learn.Given as goal

abbrev pub invariant-loop : goal.invariant-loop
invariant-loop g l = record { cleaned : HasCleaned l.fn.slot (g.D.Disk.shown l.fn.disk) l.fn.self l.counter (g.D.Disk.shown l.disk) l.self }
