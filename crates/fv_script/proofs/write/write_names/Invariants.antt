use Rattle.std.proofs.Common.{length}
use Rattle.fv_script.proofs.NamesTold.{HasGiven}
use Rattle.fv_script.proofs.write.write_names.Given as goal

abbrev pub invariant-loop-rest : goal.invariant-loop-rest
invariant-loop-rest g l = HasGiven (g.H.Disk.shown l.fn.host) l.names l.last (g.H.Disk.shown l.host) l.rest

abbrev pub decreases-loop-rest : goal.decreases-loop-rest
decreases-loop-rest g l = length l.rest
