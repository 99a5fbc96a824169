use Rattle.std.proofs.Common.{length}
use Rattle.fv_disk.proofs.Giving.{HasGiven}
use Rattle.fv_disk.proofs.give.give_all.Given as goal

abbrev pub invariant-loop-rest : goal.invariant-loop-rest
invariant-loop-rest g l = HasGiven (g.H.Disk.shown l.fn.host) l.fn.bytes (g.H.Disk.shown l.host) l.rest

abbrev pub decreases-loop-rest : goal.decreases-loop-rest
decreases-loop-rest g l = length l.rest
