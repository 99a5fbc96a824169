use Rattle.std.specs.Prelude.{length}
use Rattle.fv_script.specs.Generated.{generated}
use Rattle.fv_saying.proofs.Written.{HasSaid}
use Rattle.fv_saying.proofs.drawn.write_generated.Given as goal

abbrev pub invariant-loop-script : goal.invariant-loop-script
invariant-loop-script g l = HasSaid (g.H.Disk.shown l.fn.host) (generated l.fn.seed l.fn.count) (g.H.Disk.shown l.host) l.script

abbrev pub decreases-loop-script : goal.decreases-loop-script
decreases-loop-script g l = length l.script
