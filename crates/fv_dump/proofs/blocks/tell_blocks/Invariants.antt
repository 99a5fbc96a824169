use Rattle.std.specs.Prelude.{None}
use Rattle.fv_dump.specs.Looking.{Looks}
use Rattle.fv_dump.proofs.blocks.tell_blocks.Given as goal

abbrev pub invariant-loop-slot : goal.invariant-loop-slot
invariant-loop-slot g l = Looks (g.L.Look.shown l.fn.look) (g.L.Look.shown l.look) None
