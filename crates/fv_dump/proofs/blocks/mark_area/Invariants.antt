use Rattle.std.specs.Prelude.{None}
use Rattle.fv_dump.specs.Looking.{Looks}
use Rattle.fv_dump.proofs.blocks.mark_area.Given as goal

abbrev pub invariant-loop-k : goal.invariant-loop-k
invariant-loop-k g l = Looks (g.L.Look.shown l.fn.look) (g.L.Look.shown l.look) None

abbrev pub invariant-loop-bit : goal.invariant-loop-bit
invariant-loop-bit g l = Looks (g.L.Look.shown l.fn.look) (g.L.Look.shown l.look) None
