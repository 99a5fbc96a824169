use Rattle.std.specs.Prelude.{None}
use Rattle.fv_dump.specs.Looking.{Looks}
use Rattle.fv_dump.proofs.loading.read_top.Given as goal

abbrev pub invariant-loop-child : goal.invariant-loop-child
invariant-loop-child g l = Looks (g.L.Look.shown l.fn.look) (g.L.Look.shown l.look) None
