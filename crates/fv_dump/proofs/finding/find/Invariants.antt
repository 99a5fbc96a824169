use Rattle.std.specs.Prelude.{None}
use Rattle.fv_dump.specs.Looking.{Looks}
use Rattle.fv_dump.proofs.finding.find.Given as goal

abbrev pub invariant-loop : goal.invariant-loop
invariant-loop g l = Looks (g.L.Look.shown l.fn.look) (g.L.Look.shown l.look) None
