use Rattle.std.specs.Prelude.{None}
use Rattle.fv_dump.specs.Looking.{Looks}
use Rattle.fv_dump.proofs.letters.Letters.tell.Given as goal

abbrev pub invariant-loop-line : goal.invariant-loop-line
invariant-loop-line g l = Looks (g.L.Look.shown l.fn.look) (g.L.Look.shown l.look) None
