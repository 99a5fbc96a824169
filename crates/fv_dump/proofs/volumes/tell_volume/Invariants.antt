use Rattle.std.specs.Prelude.{None}
use Rattle.fv_dump.specs.Looking.{Looks}
use Rattle.fv_dump.proofs.volumes.tell_volume.Given as goal

abbrev pub invariant-loop-map : goal.invariant-loop-map
invariant-loop-map g l = Looks (g.L.Look.shown l.fn.look) (g.L.Look.shown l.look) None
