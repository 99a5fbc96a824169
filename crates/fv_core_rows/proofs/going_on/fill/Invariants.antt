use Rattle.std.specs.Prelude.{IsNone}
use Rattle.fv_aggregate.specs.Standing.{Stands}
use Rattle.fv_core_rows.proofs.going_on.fill.Given as goal

abbrev pub invariant-loop-index : goal.invariant-loop-index
invariant-loop-index g l = IsNone l.session.failed → Stands (g.D.Disk.shown l.disk) l.session
