use Rattle.fv_store.specs.Held.{StandsOn}
use Rattle.fv_core_rows.proofs.containers.has_just.Given as goal

abbrev pub invariant-loop-vvbn : goal.invariant-loop-vvbn
invariant-loop-vvbn g l = StandsOn (g.D.Disk.shown l.disk) l.store.pairs
