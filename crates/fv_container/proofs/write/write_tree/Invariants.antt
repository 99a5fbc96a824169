use Rattle.std.specs.Prelude.{◌-◌, ◌≤◌, IsTrue, Ok, length}
use Rattle.fv_store.specs.Held.{StandsOn}
use Rattle.fv_disk.specs.Sparing.{Spares}
use Rattle.fv_container.specs.Written.{AreAnew, IsElsewhere}
use Rattle.fv_container.proofs.write.write_tree.Given as goal

abbrev pub invariant-loop-n : goal.invariant-loop-n
invariant-loop-n g l = record {
  within : l.n ≤ length l.fresh;
  stands : StandsOn (g.D.Disk.shown l.disk) l.store.pairs;
  written : IsTrue (g.D.Disk.shown l.fn.disk).tells → AreAnew l.leaves l.count l.places l.fresh l.n (g.D.Disk.shown l.disk).reads;
  spares : Spares (IsElsewhere l.fresh) (g.D.Disk.shown l.fn.disk) (g.D.Disk.shown l.disk) (Ok tt);
}

abbrev pub decreases-loop-n : goal.decreases-loop-n
decreases-loop-n g l = length l.fresh - l.n
