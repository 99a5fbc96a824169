use Rattle.std.specs.Prelude.{IsTrue, Ok}
use Rattle.fv_disk.specs.Sparing.{Spares}
use Rattle.fv_root.specs.Steps.{IsBesides, IsCleared}
use Rattle.fv_root.proofs.fresh.clear_area.Given as goal

abbrev pub invariant-loop-k : goal.invariant-loop-k
invariant-loop-k g l = record {
  cleared : IsTrue (g.D.Disk.shown l.fn.disk).tells → IsCleared l.k (g.D.Disk.shown l.fn.disk).reads (g.D.Disk.shown l.disk).reads;
  spares : Spares (IsBesides l.fn.blocks) (g.D.Disk.shown l.fn.disk) (g.D.Disk.shown l.disk) (Ok tt);
}
