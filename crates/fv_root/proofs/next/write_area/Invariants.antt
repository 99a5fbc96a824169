use Rattle.std.specs.Prelude.{IsTrue, Ok}
use Rattle.fv_disk.specs.Sparing.{Spares}
use Rattle.fv_root.specs.Commits.{HasArea, IsOutside}
use Rattle.fv_root.proofs.next.write_area.Given as goal

abbrev pub invariant-loop-k : goal.invariant-loop-k
invariant-loop-k g l = record {
  written : IsTrue (g.D.Disk.shown l.fn.disk).tells → HasArea l.fn.blocks l.fn.slot l.fn.map l.k (g.D.Disk.shown l.disk).reads;
  spares : Spares (IsOutside l.fn.blocks l.fn.slot) (g.D.Disk.shown l.fn.disk) (g.D.Disk.shown l.disk) (Ok tt);
}
