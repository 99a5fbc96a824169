use Rattle.std.proofs.Common.{◌≡◌}
use Rattle.std.specs.Prelude.{IsTrue}
use Rattle.fv_store.specs.Held.{StandsOn}
use Rattle.fv_disk.specs.DiskCalls.{OnlyReads}
use Rattle.fv_container.specs.Loading.{Marks}
use Rattle.fv_container.specs.Seeing.{leads_first}
use Rattle.fv_container.proofs.marking.mark_all.Given as goal

abbrev pub invariant-loop-k : goal.invariant-loop-k
invariant-loop-k g l = record {
  stands : StandsOn (g.D.Disk.shown l.disk) l.store.pairs;
  marked : IsTrue (g.D.Disk.shown l.fn.disk).tells → Marks l.initial.bits (leads_first (g.D.Disk.shown l.fn.disk).reads l.count l.leaves l.tree l.k) l.bits;
  only_reads : OnlyReads (g.D.Disk.shown l.fn.disk) (g.D.Disk.shown l.disk);
  faults : (g.D.Disk.shown l.disk).faults ≡ (g.D.Disk.shown l.fn.disk).faults;
}
