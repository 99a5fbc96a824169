use Rattle.std.proofs.Common.{◌≡◌}
use Rattle.fv_disk.specs.DiskCalls.{OnlyReads}
use Rattle.fv_store.specs.Held.{StandsOn}
use Rattle.std.specs.Prelude.{IsTrue}
use Rattle.fv_volume.specs.SlotReads.{AreUsedTo, HaveRead, IsOpenedOn}
use Rattle.fv_volumes.proofs.load.read_map.Given as goal

abbrev pub invariant-loop-slot : goal.invariant-loop-slot
invariant-loop-slot g l = record {
  stands : StandsOn (g.D.Disk.shown l.disk) l.store.pairs;
  map : l.map.span ≡ l.span;
  used : AreUsedTo l.snapshots l.slot l.map;
  read : IsTrue (g.D.Disk.shown l.fn.disk).tells → IsOpenedOn (g.D.Disk.shown l.fn.disk).reads l.container.map → HaveRead (g.D.Disk.shown l.fn.disk).reads l.container.map l.span l.slot l.map;
  only_reads : OnlyReads (g.D.Disk.shown l.fn.disk) (g.D.Disk.shown l.disk);
  calm : (g.D.Disk.shown l.disk).faults ≡ (g.D.Disk.shown l.fn.disk).faults;
}
