use Rattle.std.proofs.Common.{◌≡◌}
use Rattle.fv_disk.specs.DiskCalls.{OnlyReads}
use Rattle.fv_store.specs.Held.{StandsOn}
use Rattle.std.specs.Prelude.{IsTrue}
use Rattle.fv_volume.specs.SlotReads.{HasReadSlot, IsOpenedOn, TakesSlot}
use Rattle.fv_volumes.proofs.load.read_slot.Given as goal

abbrev pub invariant-loop-index : goal.invariant-loop-index
invariant-loop-index g l = record {
  stands : StandsOn (g.D.Disk.shown l.disk) l.store.pairs;
  takes : TakesSlot l.fn.map l.slot l.index l.map;
  read : IsTrue (g.D.Disk.shown l.fn.disk).tells → IsOpenedOn (g.D.Disk.shown l.fn.disk).reads l.container.map → HasReadSlot (g.D.Disk.shown l.fn.disk).reads l.container.map l.span l.slot 0 l.fn.map → HasReadSlot (g.D.Disk.shown l.fn.disk).reads l.container.map l.span l.slot l.index l.map;
  only_reads : OnlyReads (g.D.Disk.shown l.fn.disk) (g.D.Disk.shown l.disk);
  calm : (g.D.Disk.shown l.disk).faults ≡ (g.D.Disk.shown l.fn.disk).faults;
}
