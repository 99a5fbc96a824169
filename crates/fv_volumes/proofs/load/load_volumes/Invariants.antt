use Rattle.std.proofs.Common.{◌≡◌}
use Rattle.std.specs.Prelude.{IsTrue}
use Rattle.fv_disk.specs.DiskCalls.{OnlyReads}
use Rattle.fv_store.specs.Held.{StandsOn}
use Rattle.fv_volume.specs.Loading.{LoadedTo, ReadTo}
use Rattle.fv_volumes.proofs.load.load_volumes.Given as goal

abbrev pub invariant-loop-slot : goal.invariant-loop-slot
invariant-loop-slot g l = record {
  stands : StandsOn (g.D.Disk.shown l.disk) l.store.pairs;
  read : ReadTo l.slot l.states.items l.containers;
  loaded : IsTrue (g.D.Disk.shown l.fn.disk).tells → LoadedTo (g.D.Disk.shown l.fn.disk).reads l.fn.found l.slot l.states.items l.containers;
  only_reads : OnlyReads (g.D.Disk.shown l.fn.disk) (g.D.Disk.shown l.disk);
  calm : (g.D.Disk.shown l.disk).faults ≡ (g.D.Disk.shown l.fn.disk).faults;
}
