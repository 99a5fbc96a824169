use Rattle.std.proofs.Common.{◌≡◌, drop, map}
use Rattle.std.specs.Prelude.{All}
use Rattle.fv_container.specs.Chains.{TellsEntries}
use Rattle.fv_disk.specs.DiskCalls.{OnlyReads}
use Rattle.fv_pool.specs.BlocksOver.{LeavesPool}
use Rattle.fv_store.specs.Held.{StandsOn}
use Rattle.fv_cleaner.specs.Searching.{lies_in}
use Rattle.fv_cleaner.specs.Stepping.{IsRootClear, root_of_snap}
use Rattle.fv_cleaner.proofs.stepping.find_in.Given as goal

abbrev pub invariant-loop-snap : goal.invariant-loop-snap
invariant-loop-snap g l = record {
  active : TellsEntries (g.D.Disk.shown l.fn.disk) l.fn.pool.containers
      → IsRootClear (lies_in l.fn.state.map l.fn.pool l.fn.home.slot (g.D.Disk.shown l.fn.disk).reads) l.fn.state.active.root;
  clear : TellsEntries (g.D.Disk.shown l.fn.disk) l.fn.pool.containers
      → All (IsRootClear (lies_in l.fn.state.map l.fn.pool l.fn.home.slot (g.D.Disk.shown l.fn.disk).reads)) (map root_of_snap (drop l.snap-index l.fn.state.snapshots))
      → All (IsRootClear (lies_in l.fn.state.map l.fn.pool l.fn.home.slot (g.D.Disk.shown l.fn.disk).reads)) (map root_of_snap l.fn.state.snapshots);
  leaves : LeavesPool l.fn.pool l.pool;
  stands : StandsOn (g.D.Disk.shown l.disk) l.pool.store.pairs;
  only_reads : OnlyReads (g.D.Disk.shown l.fn.disk) (g.D.Disk.shown l.disk);
  calm : (g.D.Disk.shown l.disk).faults ≡ (g.D.Disk.shown l.fn.disk).faults;
}
