use Rattle.std.specs.Prelude.{◌≡◌}
use Rattle.fv_container.specs.Chains.{TellsEntries}
use Rattle.fv_disk.specs.DiskCalls.{OnlyReads}
use Rattle.fv_pool.specs.BlocksOver.{LeavesPool}
use Rattle.fv_store.specs.Held.{StandsOn}
use Rattle.fv_cleaner.specs.Filling.{ArePlaced, FillsUpTo}
use Rattle.fv_cleaner.specs.Searching.{lies_in}
use Rattle.fv_cleaner.proofs.filling.fill_each.Given as goal

abbrev pub invariant-loop-i : goal.invariant-loop-i
invariant-loop-i g l = record {
  fills : FillsUpTo l.fn.pointers l.i l.pointers;
  places : TellsEntries (g.D.Disk.shown l.fn.disk) l.fn.pool.containers
      → ArePlaced (lies_in l.fn.map l.fn.pool l.fn.home.slot (g.D.Disk.shown l.fn.disk).reads) l.fn.entry.kind l.fn.pointers l.i l.pointers;
  leaves : LeavesPool l.fn.pool l.pool;
  stands : StandsOn (g.D.Disk.shown l.disk) l.pool.store.pairs;
  only_reads : OnlyReads (g.D.Disk.shown l.fn.disk) (g.D.Disk.shown l.disk);
  calm : (g.D.Disk.shown l.disk).faults ≡ (g.D.Disk.shown l.fn.disk).faults;
}
