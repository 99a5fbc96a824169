use Rattle.std.specs.Prelude.{◌≡◌, ◌≤◌, ◌+◌}
use Rattle.fv_container.specs.Chains.{TellsEntries}
use Rattle.fv_disk.specs.DiskCalls.{OnlyReads}
use Rattle.fv_pool.specs.BlocksOver.{LeavesPool}
use Rattle.fv_store.specs.Held.{StandsOn}
use Rattle.fv_cleaner.specs.Searching.{IsFoundIn, IsUnclear, found_block, lies_in}
use Rattle.fv_cleaner.proofs.searching.descend.Given as goal

abbrev pub invariant-loop : goal.invariant-loop
invariant-loop g l = record {
  falls : l.found.entry.kind + l.counter ≤ 7;
  found : IsFoundIn l.fn.map l.found l.into;
  unclear : TellsEntries (g.D.Disk.shown l.fn.disk) l.fn.pool.containers
      → IsUnclear (lies_in l.fn.map l.fn.pool l.fn.home.slot (g.D.Disk.shown l.fn.disk).reads) l.fn.first.vvbn (found_block l.fn.first l.fn.into)
      → IsUnclear (lies_in l.fn.map l.fn.pool l.fn.home.slot (g.D.Disk.shown l.fn.disk).reads) l.found.vvbn (found_block l.found l.into);
  leaves : LeavesPool l.fn.pool l.pool;
  stands : StandsOn (g.D.Disk.shown l.disk) l.pool.store.pairs;
  only_reads : OnlyReads (g.D.Disk.shown l.fn.disk) (g.D.Disk.shown l.disk);
  calm : (g.D.Disk.shown l.disk).faults ≡ (g.D.Disk.shown l.fn.disk).faults;
}
