use Rattle.std.specs.Prelude.{◌≡◌, ◌≤◌, ◌+◌}
use Rattle.fv_container.specs.Chains.{TellsEntries}
use Rattle.fv_disk.specs.DiskCalls.{OnlyReads}
use Rattle.fv_places.specs.ByKind.{form_of, pointers_by}
use Rattle.fv_pool.specs.BlocksOver.{LeavesPool}
use Rattle.fv_store.specs.Held.{StandsOn}
use Rattle.fv_cleaner.specs.Searching.{AreClearFrom, lies_in}
use Rattle.fv_cleaner.proofs.searching.look_from.Given as goal

abbrev pub invariant-loop : goal.invariant-loop
invariant-loop g l = record {
  past : l.counter ≤ l.from;
  most : l.most + 1 ≡ l.fn.found.entry.kind;
  clear : TellsEntries (g.D.Disk.shown l.fn.disk) l.fn.pool.containers
      → AreClearFrom (lies_in l.fn.map l.fn.pool l.fn.home.slot (g.D.Disk.shown l.fn.disk).reads) (pointers_by (form_of l.fn.found.entry.kind) l.fn.block) l.fn.start l.from;
  leaves : LeavesPool l.fn.pool l.pool;
  stands : StandsOn (g.D.Disk.shown l.disk) l.pool.store.pairs;
  only_reads : OnlyReads (g.D.Disk.shown l.fn.disk) (g.D.Disk.shown l.disk);
  calm : (g.D.Disk.shown l.disk).faults ≡ (g.D.Disk.shown l.fn.disk).faults;
}
