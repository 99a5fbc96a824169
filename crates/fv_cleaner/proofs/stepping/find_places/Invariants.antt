use Rattle.std.proofs.Common.{◌≡◌, take, get_or, length}
use Rattle.std.specs.Prelude.{All}
use Rattle.fv_container.specs.Chains.{TellsEntries}
use Rattle.fv_disk.specs.DiskCalls.{OnlyReads}
use Rattle.fv_pool.specs.BlocksOver.{LeavesPool}
use Rattle.fv_store.specs.Held.{StandsOn}
use Rattle.fv_volume.specs.declared.state.Snap.{Snap}
use Rattle.fv_cleaner.specs.Searching.{lies_in}
use Rattle.fv_cleaner.specs.Stepping.{IsPlaceOf}
use Rattle.fv_cleaner.proofs.stepping.find_places.Given as goal

abbrev pub invariant-loop-snap : goal.invariant-loop-snap
invariant-loop-snap g l = record {
  long : length l.places ≡ 25;
  active : IsPlaceOf (TellsEntries (g.D.Disk.shown l.fn.disk) l.fn.pool.containers) (lies_in l.fn.state.map l.fn.pool l.fn.home.slot (g.D.Disk.shown l.fn.disk).reads)
      l.fn.state.active.root (get_or l.places 0 0);
  snapshots : All (λ (q : Snap). IsPlaceOf (TellsEntries (g.D.Disk.shown l.fn.disk) l.fn.pool.containers) (lies_in l.fn.state.map l.fn.pool l.fn.home.slot (g.D.Disk.shown l.fn.disk).reads)
      q.table.root (get_or l.places q.slot 0)) (take l.snap-index l.fn.state.snapshots);
  leaves : LeavesPool l.fn.pool l.pool;
  stands : StandsOn (g.D.Disk.shown l.disk) l.pool.store.pairs;
  only_reads : OnlyReads (g.D.Disk.shown l.fn.disk) (g.D.Disk.shown l.disk);
  calm : (g.D.Disk.shown l.disk).faults ≡ (g.D.Disk.shown l.fn.disk).faults;
}
