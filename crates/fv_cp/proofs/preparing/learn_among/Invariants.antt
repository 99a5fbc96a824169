use Rattle.std.proofs.Common.{◌≡◌, ◌<◌, ℕ, true, false, get_or}
use Rattle.fv_disk.specs.DiskCalls.{OnlyReads}
use Rattle.fv_store.specs.Held.{StandsOn}
use Rattle.fv_pool.specs.BlocksOver.{LoadsPool}
use Rattle.fv_volume.specs.States.{state_at}
use Rattle.fv_cp.specs.Planning.{AreOthersLeft, IsSlotKnown, is_counted}
use Rattle.fv_cp.proofs.preparing.learn_among.Given as goal

abbrev pub invariant-loop-slot : goal.invariant-loop-slot
invariant-loop-slot g l = record {
  loads : LoadsPool (g.D.Disk.shown l.fn.disk) l.fn.pool l.pool;
  known : (s : ℕ) → s < l.slot → is_counted false (state_at l.volumes s) ≡ l.changed → IsSlotKnown l.pool.containers l.volumes s (get_or l.delays s true);
  others : AreOthersLeft l.changed l.volumes l.fn.pool.containers l.pool.containers;
  stands : StandsOn (g.D.Disk.shown l.disk) l.pool.store.pairs;
  only_reads : OnlyReads (g.D.Disk.shown l.fn.disk) (g.D.Disk.shown l.disk);
  calm : (g.D.Disk.shown l.disk).faults ≡ (g.D.Disk.shown l.fn.disk).faults;
}
