use Rattle.std.proofs.Common.{◌≡◌, ◌<◌, ℕ}
use Rattle.std.specs.Prelude.{IfSome}
use Rattle.fv_disk.specs.DiskCalls.{OnlyReads}
use Rattle.fv_store.specs.Held.{StandsOn}
use Rattle.fv_container.specs.Chains.{TellsEntries, paged_at}
use Rattle.fv_pool.specs.BlocksOver.{LoadsPool}
use Rattle.fv_volume.specs.States.{state_at}
use Rattle.fv_cp.specs.Choosing.{holdings}
use Rattle.fv_cp.specs.Course.{AreHereIn}
use Rattle.fv_cp.specs.Planning.{HasLeavesAt, taken}
use Rattle.fv_cp.proofs.preparing.load.Given as goal

abbrev pub invariant-loop-slot : goal.invariant-loop-slot
invariant-loop-slot g l = record {
  loads : LoadsPool (g.D.Disk.shown l.fn.disk) l.fn.pool l.pool;
  leaves : (s : ℕ) → s < l.slot → HasLeavesAt l.plan s (state_at l.volumes s) (paged_at l.pool.containers s);
  here : TellsEntries (g.D.Disk.shown l.fn.disk) l.fn.pool.containers → (s : ℕ) → s < l.slot → IfSome (paged_at l.pool.containers s) (AreHereIn (taken l.plan (holdings l.pool.containers l.volumes) s));
  stands : StandsOn (g.D.Disk.shown l.disk) l.pool.store.pairs;
  only_reads : OnlyReads (g.D.Disk.shown l.fn.disk) (g.D.Disk.shown l.disk);
  calm : (g.D.Disk.shown l.disk).faults ≡ (g.D.Disk.shown l.fn.disk).faults;
}
