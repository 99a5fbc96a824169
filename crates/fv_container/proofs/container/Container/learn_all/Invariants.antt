use Rattle.std.proofs.Common.{◌≡◌, ◌<◌, ℕ, true}
use Rattle.fv_store.specs.Held.{StandsOn}
use Rattle.fv_disk.specs.DiskCalls.{OnlyReads}
use Rattle.fv_container.specs.Paged.{is_known}
use Rattle.fv_container.specs.Loading.{KeepsMap}
use Rattle.fv_container.proofs.container.Container.learn_all.Given as goal

abbrev pub invariant-loop-k : goal.invariant-loop-k
invariant-loop-k g l = record {
  stands : StandsOn (g.D.Disk.shown l.disk) l.store.pairs;
  only_reads : OnlyReads (g.D.Disk.shown l.fn.disk) (g.D.Disk.shown l.disk);
  faults : (g.D.Disk.shown l.disk).faults ≡ (g.D.Disk.shown l.fn.disk).faults;
  kept : KeepsMap (g.D.Disk.shown l.fn.disk) l.fn.self l.self;
  here : l.self.here ≡ l.fn.self.here;
  learned : (j : ℕ) → j < l.k → is_known l.self j ≡ true;
}
