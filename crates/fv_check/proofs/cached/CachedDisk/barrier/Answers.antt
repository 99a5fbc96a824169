use Rattle.fv_check.proofs.Caching.{caches_same}
use Rattle.fv_check.proofs.cached.CachedDisk.barrier.Goals as goal

pub invariant_of-self : goal.invariant_of-self
invariant_of-self g c =
    let self = c.args.self.now in
    record { caches = caches_same (g.D.Disk.shown self.disk.now) (g.D.Disk.shown c.barrier.new.self) self.store.now.pairs c.barrier.ensures.tells c.barrier.ensures.reads self.caches }
