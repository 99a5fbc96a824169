use Rattle.std.proofs.Common.{rules}
use Rattle.fv_check.proofs.Caching.{caches_put, caches_past}
use Rattle.fv_check.proofs.cached.CachedDisk.write.Goals as goal

pub invariant_of-self : goal.invariant_of-self
invariant_of-self g c =
    let self = c.args.self.now in
    record { caches = caches_past (g.D.Disk.shown self.disk.now) (g.D.Disk.shown c.write.new.self) self.store.now.pairs c.args.at _ c.write.result (search rules) c.write.ensures self.caches }

pub invariant_of-self-2 : goal.invariant_of-self-2
invariant_of-self-2 g c =
    let self = c.args.self.now in
    record { caches = caches_put (g.D.Disk.shown self.disk.now) (g.D.Disk.shown c.put.new.disk) self.store.now c.put.new.self _ _ c.put.result self.caches (search rules) c.put.ensures.stands c.put.ensures.list }
