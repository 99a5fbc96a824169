use Rattle.std.proofs.Common.{rules}
use Rattle.fv_check.proofs.Caching.{caches_got, caches_same}
use Rattle.fv_check.proofs.cached.CachedDisk.read.Goals as goal

pub invariant_of-self : goal.invariant_of-self
invariant_of-self g c =
    let self = c.args.self.now in
    record { caches = caches_same (g.D.Disk.shown self.disk.now) (g.D.Disk.shown c.read.new.self) self.store.now.pairs c.read.ensures.stays.tells c.read.ensures.stays.reads self.caches }

pub invariant_of-self-2 : goal.invariant_of-self-2
invariant_of-self-2 g c =
    let self = c.args.self.now in
    record { caches = caches_got (g.D.Disk.shown self.disk.now) (g.D.Disk.shown c.get.new.disk) self.store.now c.get.new.self _ _ c.get.result self.caches (search rules) c.get.ensures.stands c.get.ensures.list }
