use Rattle.fv_store.specs.Boxed.{unboxed}
use Rattle.fv_store.proofs.Standing.{stands_front}
use Rattle.fv_store.proofs.store.read_through.Goals as goal

pub returns-then-take_held-clause-stands : goal.returns-then-take_held-clause-stands
returns-then-take_held-clause-stands g c =
    stands_front (g.D.Disk.shown c.args.disk.now) (unboxed c.args.cache.now.entries) (unboxed c.take_held.new.cache.entries) c.args.pvbn c.take_held.new.into c.if-take_held.ensures.front c.if-take_held.ensures.found c.requires.stands
