use Rattle.fv_mirror.proofs.Made.{can_make}
use Rattle.fv_mirror.proofs.making.import_local.Goals as goal

pub make-requires-clause-admitted : goal.make-requires-clause-admitted
make-requires-clause-admitted g c = can_make c.args.volumes.now c.args.pool.now.found.blocks c.args.name.now c.args.size c.args.kind c.in-Ok.admitted c.in-Ok.ensures.admitted
