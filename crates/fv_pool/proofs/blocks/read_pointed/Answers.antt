use Rattle.std.proofs.Common.{◌∙◌, sym}
use Rattle.fv_pool.specs.BlocksOver.{held_entry}
use Rattle.fv_pool.proofs.Lent.{is_loose}
use Rattle.fv_pool.proofs.blocks.read_pointed.Goals as goal

pub returns-in_default-clause-loose : goal.returns-in_default-clause-loose
returns-in_default-clause-loose g c =
    is_loose (g.D.Disk.shown c.args.disk.now) c.args.pool.now.containers (held_entry c.args.map.now c.args.pool.now.containers c.args.home.now.slot c.args.pointer.now.vvbn) c.args.pointer.now.pvbn c.args.home.now.label c.from.result c.from.ensures (λ tells. sym c.in_default.is ∙ c.in_ok-pvbn.ensures.place tells)
