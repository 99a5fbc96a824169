use Rattle.fv_volumes.proofs.RootFound.{stands_behind}
use Rattle.fv_cp.proofs.point.switch.Goals as goal

pub returns-in_err-commit-clause-stands : goal.returns-in_err-commit-clause-stands
returns-in_err-commit-clause-stands g c =
    stands_behind (g.D.Disk.shown c.args.disk.now) (g.D.Disk.shown c.commit.new.disk) c.args.pool.now.found.blocks c.first_block.result c.args.pool.now.store.pairs c.forget_before.new.self.pairs
    c.requires.stands c.forget_before.ensures c.first_block.ensures c.commit.ensures.counted.tells c.commit.ensures.volumes

pub returns-clause-stands : goal.returns-clause-stands
returns-clause-stands g c =
    stands_behind (g.D.Disk.shown c.args.disk.now) (g.D.Disk.shown c.commit.new.disk) c.args.pool.now.found.blocks c.first_block.result c.args.pool.now.store.pairs c.forget_before.new.self.pairs
    c.requires.stands c.forget_before.ensures c.first_block.ensures c.commit.ensures.counted.tells c.commit.ensures.volumes
