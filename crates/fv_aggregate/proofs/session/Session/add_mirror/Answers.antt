use Rattle.fv_aggregate.proofs.MirroredSettled.{settled_mirror}
use Rattle.fv_aggregate.proofs.session.Session.add_mirror.Goals as goal

pub returns-clause-added : goal.returns-clause-added
returns-clause-added g c =
    (settled_mirror g.D.Disk.shown (g.D.Disk.shown c.args.disk.now) c.args.self.now c.args.name.now c.args.size c.args.kind c.args.admitted c.args.room c.copy-made.new.disk c.copy-made.new.self c.settle.new.disk
    c.copy-made.result c.settle.result c.settle.new.self c.copy-made.ensures.added c.copy-made.ensures.leaves c.settle.ensures).0

pub returns-clause-leaves : goal.returns-clause-leaves
returns-clause-leaves g c =
    (settled_mirror g.D.Disk.shown (g.D.Disk.shown c.args.disk.now) c.args.self.now c.args.name.now c.args.size c.args.kind c.args.admitted c.args.room c.copy-made.new.disk c.copy-made.new.self c.settle.new.disk
    c.copy-made.result c.settle.result c.settle.new.self c.copy-made.ensures.added c.copy-made.ensures.leaves c.settle.ensures).1.0

pub returns-clause-settled : goal.returns-clause-settled
returns-clause-settled g c =
    (settled_mirror g.D.Disk.shown (g.D.Disk.shown c.args.disk.now) c.args.self.now c.args.name.now c.args.size c.args.kind c.args.admitted c.args.room c.copy-made.new.disk c.copy-made.new.self c.settle.new.disk
    c.copy-made.result c.settle.result c.settle.new.self c.copy-made.ensures.added c.copy-made.ensures.leaves c.settle.ensures).1.1
