use Rattle.fv_volume_rows.proofs.Fitting.{made_fit}
use Rattle.fv_volume_rows.proofs.Making.{made_held}
use Rattle.fv_volume_rows.proofs.calls.create.Goals as goal

pub returns-in-Ok-create-clause-fit : goal.returns-in-Ok-create-clause-fit
returns-in-Ok-create-clause-fit g c =
    let did = c.create.ensures in
    made_fit (g.D.Disk.shown c.args.disk.now) c.args.pool.now c.create.new.pool c.args.volumes.now c.create.new.self c.args.name.now c.args.size c.args.kind c.create.result c.requires.fit
    did.made did.new did.holes did.each did.same

pub returns-in-Ok-create-clause-held : goal.returns-in-Ok-create-clause-held
returns-in-Ok-create-clause-held g c =
    let did = c.create.ensures in
    made_held (g.D.Disk.shown c.args.disk.now) c.args.pool.now c.create.new.pool c.args.volumes.now c.create.new.self c.args.name.now c.args.size c.args.kind c.create.result c.requires.held
    did.slot did.made did.new did.holes did.long did.each did.same
