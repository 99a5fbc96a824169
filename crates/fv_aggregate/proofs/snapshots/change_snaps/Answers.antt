use Rattle.fv_aggregate.proofs.SnapAt.{deleted_at}
use Rattle.fv_aggregate.proofs.snapshots.change_snaps.Goals as goal

pub returns-in-SnapDelete-clause-snaps : goal.returns-in-SnapDelete-clause-snaps
returns-in-SnapDelete-clause-snaps g c =
    deleted_at (g.D.Disk.shown c.args.disk.now) c.args.pool.now c.args.volumes.now c.args.slot c.args.others c.args.command.now c.in-SnapDelete.volume c.in-SnapDelete.snapshot c.in-SnapDelete.is c.requires.aimed
    (g.D.Disk.shown c.delete.new.disk) c.delete.new.pool c.delete.new.volumes c.delete.result c.delete.ensures.deletes c.delete.ensures.ready
