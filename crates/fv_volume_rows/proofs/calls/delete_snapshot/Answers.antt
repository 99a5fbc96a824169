use Rattle.fv_volume_rows.proofs.Snapping.{deleted_fit}
use Rattle.fv_volume_rows.proofs.calls.delete_snapshot.Goals as goal

pub returns-clause-fit : goal.returns-clause-fit
returns-clause-fit g c =
    let disk = g.D.Disk.shown c.args.disk.now in
    let after = g.D.Disk.shown c.delete.new.disk in
    let did = c.delete.ensures in
    deleted_fit disk after c.args.pool.now c.delete.new.pool c.args.volumes.now c.delete.new.volumes c.in-Some.slot c.args.snapshot.now c.delete.result c.in-Some.ensures.some.0 did.deletes did.ready c.requires.held c.requires.fit
