use Rattle.std.proofs.Common.{sym}
use Rattle.fv_volume_rows.proofs.Fitting.{fit_left}
use Rattle.fv_volume_rows.proofs.calls.on_snapshots.Goals as goal

pub returns-in-Some-get_mut-clause-fit : goal.returns-in-Some-get_mut-clause-fit
returns-in-Some-get_mut-clause-fit g c =
    let disk = g.D.Disk.shown c.args.disk.now in
    let after = g.D.Disk.shown c.change_snapshots.new.disk in
    let did = c.change_snapshots.ensures in
    fit_left disk after c.args.pool.now c.change_snapshots.new.pool c.args.volumes.now c.in-Some.slot c.in-Some-get_mut.volume.now c.change_snapshots.new.volume c.requires.fit c.in-Some.ensures.some.0
    (sym c.in-Some-get_mut.ensures.state) did.leaves.place did.ready.labelled did.leaves.root
