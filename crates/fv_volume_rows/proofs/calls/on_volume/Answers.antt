use Rattle.std.proofs.Common.{sym}
use Rattle.fv_volume_rows.proofs.Fitting.{fit_read}
use Rattle.fv_volume_rows.proofs.calls.on_volume.Goals as goal

pub returns-in-Some-clause-fit : goal.returns-in-Some-clause-fit
returns-in-Some-clause-fit g c =
    let disk = g.D.Disk.shown c.args.disk.now in
    let after = g.D.Disk.shown c.call.new.disk in
    let did = c.call.ensures in
    fit_read disk after c.args.pool.now c.call.new.pool c.args.volumes.now c.args.slot c.in-Some.volume.now c.call.new.volume c.requires.fit c.requires.slot (sym c.in-Some.ensures.state)
    (record { slot = did.slot; span = did.span; base = did.base }) did.ready.labelled did.reads
