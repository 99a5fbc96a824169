use Rattle.std.proofs.Common.{sym}
use Rattle.fv_volume_rows.proofs.Fitting.{fit_left, held_left, placed_place, placed_root}
use Rattle.fv_volume_rows.proofs.calls.flush_volume.Goals as goal

pub returns-in-Some-clause-fit : goal.returns-in-Some-clause-fit
returns-in-Some-clause-fit g c =
    let disk = g.D.Disk.shown c.args.disk.now in
    let after = g.D.Disk.shown c.flush.new.disk in
    let x = c.in-Some.volume.now in
    let did = c.flush.ensures in
    fit_left disk after c.args.pool.now c.flush.new.pool c.args.volumes.now c.args.slot x c.flush.new.self c.requires.fit c.requires.slot (sym c.in-Some.ensures.state)
    (placed_place x c.flush.new.self did.keeps) did.ready.labelled (placed_root disk after c.args.pool.now c.flush.new.pool x c.flush.new.self 0 c.flush.new.room did.goes)

pub returns-in-Some-clause-held : goal.returns-in-Some-clause-held
returns-in-Some-clause-held g c =
    let disk = g.D.Disk.shown c.args.disk.now in
    let after = g.D.Disk.shown c.flush.new.disk in
    let x = c.in-Some.volume.now in
    let did = c.flush.ensures in
    held_left disk after c.args.pool.now c.flush.new.pool c.args.volumes.now c.args.slot x c.flush.new.self c.requires.held c.requires.slot (sym c.in-Some.ensures.state)
    (placed_place x c.flush.new.self did.keeps).slot did.ready (placed_root disk after c.args.pool.now c.flush.new.pool x c.flush.new.self 0 c.flush.new.room did.goes)
