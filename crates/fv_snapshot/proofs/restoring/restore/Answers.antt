use Rattle.std.proofs.Common.{◌≤◌, length, is_some, refl, sym, ap, subst, ◌∙◌, arith}
use Rattle.fv_model.specs.Numbers.{most_snapshots}
use Rattle.fv_volmap.specs.Slots.{slot_at}
use Rattle.fv_volume.specs.declared.state.VolumeState.{VolumeState}
use Rattle.fv_volume.specs.States.{head_in}
use Rattle.fv_snapshot.proofs.Finding.{slot_used}
use Rattle.fv_snapshot.proofs.Full.{few_snaps}
use Rattle.fv_snapshot.proofs.Restored.{refused_restores, turned_restores}
use Rattle.fv_snapshot.proofs.restoring.restore.Goals as goal

pub returns-in_default-clause-restores : goal.returns-in_default-clause-restores
returns-in_default-clause-restores g c = refused_restores (g.D.Disk.shown c.args.disk.now) c.args.pool.now c.args.volume.now c.args.others c.args.name.now (sym c.in_default.ensures)

pub restore-requires-clause-slot : goal.restore-requires-clause-slot
restore-requires-clause-slot g c =
    let used = slot_used c.args.volume.now c.args.name.now c.in-Some.snap.now c.requires.ready.labelled (sym c.in-Some.ensures) in
    let low = used.1 in
    omega (arith, low)

pub restore-requires-clause-used : goal.restore-requires-clause-used
restore-requires-clause-used g c =
    let used = slot_used c.args.volume.now c.args.name.now c.in-Some.snap.now c.requires.ready.labelled (sym c.in-Some.ensures) in
    ap (λ (z : VolumeState). is_some (slot_at z.map c.in-Some.snap.now.slot)) c.turn_to.ensures ∙ used.2

pub recount-requires-clause-few : goal.recount-requires-clause-few
recount-requires-clause-few g c =
    let few = few_snaps (head_in c.args.volume.now) c.args.volume.now.snapshots refl c.requires.ready.labelled.snapshots.slots in
    subst (λ (z : VolumeState). length z.snapshots ≤ most_snapshots) (sym c.turn_to.ensures) few

pub returns-clause-restores : goal.returns-clause-restores
returns-clause-restores g c =
    (turned_restores (g.D.Disk.shown c.args.disk.now) c.args.pool.now c.args.volume.now c.args.others c.args.name.now c.requires.ready c.active.ensures.valid c.in-Some.snap.now (sym c.in-Some.ensures)
    c.turn_to.new.self c.restore.new.self c.recount.new.self c.turn_to.ensures c.restore.ensures.restored c.recount.ensures.valid c.recount.ensures.counted c.recount.ensures.others).0

pub returns-clause-ready : goal.returns-clause-ready
returns-clause-ready g c =
    (turned_restores (g.D.Disk.shown c.args.disk.now) c.args.pool.now c.args.volume.now c.args.others c.args.name.now c.requires.ready c.active.ensures.valid c.in-Some.snap.now (sym c.in-Some.ensures)
    c.turn_to.new.self c.restore.new.self c.recount.new.self c.turn_to.ensures c.restore.ensures.restored c.recount.ensures.valid c.recount.ensures.counted c.recount.ensures.others).1
