use Rattle.std.proofs.Common.{rules, ◌≡◌, List, Result, Ok, Err, slice_index_or, sym, ap, subst}
use Rattle.std.specs.Prelude.{IfErr}
use Rattle.fv_model.specs.declared.answers.Refusal.{Refusal}
use Rattle.fv_pool.specs.declared.fault.VolumeFault.{VolumeFault}
use Rattle.fv_pool.specs.declared.fault.VolumeFault.TheVariants.{Refused}
use Rattle.fv_volume.specs.declared.state.Snap.{Snap}
use Rattle.fv_volume.specs.OneVolume.{IsReady}
use Rattle.fv_snapshot.specs.Deleting.{Deletes}
use Rattle.fv_snapshot.proofs.Placing.{never_refused}
use Rattle.fv_snapshot.proofs.Deleted.{failed_deletes, few_left, index_slot, refused_deletes, removed_deletes, used_deletes}
use Rattle.fv_snapshot.proofs.deleting.delete_from.Given as given
use Rattle.fv_snapshot.proofs.deleting.delete_from.Goals as goal

pub returns-in_default-clause-deletes : goal.returns-in_default-clause-deletes
returns-in_default-clause-deletes g c = refused_deletes (g.D.Disk.shown c.args.disk.now) c.args.pool.now c.args.volume.now c.args.stood c.args.name.now c.requires.ready c.in_default.ensures

pub returns-then-stood-clause-deletes : goal.returns-then-stood-clause-deletes
returns-then-stood-clause-deletes g c = used_deletes (g.D.Disk.shown c.args.disk.now) c.args.pool.now c.args.volume.now c.args.stood c.args.name.now c.requires.ready c.if-stood.true c.in-Some.at c.in-Some.ensures

pub returns-in_err-place_files-clause-deletes : goal.returns-in_err-place_files-clause-deletes
returns-in_err-place_files-clause-deletes g c =
    let failed : c.from_residual.result ≡ Err c.in_err-place_files.field-0.0 = search rules in
    let did = c.in_err-place_files.ensures in
    subst (λ (r : Result Unit VolumeFault). Deletes (g.D.Disk.shown c.args.disk.now) c.args.pool.now c.args.volume.now c.args.stood c.args.name.now (g.D.Disk.shown c.place_files.new.disk) c.place_files.new.pool c.place_files.new.self r) (sym failed)
    (failed_deletes (g.D.Disk.shown c.args.disk.now) c.args.pool.now c.args.volume.now c.args.stood c.args.name.now c.requires.ready c.if-stood.false (g.D.Disk.shown c.place_files.new.disk) c.place_files.new.pool c.place_files.new.self did.placed c.in-Some.at c.in-Some.ensures c.in_err-place_files.field-0.0 did.cause did.fails)

pub returns-in_err-place_files-clause-refused : goal.returns-in_err-place_files-clause-refused
returns-in_err-place_files-clause-refused g c =
    let why = c.in_err-place_files.field-0.0 in
    let failed : c.from_residual.result ≡ Err why = search rules in
    subst (λ (r : Result Unit VolumeFault). IfErr r (λ e. (w : Refusal) → e ≡ Refused w → c.place_files.new.disk ≡ c.args.disk.now)) (sym failed)
    (λ w is. absurd (never_refused (g.D.Disk.shown c.args.disk.now) (g.D.Disk.shown c.place_files.new.disk) why c.in_err-place_files.ensures.cause w is))

pub remove_snapshot-requires-clause-above : goal.remove_snapshot-requires-clause-above
remove_snapshot-requires-clause-above g c = (index_slot (g.D.Disk.shown c.args.disk.now) (g.D.Disk.shown c.place_files.new.disk) c.args.pool.now c.args.volume.now c.args.name.now c.place_files.new.pool c.place_files.new.self c.place_files.ensures.placed c.in-Some.at c.in-Some.ensures c.as_slice.result.now c.as_slice.ensures _).0

pub remove_snapshot-requires-clause-stored : goal.remove_snapshot-requires-clause-stored
remove_snapshot-requires-clause-stored g c = (index_slot (g.D.Disk.shown c.args.disk.now) (g.D.Disk.shown c.place_files.new.disk) c.args.pool.now c.args.volume.now c.args.name.now c.place_files.new.pool c.place_files.new.self c.place_files.ensures.placed c.in-Some.at c.in-Some.ensures c.as_slice.result.now c.as_slice.ensures _).1

pub recount-requires-clause-few : goal.recount-requires-clause-few
recount-requires-clause-few g c = few_left c.place_files.new.self c.remove_snapshot.new.self c.in-Some.at _ c.place_files.ensures.placed.ready.labelled c.remove_snapshot.ensures

-- it was removed, and calls can be made on what is left
removed : (g : given.Over) (c : goal.After-recount g)
    → Deletes (g.D.Disk.shown c.args.disk.now) c.args.pool.now c.args.volume.now c.args.stood c.args.name.now (g.D.Disk.shown c.place_files.new.disk) c.place_files.new.pool c.recount.new.self (Ok tt) × IsReady (g.D.Disk.shown c.place_files.new.disk) c.place_files.new.pool c.recount.new.self
removed g c =
    removed_deletes (g.D.Disk.shown c.args.disk.now) c.args.pool.now c.args.volume.now c.args.stood c.args.name.now c.requires.ready c.if-stood.false (g.D.Disk.shown c.place_files.new.disk) c.place_files.new.pool c.place_files.new.self c.in_ok-place_files.ensures.placed
    c.in_ok-place_files.ensures.cause c.in_ok-place_files.ensures.none c.in_ok-place_files.ensures.whole c.in-Some.at c.in-Some.ensures c.index-as_slice-at.result (slice_index_or c.as_slice.result.now c.in-Some.at c.index-as_slice-at.result).slot
    (ap (λ (l : List Snap). (slice_index_or l c.in-Some.at c.index-as_slice-at.result).slot) c.as_slice.ensures)
    c.remove_snapshot.new.self c.recount.new.self c.remove_snapshot.ensures c.recount.ensures.valid c.recount.ensures.counted c.recount.ensures.others

pub returns-clause-deletes : goal.returns-clause-deletes
returns-clause-deletes g c = (removed g c).0

pub returns-clause-ready : goal.returns-clause-ready
returns-clause-ready g c = (removed g c).1
