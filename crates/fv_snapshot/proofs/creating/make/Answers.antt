use Rattle.std.proofs.Common.{rules, ◌≡◌, Result, Ok, Err, refl, sym, subst}
use Rattle.fv_pool.specs.declared.fault.VolumeFault.{VolumeFault}
use Rattle.std.specs.Prelude.{IfErr}
use Rattle.fv_model.specs.declared.answers.Refusal.{Refusal}
use Rattle.fv_pool.specs.declared.fault.VolumeFault.TheVariants.{Memory, Refused}
use Rattle.fv_volume.specs.OneVolume.{IsReady}
use Rattle.fv_snapshot.specs.Creating.{Creates, TellsCreation}
use Rattle.fv_snapshot.proofs.Created.{failed_creates, failed_tells, lacking_tells, kept_creates, kept_ready, kept_tells, slot_free}
use Rattle.fv_snapshot.proofs.Placing.{never_refused}
use Rattle.fv_snapshot.proofs.Judging.{judged_granted}
use Rattle.fv_snapshot.proofs.creating.make.Goals as goal

pub returns-in_err-place_files-clause-creates : goal.returns-in_err-place_files-clause-creates
returns-in_err-place_files-clause-creates g c = λ others accepted.
    let failed : c.from_residual.result ≡ Err c.in_err-place_files.field-0.0 = search rules in
    let did = c.in_err-place_files.ensures in
    subst (λ (r : Result Unit VolumeFault). Creates (g.D.Disk.shown c.args.disk.now) c.args.pool.now c.args.volume.now others c.args.name.now (g.D.Disk.shown c.place_files.new.disk) c.place_files.new.pool c.place_files.new.self r) (sym failed)
    (failed_creates (g.D.Disk.shown c.args.disk.now) c.args.pool.now c.args.volume.now others c.args.name.now c.requires.ready (g.D.Disk.shown c.place_files.new.disk) c.place_files.new.pool c.place_files.new.self did.placed c.in_err-place_files.field-0.0 did.cause did.fails)

pub keep_snapshot-requires-clause-free : goal.keep_snapshot-requires-clause-free
keep_snapshot-requires-clause-free g c =
    slot_free (g.D.Disk.shown c.args.disk.now) c.args.pool.now c.args.volume.now 0 c.args.name.now c.requires.ready (g.D.Disk.shown c.place_files.new.disk) c.place_files.new.pool c.place_files.new.self c.in_ok-place_files.ensures.placed
    c.in_ok-place_files.ensures.none c.in_ok-place_files.ensures.whole c.args.granted.slot c.requires.granted

pub returns-in-Ok-clause-creates : goal.returns-in-Ok-clause-creates
returns-in-Ok-clause-creates g c = λ others accepted.
    kept_creates (g.D.Disk.shown c.args.disk.now) c.args.pool.now c.args.volume.now others c.args.name.now c.requires.ready (g.D.Disk.shown c.place_files.new.disk) c.place_files.new.pool c.place_files.new.self c.in_ok-place_files.ensures.placed
    c.in_ok-place_files.ensures.none c.in_ok-place_files.ensures.whole c.args.granted.slot c.requires.granted c.keep_snapshot.ensures.named c.in_ok-place_files.ensures.cause
    (judged_granted c.args.volume.now c.args.name.now c.requires.ready.labelled c.args.pool.now.found.blocks others c.requires.ready.booked c.args.granted.slot c.requires.granted accepted)
    c.keep_snapshot.new.self (Ok tt) c.in-Ok.ensures.kept tt tt

pub returns-in-Err-clause-creates : goal.returns-in-Err-clause-creates
returns-in-Err-clause-creates g c = λ others accepted.
    kept_creates (g.D.Disk.shown c.args.disk.now) c.args.pool.now c.args.volume.now others c.args.name.now c.requires.ready (g.D.Disk.shown c.place_files.new.disk) c.place_files.new.pool c.place_files.new.self c.in_ok-place_files.ensures.placed
    c.in_ok-place_files.ensures.none c.in_ok-place_files.ensures.whole c.args.granted.slot c.requires.granted c.keep_snapshot.ensures.named c.in_ok-place_files.ensures.cause
    (judged_granted c.args.volume.now c.args.name.now c.requires.ready.labelled c.args.pool.now.found.blocks others c.requires.ready.booked c.args.granted.slot c.requires.granted accepted)
    c.keep_snapshot.new.self (Err Memory) tt c.in-Err.ensures.failed refl

pub returns-in-Ok-clause-ready : goal.returns-in-Ok-clause-ready
returns-in-Ok-clause-ready g c =
    kept_ready (g.D.Disk.shown c.args.disk.now) c.args.pool.now c.args.volume.now 0 c.args.name.now c.requires.ready (g.D.Disk.shown c.place_files.new.disk) c.place_files.new.pool c.place_files.new.self c.in_ok-place_files.ensures.placed
    c.in_ok-place_files.ensures.none c.in_ok-place_files.ensures.whole c.args.granted.slot c.requires.granted c.keep_snapshot.ensures.named c.keep_snapshot.new.self (Ok tt) c.in-Ok.ensures.kept tt

pub returns-in-Err-clause-ready : goal.returns-in-Err-clause-ready
returns-in-Err-clause-ready g c = subst (IsReady (g.D.Disk.shown c.place_files.new.disk) c.place_files.new.pool) (sym c.in-Err.ensures.failed) c.in_ok-place_files.ensures.placed.ready

pub returns-in_err-place_files-clause-tells : goal.returns-in_err-place_files-clause-tells
returns-in_err-place_files-clause-tells g c = λ others.
    let failed : c.from_residual.result ≡ Err c.in_err-place_files.field-0.0 = search rules in
    let did = c.in_err-place_files.ensures in
    subst (λ (r : Result Unit VolumeFault). TellsCreation c.args.pool.now c.args.volume.now others c.args.name.now c.place_files.new.self r) (sym failed)
    (failed_tells c.args.pool.now c.args.volume.now others c.args.name.now c.place_files.new.self (g.D.Disk.shown c.args.disk.now) (g.D.Disk.shown c.place_files.new.disk) c.in_err-place_files.field-0.0 did.cause)

pub returns-in-Ok-clause-tells : goal.returns-in-Ok-clause-tells
returns-in-Ok-clause-tells g c = λ others.
    kept_tells c.args.pool.now c.args.volume.now others c.args.name.now c.args.granted.slot c.requires.granted.free c.keep_snapshot.new.self (Ok tt) c.in-Ok.ensures.waits tt

pub returns-in-Err-clause-tells : goal.returns-in-Err-clause-tells
returns-in-Err-clause-tells g c = λ others. lacking_tells c.args.pool.now c.args.volume.now others c.args.name.now c.keep_snapshot.new.self

pub returns-in_err-place_files-clause-accepted : goal.returns-in_err-place_files-clause-accepted
returns-in_err-place_files-clause-accepted g c =
    let why = c.in_err-place_files.field-0.0 in
    let failed : c.from_residual.result ≡ Err why = search rules in
    subst (λ (r : Result Unit VolumeFault). IfErr r (λ e. (w : Refusal) → e ≡ Refused w → ⊥)) (sym failed)
    (never_refused (g.D.Disk.shown c.args.disk.now) (g.D.Disk.shown c.place_files.new.disk) why c.in_err-place_files.ensures.cause)

-- want of memory is no refusal
memory_accepted : (w : Refusal) → Memory ≡ Refused w → ⊥
memory_accepted w is = cc

pub returns-in-Err-clause-accepted : goal.returns-in-Err-clause-accepted
returns-in-Err-clause-accepted g c = memory_accepted
