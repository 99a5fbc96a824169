use Rattle.std.proofs.Common.{◌≡◌, Result, Ok, Err}
use Rattle.std.specs.Prelude.{IfErr}
use Rattle.fv_model.specs.declared.answers.Refusal.{Refusal}
use Rattle.fv_pool.specs.declared.fault.VolumeFault.{VolumeFault}
use Rattle.fv_pool.specs.declared.fault.VolumeFault.TheVariants.{Refused}
use Rattle.fv_snapshot.proofs.Created.{refused_creates, refused_tells}
use Rattle.fv_snapshot.proofs.Judging.{is_granted, not_refused}
use Rattle.fv_snapshot.proofs.creating.create.Goals as goal

pub make-requires-clause-granted : goal.make-requires-clause-granted
make-requires-clause-granted g c = is_granted c.args.volume.now c.args.pool.now.found.blocks c.args.others c.args.name.now c.judge_create.result c.in-Ok.granted c.in-Ok.is c.judge_create.ensures.judges

pub returns-in-Ok-clause-creates : goal.returns-in-Ok-clause-creates
returns-in-Ok-clause-creates g c =
    c.make.ensures.creates c.args.others (not_refused c.args.volume.now c.args.pool.now.found.blocks c.args.others c.args.name.now c.judge_create.result c.in-Ok.granted c.in-Ok.is c.judge_create.ensures.judges)

pub returns-in-Err-clause-creates : goal.returns-in-Err-clause-creates
returns-in-Err-clause-creates g c = refused_creates (g.D.Disk.shown c.args.disk.now) c.args.pool.now c.args.volume.now c.args.others c.args.name.now c.requires.ready c.in-Err.refusal c.in-Err.ensures.judges

pub returns-in-Ok-clause-tells : goal.returns-in-Ok-clause-tells
returns-in-Ok-clause-tells g c = c.make.ensures.tells c.args.others

pub returns-in-Err-clause-tells : goal.returns-in-Err-clause-tells
returns-in-Err-clause-tells g c = refused_tells c.args.pool.now c.args.volume.now c.args.others c.args.name.now c.in-Err.refusal c.in-Err.ensures.judges

-- what isn't refused says what is asked of a refusal
refused_never : (P : Type 0) → (r : Result Unit VolumeFault) → IfErr r (λ e. (w : Refusal) → e ≡ Refused w → ⊥) → IfErr r (λ e. (w : Refusal) → e ≡ Refused w → P)
refused_never P (Ok done) none = tt
refused_never P (Err e) none = λ w is. absurd (none w is)

pub returns-in-Ok-clause-refused : goal.returns-in-Ok-clause-refused
returns-in-Ok-clause-refused g c = refused_never _ c.make.result c.make.ensures.accepted
