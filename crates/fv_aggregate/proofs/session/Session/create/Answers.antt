use Rattle.std.proofs.Common.{ℕ, Ok, length, refl, sym, ap, subst, ◌∙◌}
use Rattle.std.specs.Prelude.{IsNone}
use Rattle.fv_model.specs.declared.answers.Reply.{Reply}
use Rattle.fv_model.specs.Space.{overhead, span_of}
use Rattle.fv_model.specs.Refusals.{next}
use Rattle.fv_model.specs.Replies.{Allows}
use Rattle.fv_model.specs.declared.commands.Command.TheVariants.{VolCreate}
use Rattle.fv_volumes.specs.Creating.{Admits, Refuses}
use Rattle.fv_aggregate.specs.Answers.{answer}
use Rattle.fv_aggregate.specs.declared.session.Session.{Session}
use Rattle.fv_aggregate.proofs.Added.{done_allowed, refused_for}
use Rattle.fv_aggregate.proofs.Created.{accepted_for, create_done, refused_as}
use Rattle.fv_aggregate.proofs.Missing.{refused_allows}
use Rattle.fv_aggregate.specs.Deciding.{CanCreate, DecidesMaking}
use Rattle.fv_aggregate.specs.Making.{MakesVolume}
use Rattle.fv_aggregate.proofs.Decided.{done_decided}
use Rattle.fv_aggregate.proofs.Making.{refused_makes}
use Rattle.fv_aggregate.proofs.session.Session.create.Goals as goal

pub returns-in-Ok-clause-made : goal.returns-in-Ok-clause-made
returns-in-Ok-clause-made g c =
    subst (λ (k : ℕ). MakesVolume g.D.Disk.shown k (λ m. next m (VolCreate c.args.name.now c.args.size c.args.kind)) c.args.disk.now c.args.self.now c.make.new.disk c.make.new.self (answer c.make.new.into c.make.result))
    (ap overhead c.in-Ok.ensures.admitted.span_is) c.make.ensures.made

pub returns-in-Err-clause-made : goal.returns-in-Err-clause-made
returns-in-Err-clause-made g c =
    let d = g.D.Disk.shown c.args.disk.now in
    let s = c.args.self.now in
    let long = ap (λ (s : Session). length s.volumes) (sym c.self.view_is) ∙ (c.self.invariant.0 (subst (λ (s : Session). IsNone s.failed) (sym c.self.view_is) c.requires.fresh)).housed.long in
    let r = c.in-Err.refusal in
    let why = subst (λ (s : Session). Refuses s.volumes s.pool.found.blocks c.args.name.now c.args.size c.args.kind r) c.self.view_is c.in-Err.ensures.why in
    subst (λ (z : Reply). MakesVolume g.D.Disk.shown (overhead (span_of c.args.size 0 0)) (λ m. next m (VolCreate c.args.name.now c.args.size c.args.kind)) c.args.disk.now s c.args.disk.now s (Ok z)) (sym c.refuse.ensures)
    (refused_makes g.D.Disk.shown (overhead (span_of c.args.size 0 0)) (λ m. next m (VolCreate c.args.name.now c.args.size c.args.kind)) c.args.disk.now s r c.requires.fresh c.requires.stands (λ tells last m stands. refused_for d s last m (VolCreate c.args.name.now c.args.size c.args.kind) r (g.met.D.Disk.laws c.args.disk.now) stands (refused_as d s last m long stands c.args.name.now c.args.size c.args.kind r why)))

pub returns-in-Ok-clause-reply : goal.returns-in-Ok-clause-reply
returns-in-Ok-clause-reply g c = λ tells last m stands.
    let long = ap (λ (s : Session). length s.volumes) (sym c.self.view_is) ∙ (c.self.invariant.0 (subst (λ (s : Session). IsNone s.failed) (sym c.self.view_is) c.requires.fresh)).housed.long in
    let a = c.in-Ok.admitted in
    let admits = subst (λ (s : Session). Admits s.volumes s.pool.found.blocks c.args.name.now c.args.size c.args.kind a.slot a.span) c.self.view_is c.in-Ok.ensures.admitted in
    done_allowed m (VolCreate c.args.name.now c.args.size c.args.kind) refl (create_done m c.args.name.now c.args.size c.args.kind) (accepted_for (g.D.Disk.shown c.args.disk.now) c.args.self.now last m long stands c.args.name.now c.args.size c.args.kind a.slot a.span admits) (answer c.make.new.into c.make.result) c.make.ensures.reply

pub returns-in-Err-clause-reply : goal.returns-in-Err-clause-reply
returns-in-Err-clause-reply g c = λ tells last m stands.
    let long = ap (λ (s : Session). length s.volumes) (sym c.self.view_is) ∙ (c.self.invariant.0 (subst (λ (s : Session). IsNone s.failed) (sym c.self.view_is) c.requires.fresh)).housed.long in
    let r = c.in-Err.refusal in
    let why = subst (λ (s : Session). Refuses s.volumes s.pool.found.blocks c.args.name.now c.args.size c.args.kind r) c.self.view_is c.in-Err.ensures.why in
    subst (Allows m (VolCreate c.args.name.now c.args.size c.args.kind)) (sym c.refuse.ensures) (refused_allows m (VolCreate c.args.name.now c.args.size c.args.kind) r (refused_as (g.D.Disk.shown c.args.disk.now) c.args.self.now last m long stands c.args.name.now c.args.size c.args.kind r why))

pub returns-in-Ok-clause-decides : goal.returns-in-Ok-clause-decides
returns-in-Ok-clause-decides g c =
    let s = c.args.self.now in
    let a = c.in-Ok.admitted in
    let admits = subst (λ (k : Session). Admits k.volumes k.pool.found.blocks c.args.name.now c.args.size c.args.kind a.slot a.span) c.self.view_is c.in-Ok.ensures.admitted in
    done_decided (Refuses s.volumes s.pool.found.blocks c.args.name.now c.args.size c.args.kind) (CanCreate s.volumes s.pool.found.blocks c.args.name.now c.args.size c.args.kind)
    (record { slot = a.slot; span = a.span; admits = admits }) (answer c.make.new.into c.make.result) c.make.ensures.reply

pub returns-in-Err-clause-decides : goal.returns-in-Err-clause-decides
returns-in-Err-clause-decides g c =
    let s = c.args.self.now in
    let why = subst (λ (k : Session). Refuses k.volumes k.pool.found.blocks c.args.name.now c.args.size c.args.kind c.in-Err.refusal) c.self.view_is c.in-Err.ensures.why in
    subst (DecidesMaking s.volumes s.pool.found.blocks (VolCreate c.args.name.now c.args.size c.args.kind)) (sym c.refuse.ensures) why
