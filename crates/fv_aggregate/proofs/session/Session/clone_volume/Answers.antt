use Rattle.std.proofs.Common.{◌≡◌, ℕ, List, Ok, length, refl, sym, ap, subst, ◌∙◌}
use Rattle.std.specs.Prelude.{IfOk, IsNone}
use Rattle.fv_model.specs.declared.answers.Reply.{Reply}
use Rattle.fv_model.specs.Space.{overhead}
use Rattle.fv_model.specs.Refusals.{next}
use Rattle.fv_model.specs.Replies.{Allows}
use Rattle.fv_model.specs.declared.commands.Command.TheVariants.{CloneCreate}
use Rattle.fv_clone.specs.Admitting.{Admits, Refuses}
use Rattle.fv_aggregate.specs.Commands.{room_by}
use Rattle.fv_aggregate.specs.Answers.{answer}
use Rattle.fv_aggregate.specs.declared.session.Session.{Session}
use Rattle.fv_aggregate.proofs.Added.{done_allowed, refused_for}
use Rattle.fv_aggregate.proofs.Cloned.{clone_accepted, clone_done, clone_refused, clone_room_as}
use Rattle.fv_aggregate.proofs.Missing.{refused_allows}
use Rattle.fv_aggregate.specs.Deciding.{CanClone, DecidesMaking}
use Rattle.fv_aggregate.specs.Making.{MakesVolume}
use Rattle.fv_aggregate.proofs.Decided.{done_decided}
use Rattle.fv_aggregate.proofs.Making.{refused_makes}
use Rattle.fv_aggregate.proofs.session.Session.clone_volume.Goals as goal

pub returns-in-Ok-clause-made : goal.returns-in-Ok-clause-made
returns-in-Ok-clause-made g c =
    let s = c.args.self.now in let a = c.in-Ok.admitted in let named = c.in-Ok.ensures.named in
    let admits = subst (λ (k : Session). Admits k.volumes k.pool.found.blocks c.args.name.now c.args.size c.args.kind a) c.self.view_is c.in-Ok.ensures.admitted in
    let room : room_by s.volumes (CloneCreate c.args.name.now c.args.parent.now c.args.snapshot.now c.args.size c.args.kind) ≡ overhead a.span = clone_room_as s.volumes s.pool.found.blocks c.args.name.now c.args.parent.now c.args.snapshot.now c.args.size c.args.kind a admits named.parent_is named.snapshot_is in
    subst (λ (k : ℕ). MakesVolume g.D.Disk.shown k (λ m. next m (CloneCreate c.args.name.now c.args.parent.now c.args.snapshot.now c.args.size c.args.kind)) c.args.disk.now s c.make_clone.new.disk c.make_clone.new.self (answer c.make_clone.new.into c.make_clone.result)) (sym room)
    (subst (λ (p : List ℕ). MakesVolume g.D.Disk.shown (overhead a.span) (λ m. next m (CloneCreate c.args.name.now p c.args.snapshot.now c.args.size c.args.kind)) c.args.disk.now s c.make_clone.new.disk c.make_clone.new.self (answer c.make_clone.new.into c.make_clone.result)) named.parent_is
    (subst (λ (q : List ℕ). MakesVolume g.D.Disk.shown (overhead a.span) (λ m. next m (CloneCreate c.args.name.now a.base.name q c.args.size c.args.kind)) c.args.disk.now s c.make_clone.new.disk c.make_clone.new.self (answer c.make_clone.new.into c.make_clone.result)) named.snapshot_is c.make_clone.ensures.made))

pub returns-in-Err-clause-made : goal.returns-in-Err-clause-made
returns-in-Err-clause-made g c =
    let d = (g.D.Disk.shown c.args.disk.now) in let s = c.args.self.now in let r = c.in-Err.refusal in let room = room_by s.volumes (CloneCreate c.args.name.now c.args.parent.now c.args.snapshot.now c.args.size c.args.kind) in
    let long = ap (λ (s : Session). length s.volumes) (sym c.self.view_is) ∙ (c.self.invariant.0 (subst (λ (s : Session). IsNone s.failed) (sym c.self.view_is) c.requires.fresh)).housed.long in
    let why = subst (λ (k : Session). Refuses k.volumes k.pool.found.blocks c.args.parent.now c.args.snapshot.now c.args.name.now c.args.size c.args.kind r) c.self.view_is c.in-Err.ensures.refused in
    subst (λ (z : Reply). MakesVolume g.D.Disk.shown (room_by c.args.self.now.volumes (CloneCreate c.args.name.now c.args.parent.now c.args.snapshot.now c.args.size c.args.kind)) (λ m. next m (CloneCreate c.args.name.now c.args.parent.now c.args.snapshot.now c.args.size c.args.kind)) c.args.disk.now s c.args.disk.now s (Ok z)) (sym c.refuse.ensures)
    (refused_makes g.D.Disk.shown (room_by c.args.self.now.volumes (CloneCreate c.args.name.now c.args.parent.now c.args.snapshot.now c.args.size c.args.kind)) (λ m. next m (CloneCreate c.args.name.now c.args.parent.now c.args.snapshot.now c.args.size c.args.kind)) c.args.disk.now s r c.requires.fresh c.requires.stands (λ tells last m stands. refused_for d s last m (CloneCreate c.args.name.now c.args.parent.now c.args.snapshot.now c.args.size c.args.kind) r (g.met.D.Disk.laws c.args.disk.now) stands (clone_refused d s last m long stands c.args.name.now c.args.size c.args.kind c.args.parent.now c.args.snapshot.now r why)))

pub returns-in-Ok-clause-reply : goal.returns-in-Ok-clause-reply
returns-in-Ok-clause-reply g c = λ tells last m stands.
    let long = ap (λ (s : Session). length s.volumes) (sym c.self.view_is) ∙ (c.self.invariant.0 (subst (λ (s : Session). IsNone s.failed) (sym c.self.view_is) c.requires.fresh)).housed.long in
    let s = c.args.self.now in let a = c.in-Ok.admitted in let named = c.in-Ok.ensures.named in
    let admits = subst (λ (k : Session). Admits k.volumes k.pool.found.blocks c.args.name.now c.args.size c.args.kind a) c.self.view_is c.in-Ok.ensures.admitted in
    let room : room_by s.volumes (CloneCreate c.args.name.now c.args.parent.now c.args.snapshot.now c.args.size c.args.kind) ≡ overhead a.span = clone_room_as s.volumes s.pool.found.blocks c.args.name.now c.args.parent.now c.args.snapshot.now c.args.size c.args.kind a admits named.parent_is named.snapshot_is in
    subst (λ (p : List ℕ). IfOk (answer c.make_clone.new.into c.make_clone.result) (Allows m (CloneCreate c.args.name.now p c.args.snapshot.now c.args.size c.args.kind))) named.parent_is
    (subst (λ (q : List ℕ). IfOk (answer c.make_clone.new.into c.make_clone.result) (Allows m (CloneCreate c.args.name.now a.base.name q c.args.size c.args.kind))) named.snapshot_is
    (done_allowed m (CloneCreate c.args.name.now a.base.name a.base.snapshot c.args.size c.args.kind) refl (clone_done m c.args.name.now a.base.name a.base.snapshot c.args.size c.args.kind)
    (clone_accepted (g.D.Disk.shown c.args.disk.now) s last m long stands c.args.name.now c.args.size c.args.kind a admits) (answer c.make_clone.new.into c.make_clone.result) c.make_clone.ensures.reply))

pub returns-in-Err-clause-reply : goal.returns-in-Err-clause-reply
returns-in-Err-clause-reply g c = λ tells last m stands.
    let s = c.args.self.now in let r = c.in-Err.refusal in
    let long = ap (λ (s : Session). length s.volumes) (sym c.self.view_is) ∙ (c.self.invariant.0 (subst (λ (s : Session). IsNone s.failed) (sym c.self.view_is) c.requires.fresh)).housed.long in
    let why = subst (λ (k : Session). Refuses k.volumes k.pool.found.blocks c.args.parent.now c.args.snapshot.now c.args.name.now c.args.size c.args.kind r) c.self.view_is c.in-Err.ensures.refused in
    subst (Allows m (CloneCreate c.args.name.now c.args.parent.now c.args.snapshot.now c.args.size c.args.kind)) (sym c.refuse.ensures) (refused_allows m (CloneCreate c.args.name.now c.args.parent.now c.args.snapshot.now c.args.size c.args.kind) r (clone_refused (g.D.Disk.shown c.args.disk.now) s last m long stands c.args.name.now c.args.size c.args.kind c.args.parent.now c.args.snapshot.now r why))

pub returns-in-Ok-clause-decides : goal.returns-in-Ok-clause-decides
returns-in-Ok-clause-decides g c =
    let s = c.args.self.now in let a = c.in-Ok.admitted in
    let admits = subst (λ (k : Session). Admits k.volumes k.pool.found.blocks c.args.name.now c.args.size c.args.kind a) c.self.view_is c.in-Ok.ensures.admitted in
    done_decided (Refuses s.volumes s.pool.found.blocks c.args.parent.now c.args.snapshot.now c.args.name.now c.args.size c.args.kind)
    (CanClone s.volumes s.pool.found.blocks c.args.name.now c.args.parent.now c.args.snapshot.now c.args.size c.args.kind)
    (record { admitted = a; admits = admits; named = c.in-Ok.ensures.named }) (answer c.make_clone.new.into c.make_clone.result) c.make_clone.ensures.reply

pub returns-in-Err-clause-decides : goal.returns-in-Err-clause-decides
returns-in-Err-clause-decides g c =
    let s = c.args.self.now in
    let why = subst (λ (k : Session). Refuses k.volumes k.pool.found.blocks c.args.parent.now c.args.snapshot.now c.args.name.now c.args.size c.args.kind c.in-Err.refusal) c.self.view_is c.in-Err.ensures.refused in
    subst (DecidesMaking s.volumes s.pool.found.blocks (CloneCreate c.args.name.now c.args.parent.now c.args.snapshot.now c.args.size c.args.kind)) (sym c.refuse.ensures) why
