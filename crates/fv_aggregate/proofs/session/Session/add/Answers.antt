use Rattle.std.proofs.Common.{refl, sym, subst}
use Rattle.std.specs.Prelude.{IsNone}
use Rattle.fv_volumes.specs.Creating.{Admits}
use Rattle.fv_aggregate.specs.declared.session.Session.{Session}
use Rattle.fv_aggregate.specs.Parts.{silent}
use Rattle.fv_aggregate.proofs.Putting.{created_as, created_from, fit_put, new_put, new_yet, ready_put}
use Rattle.fv_aggregate.proofs.Ready.{stands_silent}
use Rattle.fv_aggregate.proofs.session.Session.add.Goals as goal

pub invariant_of-self-2 : goal.invariant_of-self-2
invariant_of-self-2 c = (
  λ fresh.
      let was = c.self.invariant.0 fresh in let e = c.in_ok-create.ensures in let slot = c.in_ok-create.field-0 in
      fit_put c.self.inside.pool c.self.inside.volumes e.new.volume c.create.new.pool c.create.new.self
      (new_put c.self.inside.pool c.self.inside.volumes slot c.args.name.now c.args.size c.args.kind c.create.new.pool c.create.new.self was.housed.long e.slot e.made e.new e.holes e.each)
      (new_yet c.self.inside.pool c.self.inside.volumes slot c.args.name.now c.args.size c.args.kind c.create.new.pool c.create.new.self was.housed.long e.slot e.made e.new e.holes e.each)
      was c.known_slots.ensures,
  λ fresh. c.in_ok-create.ensures.sum,
  λ fresh.
      let was = c.self.invariant.0 fresh in let e = c.in_ok-create.ensures in let slot = c.in_ok-create.field-0 in
      ready_put c.self.inside.pool c.self.inside.volumes e.new.volume c.create.new.pool c.create.new.self
      (new_put c.self.inside.pool c.self.inside.volumes slot c.args.name.now c.args.size c.args.kind c.create.new.pool c.create.new.self was.housed.long e.slot e.made e.new e.holes e.each)
      (new_yet c.self.inside.pool c.self.inside.volumes slot c.args.name.now c.args.size c.args.kind c.create.new.pool c.create.new.self was.housed.long e.slot e.made e.new e.holes e.each)
      was c.known_slots.ensures silent (stands_silent c.self.inside.pool.store.pairs) (c.self.invariant.2 fresh),
)

pub returns-clause-added : goal.returns-clause-added
returns-clause-added c =
    let e = c.in_ok-create.ensures in
    created_as _ c.args.self.now _ c.args.name.now c.args.size c.args.kind c.args.room c.self.view_is
    (created_from _ _ c.in_ok-create.field-0 c.args.name.now c.args.size c.args.kind c.args.room e.slot e.made e.new e.holes e.each c.args.admitted.slot c.args.admitted.span
    (subst (λ (x : Session). Admits x.volumes x.pool.found.blocks c.args.name.now c.args.size c.args.kind c.args.admitted.slot c.args.admitted.span) (sym c.self.view_is) c.requires.admitted)
    c.requires.room (c.self.invariant.0 (subst (λ (s : Session). IsNone s.failed) (sym c.self.view_is) c.requires.fresh)) c.known_slots.ensures refl refl)
