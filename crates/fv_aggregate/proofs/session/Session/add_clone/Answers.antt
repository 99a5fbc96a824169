use Rattle.std.proofs.Common.{refl, sym, subst}
use Rattle.std.specs.Prelude.{IsNone}
use Rattle.fv_pool.specs.declared.pool.Pool.{Pool}
use Rattle.fv_cp.specs.Lent.{FitTogether}
use Rattle.fv_aggregate.specs.declared.session.Session.{Session}
use Rattle.fv_aggregate.specs.Parts.{silent, AreSet}
use Rattle.fv_aggregate.proofs.Putting.{clone_put, clone_yet, cloned_as, cloned_from, fit_put, ready_put}
use Rattle.fv_aggregate.proofs.Ready.{stands_silent}
use Rattle.fv_aggregate.proofs.session.Session.add_clone.Goals as goal

pub invariant_of-self : goal.invariant_of-self
invariant_of-self c =
    let same = c.in_err-make.ensures.same in (
      λ fresh. subst (λ (p : Pool). FitTogether p c.make.new.volumes) (sym same.1) (subst (FitTogether c.self.inside.pool) (sym same.0) (c.self.invariant.0 fresh)),
      λ fresh. c.make.ensures.sum,
      λ fresh. subst (λ (p : Pool). AreSet p c.make.new.volumes) (sym same.1) (subst (AreSet c.self.inside.pool) (sym same.0) (c.self.invariant.2 fresh)),
    )

pub invariant_of-self-2 : goal.invariant_of-self-2
invariant_of-self-2 c = (
  λ fresh.
      let was = c.self.invariant.0 fresh in let e = c.in_ok-make.ensures.cloned in
      fit_put c.self.inside.pool c.self.inside.volumes e.state c.make.new.pool c.make.new.volumes
      (clone_put c.self.inside.pool c.self.inside.volumes c.args.name.now c.args.size c.args.kind c.args.admitted c.make.new.pool c.make.new.volumes e was.housed)
      (clone_yet c.self.inside.pool c.self.inside.volumes c.args.name.now c.args.size c.args.kind c.args.admitted c.make.new.pool c.make.new.volumes e was.housed)
      was c.known_slots.ensures,
  λ fresh. c.make.ensures.sum,
  λ fresh.
      let was = c.self.invariant.0 fresh in let e = c.in_ok-make.ensures.cloned in
      ready_put c.self.inside.pool c.self.inside.volumes e.state c.make.new.pool c.make.new.volumes
      (clone_put c.self.inside.pool c.self.inside.volumes c.args.name.now c.args.size c.args.kind c.args.admitted c.make.new.pool c.make.new.volumes e was.housed)
      (clone_yet c.self.inside.pool c.self.inside.volumes c.args.name.now c.args.size c.args.kind c.args.admitted c.make.new.pool c.make.new.volumes e was.housed)
      was c.known_slots.ensures silent (stands_silent c.self.inside.pool.store.pairs) (c.self.invariant.2 fresh),
)

pub returns-clause-added : goal.returns-clause-added
returns-clause-added c =
    cloned_as _ c.args.self.now _ c.args.name.now c.args.size c.args.kind c.args.admitted c.args.room c.self.view_is
    (cloned_from _ _ c.args.name.now c.args.size c.args.kind c.args.admitted c.args.room c.in_ok-make.ensures.cloned
    c.requires.room (c.self.invariant.0 (subst (λ (s : Session). IsNone s.failed) (sym c.self.view_is) c.requires.fresh)) c.known_slots.ensures refl refl)
