use Rattle.std.proofs.Common.{sym, subst, ◌∙◌}
use Rattle.std.specs.Prelude.{IsNone}
use Rattle.fv_aggregate.specs.declared.session.Session.{Session}
use Rattle.fv_aggregate.proofs.Commits.{commits_kept}
use Rattle.fv_aggregate.proofs.Ready.{ready_set}
use Rattle.fv_aggregate.proofs.WorkedCalls.{places_err, places_ok}
use Rattle.fv_aggregate.proofs.session.Session.place_all.Goals as goal

pub invariant_of-self : goal.invariant_of-self
invariant_of-self g c =
    let fresh = subst (λ (n : Session). IsNone n.failed) (sym c.self.view_is) c.requires.fresh in (
      λ alive. c.flush.ensures.placed.fit,
      λ alive. c.self.invariant.1 fresh ∙ sym (commits_kept c.self.inside.volumes c.flush.new.volumes c.flush.ensures.placed.cores),
      λ alive. ready_set (g.D.Disk.shown c.flush.new.disk) c.flush.new.pool c.flush.new.volumes c.flush.ensures.ready,
    )

pub invariant_of-self-in-Err : goal.invariant_of-self-in-Err
invariant_of-self-in-Err g c =
    let fresh = subst (λ (n : Session). IsNone n.failed) (sym c.self.view_is) c.requires.fresh in (
      λ alive. c.flush.ensures.placed.fit,
      λ alive. c.self.invariant.1 fresh ∙ sym (commits_kept c.self.inside.volumes c.flush.new.volumes c.flush.ensures.placed.cores),
      λ alive. ready_set (g.D.Disk.shown c.flush.new.disk) c.flush.new.pool c.flush.new.volumes c.flush.ensures.ready,
    )

pub returns-in-Ok : goal.returns-in-Ok
returns-in-Ok g c =
    let did = c.flush.ensures in
    places_ok g.D.Disk.shown c.args.disk.now c.flush.new.disk (g.met.D.Disk.laws c.args.disk.now) _ c.args.self.now c.self.view_is
    c.requires.fresh c.requires.stands c.self.invariant.0 c.flush.new.pool c.flush.new.volumes did.placed did.stands did.ready
    c.in-Ok.ensures.cause c.in-Ok.ensures.none did.idle

pub returns-in-Err : goal.returns-in-Err
returns-in-Err g c =
    let did = c.flush.ensures in
    let err = c.in-Err.ensures in
    places_err g.D.Disk.shown c.args.disk.now c.flush.new.disk (g.met.D.Disk.laws c.args.disk.now) _ c.args.self.now c.self.view_is
    c.requires.fresh c.requires.stands c.self.invariant.0 c.flush.new.pool c.flush.new.volumes did.placed did.stands did.ready
    c.in-Err.fault c.fault_of.new.self c.fault_of.result c.fault_of.ensures err.cause err.lacks err.enough
