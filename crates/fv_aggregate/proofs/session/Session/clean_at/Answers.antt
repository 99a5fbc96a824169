use Rattle.std.proofs.Common.{subst, ◌∙◌}
use Rattle.fv_cleaner.specs.Cleaning.{CleansAt}
use Rattle.fv_aggregate.proofs.CleanedAt.{failed_set, none_set, took_set}
use Rattle.fv_aggregate.proofs.Worked.{failed_step, may_step, none_step, took_step}
use Rattle.fv_aggregate.proofs.session.Session.clean_at.Goals as goal

pub invariant_of-self : goal.invariant_of-self
invariant_of-self g c =
    let set =
    took_set (g.D.Disk.shown c.args.disk.now) (g.D.Disk.shown c.clean_step.new.disk) (g.met.D.Disk.laws c.args.disk.now) _ c.args.self.now
    c.self.view_is c.args.slot c.requires.fresh c.requires.stands c.requires.none c.requires.few c.requires.unclean c.self.invariant.0
    c.clean_step.ensures.only_reads c.clean_step.new.pool c.clean_step.ensures.stands c.clean_step.new.volumes
    (subst (CleansAt (g.D.Disk.shown c.args.disk.now) c.self.inside.pool c.self.inside.volumes c.args.slot c.clean_step.new.pool c.clean_step.new.volumes)
    c.in-Ok-true.field-0-test c.in-Ok-true.ensures.cleans) in
    (λ alive. set.fit, λ alive. c.self.invariant.1 set.fresh ∙ set.commits, λ alive. set.ready)

pub invariant_of-self-in-Ok-false : goal.invariant_of-self-in-Ok-false
invariant_of-self-in-Ok-false g c =
    let set =
    none_set (g.D.Disk.shown c.args.disk.now) (g.D.Disk.shown c.clean_step.new.disk) (g.met.D.Disk.laws c.args.disk.now) _ c.args.self.now
    c.self.view_is c.args.slot c.requires.fresh c.requires.stands c.requires.none c.requires.few c.requires.unclean c.self.invariant.0
    c.clean_step.ensures.only_reads c.clean_step.new.pool c.clean_step.ensures.stands c.clean_step.new.volumes
    (subst (CleansAt (g.D.Disk.shown c.args.disk.now) c.self.inside.pool c.self.inside.volumes c.args.slot c.clean_step.new.pool c.clean_step.new.volumes)
    c.in-Ok-false.field-0-test c.in-Ok-false.ensures.cleans) in
    (λ alive. set.fit, λ alive. c.self.invariant.1 set.fresh ∙ set.commits, λ alive. set.ready)

pub invariant_of-self-in-Err : goal.invariant_of-self-in-Err
invariant_of-self-in-Err g c =
    let set =
    failed_set (g.D.Disk.shown c.args.disk.now) (g.D.Disk.shown c.clean_step.new.disk) (g.met.D.Disk.laws c.args.disk.now) _ c.args.self.now
    c.self.view_is c.args.slot c.requires.fresh c.requires.stands c.requires.none c.requires.few c.requires.unclean c.self.invariant.0
    c.clean_step.ensures.only_reads c.clean_step.new.pool c.clean_step.ensures.stands c.clean_step.new.volumes
    c.in-Err.ensures.failed c.in-Err.ensures.same in
    (λ alive. set.fit, λ alive. c.self.invariant.1 set.fresh ∙ set.commits, λ alive. set.ready)

pub returns-in-Ok-true : goal.returns-in-Ok-true
returns-in-Ok-true g c =
    let d = g.D.Disk.shown c.args.disk.now in
    let e = g.D.Disk.shown c.clean_step.new.disk in
    let req = c.requires in
    let may = may_step d _ c.args.self.now c.self.view_is c.args.slot req.fresh req.stands req.none req.few req.unclean in
    let fit = c.self.invariant.0 may.fresh in
    let q = c.clean_step.new.pool in
    let ys = c.clean_step.new.volumes in
    let ok = c.in-Ok-true.ensures in
    let cleans = subst (CleansAt d c.self.inside.pool c.self.inside.volumes c.args.slot q ys) c.in-Ok-true.field-0-test ok.cleans in
    took_step d e (g.met.D.Disk.laws c.args.disk.now) _ c.args.slot may fit c.clean_step.ensures.only_reads q
    c.clean_step.ensures.stands ys cleans
    c.args.self.now c.self.view_is ok.cause ok.unled

pub returns-in-Ok-false : goal.returns-in-Ok-false
returns-in-Ok-false g c =
    let d = g.D.Disk.shown c.args.disk.now in
    let e = g.D.Disk.shown c.clean_step.new.disk in
    let req = c.requires in
    let may = may_step d _ c.args.self.now c.self.view_is c.args.slot req.fresh req.stands req.none req.few req.unclean in
    let fit = c.self.invariant.0 may.fresh in
    let q = c.clean_step.new.pool in
    let ys = c.clean_step.new.volumes in
    let ok = c.in-Ok-false.ensures in
    let cleans = subst (CleansAt d c.self.inside.pool c.self.inside.volumes c.args.slot q ys) c.in-Ok-false.field-0-test ok.cleans in
    none_step d e (g.met.D.Disk.laws c.args.disk.now) _ c.args.slot may fit c.clean_step.ensures.only_reads q
    c.clean_step.ensures.stands ys cleans
    c.args.self.now c.self.view_is ok.cause ok.unled

pub returns-in-Err : goal.returns-in-Err
returns-in-Err g c =
    let d = g.D.Disk.shown c.args.disk.now in
    let e = g.D.Disk.shown c.clean_step.new.disk in
    let req = c.requires in
    let may = may_step d _ c.args.self.now c.self.view_is c.args.slot req.fresh req.stands req.none req.few req.unclean in
    let fit = c.self.invariant.0 may.fresh in
    let q = c.clean_step.new.pool in
    let err = c.in-Err.ensures in
    failed_step d e (g.met.D.Disk.laws c.args.disk.now) _ c.args.slot may fit c.clean_step.ensures.only_reads q err.failed
    c.clean_step.ensures.stands
    c.clean_step.new.volumes err.same c.in-Err.fault err.cause err.unrefused err.undamaged
    c.fault_of.new.self c.fault_of.result c.fault_of.ensures
    c.args.self.now c.self.view_is
