use Rattle.std.proofs.Common.{◌≡◌, ℕ, Bool, Ok, Err, Result, length, rules, sym, subst, arith}
use Rattle.std.specs.Prelude.{IsNone}
use Rattle.fv_container.specs.Chains.{slot_count}
use Rattle.fv_aggregate.specs.declared.fault.Fault.{Fault}
use Rattle.fv_aggregate.specs.declared.session.Session.{Session}
use Rattle.fv_aggregate.specs.Working.{AreKnown, Works, WorksOnce}
use Rattle.fv_aggregate.proofs.WorkedLoops.{gone_all, gone_early, gone_fault, gone_known, gone_more, gone_none, HasGone}
use Rattle.fv_aggregate.proofs.session.Session.take_steps.Goals as goal

pub loop-taken-init : goal.loop-taken-init
loop-taken-init g c = record {
  gone = gone_none g.D.Disk.shown c.args.disk.now (g.met.D.Disk.laws c.args.disk.now) c.args.self.now c.requires.fresh c.requires.stands;
}

pub returns-then-not-has_unclean-clause-works : goal.returns-then-not-has_unclean-clause-works
returns-then-not-has_unclean-clause-works g c =
    let fresh : IsNone c.self.inside.failed = subst (λ (n : Session). IsNone n.failed) (sym c.self.view_is) c.requires.fresh in
    gone_known g.D.Disk.shown c.args.disk.now (g.met.D.Disk.laws c.args.disk.now) c.args.self.now c.args.n c.requires.fresh c.requires.stands
    (subst (λ (n : Session). length n.volumes ≡ slot_count) c.self.view_is (c.self.invariant.0 fresh).housed.long)
    (subst (λ (n : Session). AreKnown n.volumes) c.self.view_is (c.has_unclean.ensures.none c.if-not-has_unclean.true))

pub returns-in_err-work_step-clause-idle : goal.returns-in_err-work_step-clause-idle
returns-in_err-work_step-clause-idle g c = λ known.
    absurd (c.has_unclean.ensures.some c.if-not-has_unclean.false (subst (λ (n : Session). AreKnown n.volumes) (sym c.self.view_is) known))

pub returns-then-not-branch-clause-idle : goal.returns-then-not-branch-clause-idle
returns-then-not-branch-clause-idle g c = λ known.
    absurd (c.has_unclean.ensures.some c.if-not-has_unclean.false (subst (λ (n : Session). AreKnown n.volumes) (sym c.self.view_is) known))

pub returns-in_err-work_step-clause-works : goal.returns-in_err-work_step-clause-works
returns-in_err-work_step-clause-works g c =
    let l = c.loop-taken in
    let d = g.D.Disk.shown c.args.disk.now in let e = g.D.Disk.shown c.work_step.new.disk in
    let failed : c.from_residual.result ≡ Err c.in_err-work_step.field-0.0 = search rules in
    subst (λ (k : Result ℕ Fault). Works c.args.n d c.args.self.now e c.work_step.new.self k) (sym failed)
    (gone_fault g.D.Disk.shown c.args.disk.now c.args.self.now l.taken l.disk l.self l.invariant.gone c.work_step.new.disk c.work_step.new.self
    c.args.n (omega arith) c.in_err-work_step.field-0.0 c.in_err-work_step.ensures)

pub returns-then-not-branch-clause-works : goal.returns-then-not-branch-clause-works
returns-then-not-branch-clause-works g c =
    let l = c.loop-taken in
    let e = g.D.Disk.shown c.work_step.new.disk in
    gone_early g.D.Disk.shown c.args.disk.now c.args.self.now l.taken l.disk l.self l.invariant.gone c.work_step.new.disk c.work_step.new.self
    c.args.n (omega arith)
    (subst (λ (b : Bool). WorksOnce (g.D.Disk.shown l.disk) l.self e c.work_step.new.self (Ok b)) c.if-not-branch.true c.in_ok-work_step.ensures)

pub loop-taken-preserved : goal.loop-taken-preserved
loop-taken-preserved g c =
    let l = c.loop-taken in
    let e = g.D.Disk.shown c.work_step.new.disk in record {
      gone = gone_more g.D.Disk.shown c.args.disk.now c.args.self.now l.taken l.disk l.self l.invariant.gone c.work_step.new.disk c.work_step.new.self
          (subst (λ (b : Bool). WorksOnce (g.D.Disk.shown l.disk) l.self e c.work_step.new.self (Ok b)) c.if-not-branch.false c.in_ok-work_step.ensures);
    }

pub returns-clause-works : goal.returns-clause-works
returns-clause-works g c =
    let l = c.loop-taken in
    let all : l.taken ≡ c.args.n = grind (arith, c.loop-taken-test.false, l.auto.taken-end) in
    gone_all g.D.Disk.shown c.args.disk.now c.args.self.now c.args.n l.disk l.self
    (subst (λ (k : ℕ). HasGone g.D.Disk.shown c.args.disk.now c.args.self.now k l.disk l.self) all l.invariant.gone)
