use Rattle.std.proofs.Common.{ℕ, Option, sym, subst, arith}
use Rattle.fv_delay.specs.Holding.{Holding}
use Rattle.fv_cp.specs.Course.{HaveHere}
use Rattle.fv_cp.specs.Choosing.{holdings}
use Rattle.fv_cp.specs.Planning.{is_set, taken}
use Rattle.fv_cp.proofs.ByPlan.{moments_by, point_by}
use Rattle.fv_cp.proofs.Crashing.{writing}
use Rattle.fv_cp.proofs.Ending.{found_left, goes_on}
use Rattle.fv_cp.proofs.Marking.{asked_now, fit_marked, holdings_marked, leaves_marked, lent_marked}
use Rattle.fv_cp.proofs.Plans.{marks_left}
use Rattle.fv_cp.proofs.point.consistency_point.Goals as goal

pub returns-in_err-write_volumes-clause-any_moment : goal.returns-in_err-write_volumes-clause-any_moment
returns-in_err-write_volumes-clause-any_moment g c = λ tells before lent want marks can plans here.
    writing (g.D.Disk.shown c.args.disk.now) c.args.pool.now c.args.volumes.now before lent (g.D.Disk.shown c.write_volumes.new.disk) _ c.write_volumes.ensures.spares

pub write_volumes-requires-clause-housed : goal.write_volumes-requires-clause-housed
write_volumes-requires-clause-housed g c =
    (fit_marked c.args.volumes.now c.mark.new.volumes (is_set c.args.plan.now.due) c.mark.ensures.marked c.args.pool.now c.mark.ensures.long c.requires.fit).housed

pub write_volumes-requires-clause-leaves : goal.write_volumes-requires-clause-leaves
write_volumes-requires-clause-leaves g c = leaves_marked c.args.plan.now c.args.pool.now.containers c.args.volumes.now c.mark.new.volumes c.mark.ensures.marked c.requires.leaves

pub write_volumes-requires-clause-room : goal.write_volumes-requires-clause-room
write_volumes-requires-clause-room g c =
    let same = asked_now (is_set c.args.plan.now.due) c.args.volumes.now c.mark.new.volumes c.mark.ensures.long c.mark.ensures.marked in
    omega (arith, same, c.requires.room)

pub switch-requires-clause-found : goal.switch-requires-clause-found
switch-requires-clause-found g c =
    let plan = c.args.plan.now in
    let fit = fit_marked c.args.volumes.now c.mark.new.volumes (is_set plan.due) c.mark.ensures.marked c.args.pool.now c.mark.ensures.long c.requires.fit in
    found_left (taken plan (holdings c.args.pool.now.containers c.mark.new.volumes)) (g.D.Disk.shown c.args.disk.now) c.args.pool.now c.mark.new.volumes fit c.write_volumes.new.labels c.write_volumes.new.pool (g.D.Disk.shown c.write_volumes.new.disk)
    (HaveHere (taken plan (holdings c.args.pool.now.containers c.mark.new.volumes)) c.args.pool.now.containers) c.in_ok-write_volumes.ensures.come c.requires.found

pub returns-in_err-switch-clause-any_moment : goal.returns-in_err-switch-clause-any_moment
returns-in_err-switch-clause-any_moment g c = λ tells before lent want marks can plans here.
    moments_by (g.D.Disk.shown c.args.disk.now) c.args.pool.now c.args.volumes.now before lent c.requires.fit want marks can c.args.plan.now
    plans.planned
    c.mark.new.volumes c.mark.ensures.marked c.mark.ensures.long c.write_volumes.new.labels c.write_volumes.new.pool (g.D.Disk.shown c.write_volumes.new.disk) (HaveHere (taken c.args.plan.now (holdings c.args.pool.now.containers c.mark.new.volumes)) c.args.pool.now.containers) c.in_ok-write_volumes.ensures.come tells
    (subst (λ (volumes : ℕ → Option Holding). HaveHere (taken c.args.plan.now volumes) c.args.pool.now.containers) (sym (holdings_marked c.args.pool.now.containers c.args.volumes.now c.mark.new.volumes (is_set c.args.plan.now.due) c.mark.ensures.marked)) here)
    (g.D.Disk.shown c.switch.new.disk) c.switch.ensures.any_moment

pub returns-clause-any_moment : goal.returns-clause-any_moment
returns-clause-any_moment g c = λ tells before lent want marks can plans here.
    moments_by (g.D.Disk.shown c.args.disk.now) c.args.pool.now c.args.volumes.now before lent c.requires.fit want marks can c.args.plan.now
    plans.planned
    c.mark.new.volumes c.mark.ensures.marked c.mark.ensures.long c.write_volumes.new.labels c.write_volumes.new.pool (g.D.Disk.shown c.write_volumes.new.disk) (HaveHere (taken c.args.plan.now (holdings c.args.pool.now.containers c.mark.new.volumes)) c.args.pool.now.containers) c.in_ok-write_volumes.ensures.come tells
    (subst (λ (volumes : ℕ → Option Holding). HaveHere (taken c.args.plan.now volumes) c.args.pool.now.containers) (sym (holdings_marked c.args.pool.now.containers c.args.volumes.now c.mark.new.volumes (is_set c.args.plan.now.due) c.mark.ensures.marked)) here)
    (g.D.Disk.shown c.switch.new.disk) c.switch.ensures.any_moment

pub returns-clause-point : goal.returns-clause-point
returns-clause-point g c = λ tells before lent want marks can plans here.
    let did = c.in_ok-switch.ensures in
    point_by (g.D.Disk.shown c.args.disk.now) c.args.pool.now c.args.volumes.now before lent c.requires.fit want marks can c.args.plan.now
    plans.planned
    c.mark.new.volumes c.mark.ensures.marked c.mark.ensures.long c.write_volumes.new.labels c.write_volumes.new.pool (g.D.Disk.shown c.write_volumes.new.disk) (HaveHere (taken c.args.plan.now (holdings c.args.pool.now.containers c.mark.new.volumes)) c.args.pool.now.containers) c.in_ok-write_volumes.ensures.come tells
    (subst (λ (volumes : ℕ → Option Holding). HaveHere (taken c.args.plan.now volumes) c.args.pool.now.containers) (sym (holdings_marked c.args.pool.now.containers c.args.volumes.now c.mark.new.volumes (is_set c.args.plan.now.due) c.mark.ensures.marked)) here)
    (g.D.Disk.shown c.switch.new.disk) did.committed c.switch.new.pool c.settle.new.volumes did.switched did.containers did.kept c.settle.ensures.settled
    c.write_volumes.new.delays
    (c.in_ok-write_volumes.ensures.delays tells before (lent_marked c.args.volumes.now c.mark.new.volumes (is_set c.args.plan.now.due) c.mark.ensures.marked (g.D.Disk.shown c.args.disk.now) c.args.pool.now before lent)
    (subst (λ (volumes : ℕ → Option Holding). HaveHere (taken c.args.plan.now volumes) c.args.pool.now.containers) (sym (holdings_marked c.args.pool.now.containers c.args.volumes.now c.mark.new.volumes (is_set c.args.plan.now.due) c.mark.ensures.marked)) here))

pub returns-clause-goes_on : goal.returns-clause-goes_on
returns-clause-goes_on g c =
    let plan = c.args.plan.now in
    let marked = c.mark.ensures.marked in
    let fit = fit_marked c.args.volumes.now c.mark.new.volumes (is_set plan.due) marked c.args.pool.now c.mark.ensures.long c.requires.fit in
    let did = c.in_ok-switch.ensures in
    goes_on (taken plan (holdings c.args.pool.now.containers c.mark.new.volumes)) (g.D.Disk.shown c.args.disk.now) c.args.pool.now c.mark.new.volumes fit c.write_volumes.new.labels c.write_volumes.new.pool (g.D.Disk.shown c.write_volumes.new.disk)
    (HaveHere (taken plan (holdings c.args.pool.now.containers c.mark.new.volumes)) c.args.pool.now.containers) c.in_ok-write_volumes.ensures.come (g.D.Disk.shown c.switch.new.disk)
    c.switch.new.pool c.settle.new.volumes did.switched did.containers did.kept c.settle.ensures.settled c.args.volumes.now (is_set plan.due) marked did.committed did.stands c.settle.ensures.long

pub returns-clause-flags : goal.returns-clause-flags
returns-clause-flags g c = λ tells before lent want marks plans here counted few s inside off.
    plans.flags counted s inside
    (marks_left c.args.plan.now (holdings c.args.pool.now.containers c.mark.new.volumes) c.write_volumes.new.delays
    (c.in_ok-write_volumes.ensures.delays tells before (lent_marked c.args.volumes.now c.mark.new.volumes (is_set c.args.plan.now.due) c.mark.ensures.marked (g.D.Disk.shown c.args.disk.now) c.args.pool.now before lent)
    (subst (λ (volumes : ℕ → Option Holding). HaveHere (taken c.args.plan.now volumes) c.args.pool.now.containers) (sym (holdings_marked c.args.pool.now.containers c.args.volumes.now c.mark.new.volumes (is_set c.args.plan.now.due) c.mark.ensures.marked)) here))
    (plans.none counted few) s inside off)
