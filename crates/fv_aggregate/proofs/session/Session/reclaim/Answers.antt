use Rattle.std.proofs.Common.{◌≡◌, rules, Result, Ok, Err, sym, subst}
use Rattle.fv_model.specs.declared.answers.Reply.{Reply}
use Rattle.fv_model.specs.declared.answers.Reply.TheVariants.{Done}
use Rattle.fv_aggregate.specs.Commands.{AsksPoint}
use Rattle.fv_aggregate.specs.declared.fault.Fault.{Fault}
use Rattle.fv_aggregate.specs.Answers.{answer}
use Rattle.fv_aggregate.specs.Calls.{Runs}
use Rattle.fv_aggregate.specs.Reclaiming.{Points}
use Rattle.fv_aggregate.proofs.Answered.{fails}
use Rattle.fv_aggregate.proofs.Calls.{fails_alike, fails_for, replies_done, replies_for}
use Rattle.fv_aggregate.proofs.session.Session.reclaim.Goals as goal

pub returns-in_err-point-clause-runs : goal.returns-in_err-point-clause-runs
returns-in_err-point-clause-runs g c =
    let old = g.D.Disk.shown c.args.disk.now in let new = g.D.Disk.shown c.point.new.disk in let s = c.args.self.now in
    let n = c.point.new.self in let f = c.in_err-point.field-0.0 in let did = c.in_err-point.ensures in
    let failed : answer c.args.into.now c.from_residual.result ≡ Err f = fails c.args.into.now c.from_residual.result f (search rules) in
    subst (λ (r : Result Reply Fault). Runs 0 AsksPoint (λ m. m) old s new n r) (sym failed) (record {
      goes = fails_alike f 0 AsksPoint old s new n did.goes;
      asks = did.asks;
      damage = did.damage;
      goes_for = λ tells last m stands. fails_for f old last m m new n (did.goes_for tells last m stands);
      numbers = did.numbers;
    })

pub returns-in_err-point-clause-points : goal.returns-in_err-point-clause-points
returns-in_err-point-clause-points g c =
    let did = c.in_err-point.ensures.points in
    let failed : answer c.args.into.now c.from_residual.result ≡ Err c.in_err-point.field-0.0 = fails c.args.into.now c.from_residual.result c.in_err-point.field-0.0 (search rules) in
    subst (λ (r : Result Reply Fault). Points 0 (g.D.Disk.shown c.args.disk.now) c.args.self.now (g.D.Disk.shown c.point.new.disk) c.point.new.self r) (sym failed)
    (record { point = λ tells last m stands. tt; sides = did.sides; left = tt; undone = did.undone })

pub returns-clause-runs : goal.returns-clause-runs
returns-clause-runs g c =
    let old = g.D.Disk.shown c.args.disk.now in let new = g.D.Disk.shown c.point.new.disk in let did = c.in_ok-point.ensures in
    subst (λ (z : Reply). Runs 0 AsksPoint (λ m. m) old c.args.self.now new c.point.new.self (Ok z)) (sym c.done.ensures) (record {
      goes = replies_done Done 0 AsksPoint old c.args.self.now new c.point.new.self did.goes;
      asks = did.asks;
      damage = tt;
      goes_for = λ tells last m stands. replies_for Done old last m m new c.point.new.self (did.goes_for tells last m stands);
      numbers = did.numbers;
    })

pub returns-clause-points : goal.returns-clause-points
returns-clause-points g c =
    let did = c.in_ok-point.ensures.points in
    record { point = did.point; sides = did.sides; left = did.left; undone = λ alive. tt }
