use Rattle.std.proofs.Common.{◌≡◌, Some, refl, sym, subst}
use Rattle.std.specs.Prelude.{IsNone}
use Rattle.fv_aggregate.specs.declared.fault.Fault.TheVariants.{Failed}
use Rattle.fv_aggregate.specs.declared.session.Session.{Session}
use Rattle.fv_cp.proofs.Whole.{resting}
use Rattle.fv_aggregate.proofs.Applied.{rests_for_fault, unpointed_itself}
use Rattle.fv_aggregate.proofs.Calls.{rests_asks, stays_failed}
use Rattle.fv_aggregate.proofs.Ready.{stands_ready}
use Rattle.fv_aggregate.proofs.session.Session.consistency_point.Goals as goal

pub returns-in-Some-clause-runs : goal.returns-in-Some-clause-runs
returns-in-Some-clause-runs g c =
    let d = g.D.Disk.shown c.args.disk.now in
    let s = c.args.self.now in
    record {
      goes = stays_failed c.in-Some.faults 0 d s (subst (λ (k : Session). k.failed ≡ Some c.in-Some.faults) c.self.view_is c.in-Some.is);
      asks = rests_asks 0 d s;
      damage = tt;
      goes_for = λ tells last m stands. rests_for_fault (Failed c.in-Some.faults) d s last m m (g.met.D.Disk.laws c.args.disk.now) tt stands;
      numbers = λ alive k known. known;
    }

pub returns-in-Some-clause-points : goal.returns-in-Some-clause-points
returns-in-Some-clause-points g c = record {
  point = λ tells last m stands. tt;
  sides = λ tells last m stands. resting (g.D.Disk.shown c.args.disk.now) c.args.self.now.pool c.args.self.now.volumes last (g.met.D.Disk.laws c.args.disk.now) stands.held;
  left = tt;
  undone = λ alive. unpointed_itself (g.D.Disk.shown c.args.disk.now) c.args.self.now;
}

pub point-requires-clause-stands : goal.point-requires-clause-stands
point-requires-clause-stands g c =
    let fresh : IsNone c.args.self.now.failed = subst (λ (s : Session). IsNone s.failed) c.self.view_is (subst IsNone (sym c.in-None.is) refl) in
    stands_ready (g.D.Disk.shown c.args.disk.now) _ _ c.self.view_is c.self.invariant.2 c.requires.stands fresh

pub returns-in-None-clause-runs : goal.returns-in-None-clause-runs
returns-in-None-clause-runs g c =
    let did = c.point.ensures in
    record { goes = did.goes; asks = did.asks; damage = did.damage; goes_for = did.goes_for; numbers = did.numbers }
