use Rattle.std.proofs.Common.{refl, sym, subst}
use Rattle.std.specs.Prelude.{IsNone}
use Rattle.fv_aggregate.specs.declared.session.Session.{Session}
use Rattle.fv_aggregate.proofs.Ready.{stands_ready}
use Rattle.fv_aggregate.proofs.session.Session.work.Goals as goal

pub take_steps-requires-clause-stands : goal.take_steps-requires-clause-stands
take_steps-requires-clause-stands g c =
    let fresh : IsNone c.args.self.now.failed = subst (λ (s : Session). IsNone s.failed) c.self.view_is (subst IsNone (sym c.in-None.is) refl) in
    stands_ready (g.D.Disk.shown c.args.disk.now) _ _ c.self.view_is c.self.invariant.2 c.requires.stands fresh
