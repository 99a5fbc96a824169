use Rattle.std.proofs.Common.{refl, sym, subst}
use Rattle.fv_model.specs.declared.answers.Reply.{Reply}
use Rattle.fv_store.specs.Held.{StandsOn}
use Rattle.fv_aggregate.specs.Answers.{answer}
use Rattle.fv_aggregate.specs.declared.session.Session.{Session}
use Rattle.fv_aggregate.specs.Looking.{Replied}
use Rattle.fv_aggregate.specs.Removing.{HasRemoved}
use Rattle.fv_aggregate.proofs.Removing.{fit_destroyed, set_destroyed}
use Rattle.fv_aggregate.proofs.Removed.{untouched_by}
use Rattle.fv_aggregate.proofs.session.Session.destroy.Goals as goal

pub destroy-made-requires-clause-stands : goal.destroy-made-requires-clause-stands
destroy-made-requires-clause-stands g c = subst (λ (s : Session). StandsOn (g.D.Disk.shown c.args.disk.now) s.pool.store.pairs) (sym c.self.view_is) c.requires.stands.stands.cache

pub invariant_of-self : goal.invariant_of-self
invariant_of-self g c = (
  λ fresh. fit_destroyed (g.D.Disk.shown c.args.disk.now) c.self.inside.pool c.self.inside.volumes (c.self.invariant.0 fresh) c.args.volume.now c.destroy-made.new.self c.destroy-made.new.pool c.destroy-made.result c.destroy-made.ensures.destroys
      (g.D.Disk.shown c.destroy-made.new.disk) c.destroy-made.ensures.only_reads c.destroy-made.ensures.stands,
  λ fresh. c.destroy-made.ensures.sum,
  λ fresh. set_destroyed (g.D.Disk.shown c.args.disk.now) c.self.inside.pool c.self.inside.volumes (c.self.invariant.0 fresh) c.args.volume.now c.destroy-made.new.self c.destroy-made.new.pool c.destroy-made.result c.destroy-made.ensures.destroys (c.self.invariant.2 fresh),
)

pub returns : goal.returns
returns g c =
    let d = g.D.Disk.shown c.args.disk.now in
    let e = g.D.Disk.shown c.destroy-made.new.disk in
    let v : Session = record { volumes = c.self.inside.volumes; pool = c.self.inside.pool; delays = c.self.inside.delays; pending = c.self.inside.pending; failed = c.self.inside.failed } in
    let mid : Session = record v { volumes = c.destroy-made.new.self; pool = c.destroy-made.new.pool } in
    let r = c.destroy-made.result in
    let replied : Replied e (answer c.done.new.into r) mid c.replied.new.self (answer c.replied.new.into c.replied.result) = c.replied.ensures in
    let told = subst (λ (z : Reply). Replied e (answer z r) mid c.replied.new.self (answer c.replied.new.into c.replied.result)) c.done.ensures replied in
    subst (λ (s : Session). HasRemoved d c.args.disk.now s c.args.volume.now e c.destroy-made.new.disk c.replied.new.self (answer c.replied.new.into c.replied.result)) c.self.view_is (record {
      mid = mid;
      rest = refl;
      few = c.known_slots.ensures;
      made = r;
      answers = c.destroy-made.ensures.destroys;
      replied = told;
      refused = untouched_by d e c.args.disk.now c.destroy-made.new.disk v c.args.volume.now c.destroy-made.new.self c.destroy-made.new.pool r c.destroy-made.ensures.destroys c.destroy-made.ensures.refused c.replied.new.self (answer c.replied.new.into c.replied.result) told;
      cause = c.destroy-made.ensures.cause;
      stands = c.destroy-made.ensures.stands;
      only_reads = c.destroy-made.ensures.only_reads;
    })
