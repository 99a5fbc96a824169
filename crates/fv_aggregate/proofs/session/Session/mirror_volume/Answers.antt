use Rattle.std.proofs.Common.{Ok, inl, inr, refl, ap, subst}
use Rattle.fv_model.specs.declared.answers.Reply.{Reply}
use Rattle.fv_mirror.specs.Admitting.{Admits, Refuses}
use Rattle.fv_aggregate.specs.declared.session.Session.{Session}
use Rattle.fv_aggregate.proofs.session.Session.mirror_volume.Goals as goal

pub returns-in-Ok : goal.returns-in-Ok
returns-in-Ok g c =
    let a = c.in-Ok.admitted in
    inr (record {
      admitted = a;
      admits = subst (λ (k : Session). Admits k.volumes k.pool.found.blocks c.args.name.now c.args.size c.args.kind a) c.self.view_is c.in-Ok.ensures.admitted;
      named = c.in-Ok.ensures.named;
      made = c.make_mirror.ensures.made;
      reply = c.make_mirror.ensures.reply;
    })

pub returns-in-Err : goal.returns-in-Err
returns-in-Err g c = inl (record {
  refusal = c.in-Err.refusal;
  is = ap (λ (r : Reply). Ok r) c.refuse.ensures;
  why = subst (λ (k : Session). Refuses k.volumes k.pool.found.blocks c.args.source.now c.args.snapshot.now c.args.name.now c.args.size c.args.kind c.in-Err.refusal) c.self.view_is c.in-Err.ensures.refused;
  disk = refl;
  session = refl;
})
