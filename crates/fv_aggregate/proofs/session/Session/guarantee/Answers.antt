use Rattle.fv_model.specs.declared.commands.Command.TheVariants.{VolGuarantee}
use Rattle.fv_aggregate.specs.Parts.{silent}
use Rattle.fv_aggregate.proofs.Resized.{fit_resized, promised_by, ready_resized}
use Rattle.fv_aggregate.proofs.session.Session.guarantee.Goals as goal

pub returns : goal.returns
returns c = promised_by _ _ c.self.view_is (VolGuarantee c.args.volume.now c.args.kind) c.args.volume.now (λ x. x.size) (λ x. c.args.kind) c.guarantee-made.new.self c.guarantee-made.result c.guarantee-made.ensures.promises _ c.tell.ensures

pub invariant_of-self : goal.invariant_of-self
invariant_of-self c = (
  λ fresh.
      fit_resized (record { volumes = c.self.inside.volumes; pool = c.self.inside.pool; delays = c.self.inside.delays; pending = c.self.inside.pending; failed = c.self.inside.failed })
      (VolGuarantee c.args.volume.now c.args.kind) c.args.volume.now (λ x. x.size) (λ x. c.args.kind) c.guarantee-made.new.self (c.self.invariant.0 fresh) c.guarantee-made.result c.guarantee-made.ensures.promises,
  λ fresh. c.guarantee-made.ensures.sum,
  λ fresh.
      ready_resized (record { volumes = c.self.inside.volumes; pool = c.self.inside.pool; delays = c.self.inside.delays; pending = c.self.inside.pending; failed = c.self.inside.failed })
      (VolGuarantee c.args.volume.now c.args.kind) c.args.volume.now (λ x. x.size) (λ x. c.args.kind) c.guarantee-made.new.self c.guarantee-made.result c.guarantee-made.ensures.promises silent (c.self.invariant.2 fresh),
)
