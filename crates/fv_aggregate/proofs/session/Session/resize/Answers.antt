use Rattle.fv_model.specs.declared.commands.Command.TheVariants.{VolResize}
use Rattle.fv_aggregate.specs.Parts.{silent}
use Rattle.fv_aggregate.proofs.Resized.{fit_resized, promised_by, ready_resized}
use Rattle.fv_aggregate.proofs.session.Session.resize.Goals as goal

pub returns : goal.returns
returns c = promised_by _ _ c.self.view_is (VolResize c.args.volume.now c.args.size) c.args.volume.now (λ x. c.args.size) (λ x. x.kind) c.resize-made.new.self c.resize-made.result c.resize-made.ensures.promises _ c.tell.ensures

pub invariant_of-self : goal.invariant_of-self
invariant_of-self c = (
  λ fresh.
      fit_resized (record { volumes = c.self.inside.volumes; pool = c.self.inside.pool; delays = c.self.inside.delays; pending = c.self.inside.pending; failed = c.self.inside.failed })
      (VolResize c.args.volume.now c.args.size) c.args.volume.now (λ x. c.args.size) (λ x. x.kind) c.resize-made.new.self (c.self.invariant.0 fresh) c.resize-made.result c.resize-made.ensures.promises,
  λ fresh. c.resize-made.ensures.sum,
  λ fresh.
      ready_resized (record { volumes = c.self.inside.volumes; pool = c.self.inside.pool; delays = c.self.inside.delays; pending = c.self.inside.pending; failed = c.self.inside.failed })
      (VolResize c.args.volume.now c.args.size) c.args.volume.now (λ x. c.args.size) (λ x. x.kind) c.resize-made.new.self c.resize-made.result c.resize-made.ensures.promises silent (c.self.invariant.2 fresh),
)
