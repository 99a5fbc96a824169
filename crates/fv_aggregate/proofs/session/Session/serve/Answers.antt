use Rattle.std.proofs.Common.{Ok, sym, subst}
use Rattle.fv_model.specs.declared.answers.Reply.{Reply}
use Rattle.fv_aggregate.specs.Applying.{HasApplied}
use Rattle.fv_aggregate.proofs.Aimed.{refused_applied}
use Rattle.fv_aggregate.proofs.session.Session.serve.Goals as goal

pub returns-in-Ok : goal.returns-in-Ok
returns-in-Ok g c = c.carry.ensures

pub returns-in-Err : goal.returns-in-Err
returns-in-Err g c =
    subst (λ (r : Reply). HasApplied c.args.command.now (g.D.Disk.shown c.args.disk.now) c.args.disk.now c.args.self.now c.args.steps.now (g.D.Disk.shown c.args.disk.now) c.args.disk.now c.args.self.now c.args.steps.now (Ok r)) (sym c.refuse.ensures)
    (refused_applied g.D.Disk.shown c.args.disk.now (g.met.D.Disk.laws c.args.disk.now) c.args.self.now c.requires.fresh c.requires.stands c.in-Err.ensures.fits c.args.command.now c.args.steps.now c.requires.served c.in-Err.refusal c.in-Err.ensures.aims)
