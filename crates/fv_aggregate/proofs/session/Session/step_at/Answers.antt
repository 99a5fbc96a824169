use Rattle.std.proofs.Common.{◌≡◌, false, sym, subst, ◌∙◌}
use Rattle.fv_volume.specs.States.{state_at}
use Rattle.fv_aggregate.specs.declared.session.Session.{Session}
use Rattle.fv_aggregate.specs.Working.{is_unclean}
use Rattle.fv_aggregate.proofs.WorkedCalls.{idle_step}
use Rattle.fv_aggregate.proofs.session.Session.step_at.Goals as goal

pub returns-else-is_unclean : goal.returns-else-is_unclean
returns-else-is_unclean g c =
    idle_step (g.D.Disk.shown c.args.disk.now) (g.met.D.Disk.laws c.args.disk.now) c.args.self.now c.requires.fresh
    c.requires.stands c.requires.none c.args.slot
    (subst (λ (n : Session). is_unclean (state_at n.volumes c.args.slot) ≡ false) c.self.view_is
    (sym c.is_unclean.ensures ∙ c.if-is_unclean.false))
