use Rattle.std.proofs.Common.{◌≡◌, ℕ, Some, true, rules, ap, sym, ◌∙◌}
use Rattle.fv_model.specs.Numbers.{is_index, is_reserve}
use Rattle.fv_model.specs.declared.commands.Command.TheVariants.{New}
use Rattle.fv_aggregate.specs.declared.aiming.Task.TheVariants as task
use Rattle.fv_aggregate.specs.Commands.{changed_by, has_range, snapped_by, volume_asked}
use Rattle.fv_aggregate.proofs.Aimed.{aims_over, fits_over}
use Rattle.fv_aggregate.proofs.session.Session.aim.Goals as goal

pub returns-in-Get : goal.returns-in-Get
returns-in-Get c =
    let same : c.from.result ≡ c.in-Get.index = search rules in
    record { aims = aims_over _ _ c.self.view_is c.args.command.now c.in-Get.volume c.in_index.result task.Look c.aim_at.result (ap volume_asked c.in-Get.is) (ap has_range c.in-Get.is ∙ ap is_index (sym same) ∙ sym c.in_index.ensures) c.aim_at.ensures; fits = fits_over _ _ c.self.view_is c.requires.fresh c.self.invariant.0 }

pub returns-in-Len : goal.returns-in-Len
returns-in-Len c = record { aims = aims_over _ _ c.self.view_is c.args.command.now c.in-Len.volume true task.Look c.aim_at-in-Len.result (ap volume_asked c.in-Len.is) (ap has_range c.in-Len.is) c.aim_at-in-Len.ensures; fits = fits_over _ _ c.self.view_is c.requires.fresh c.self.invariant.0 }

pub returns-in-Ls : goal.returns-in-Ls
returns-in-Ls c = record { aims = aims_over _ _ c.self.view_is c.args.command.now c.in-Ls.volume true task.Look c.aim_at-in-Ls.result (ap volume_asked c.in-Ls.is) (ap has_range c.in-Ls.is) c.aim_at-in-Ls.ensures; fits = fits_over _ _ c.self.view_is c.requires.fresh c.self.invariant.0 }

pub returns-in-Probe : goal.returns-in-Probe
returns-in-Probe c =
    let same : c.from-in-Probe.result ≡ c.in-Probe.index = search rules in
    record { aims = aims_over _ _ c.self.view_is c.args.command.now c.in-Probe.volume c.in_index-in-Probe.result task.Look c.aim_at-in-Probe.result (ap volume_asked c.in-Probe.is) (ap has_range c.in-Probe.is ∙ ap is_index (sym same) ∙ sym c.in_index-in-Probe.ensures) c.aim_at-in-Probe.ensures; fits = fits_over _ _ c.self.view_is c.requires.fresh c.self.invariant.0 }

pub returns-in-New-default-default-eq0 : goal.returns-in-New-default-default-eq0
returns-in-New-default-default-eq0 c =
    let none : c.in-New-default-default-eq0.reserve ≡ 0 = search rules in
    let change : changed_by c.args.command.now ≡ Some c.in-New-default-default-eq0.volume = ap changed_by c.in-New-default-default-eq0.is ∙ ap (λ (r : ℕ). changed_by (New c.in-New-default-default-eq0.volume c.in-New-default-default-eq0.file r)) none in
    record { aims = aims_over _ _ c.self.view_is c.args.command.now c.in-New-default-default-eq0.volume true task.Change c.aim_at-in-New-default-default-eq0.result change (ap has_range c.in-New-default-default-eq0.is) c.aim_at-in-New-default-default-eq0.ensures; fits = fits_over _ _ c.self.view_is c.requires.fresh c.self.invariant.0 }

pub returns-in-Put : goal.returns-in-Put
returns-in-Put c =
    let same : c.from-in-Put.result ≡ c.in-Put.index = search rules in
    record { aims = aims_over _ _ c.self.view_is c.args.command.now c.in-Put.volume c.in_index-in-Put.result task.Change c.aim_at-in-Put.result (ap changed_by c.in-Put.is) (ap has_range c.in-Put.is ∙ ap is_index (sym same) ∙ sym c.in_index-in-Put.ensures) c.aim_at-in-Put.ensures; fits = fits_over _ _ c.self.view_is c.requires.fresh c.self.invariant.0 }

pub returns-in-Cut : goal.returns-in-Cut
returns-in-Cut c =
    let same : c.from-in-Cut.result ≡ c.in-Cut.length = search rules in
    record { aims = aims_over _ _ c.self.view_is c.args.command.now c.in-Cut.volume c.in_reserve.result task.Change c.aim_at-in-Cut.result (ap changed_by c.in-Cut.is) (ap has_range c.in-Cut.is ∙ ap is_reserve (sym same) ∙ sym c.in_reserve.ensures) c.aim_at-in-Cut.ensures; fits = fits_over _ _ c.self.view_is c.requires.fresh c.self.invariant.0 }

pub returns-in-Remove : goal.returns-in-Remove
returns-in-Remove c = record { aims = aims_over _ _ c.self.view_is c.args.command.now c.in-Remove.volume true task.Change c.aim_at-in-Remove.result (ap changed_by c.in-Remove.is) (ap has_range c.in-Remove.is) c.aim_at-in-Remove.ensures; fits = fits_over _ _ c.self.view_is c.requires.fresh c.self.invariant.0 }

pub returns-in-SnapCreate : goal.returns-in-SnapCreate
returns-in-SnapCreate c = record { aims = aims_over _ _ c.self.view_is c.args.command.now c.in-SnapCreate.volume true task.Snap c.aim_at-in-SnapCreate.result (ap snapped_by c.in-SnapCreate.is) (ap has_range c.in-SnapCreate.is) c.aim_at-in-SnapCreate.ensures; fits = fits_over _ _ c.self.view_is c.requires.fresh c.self.invariant.0 }

pub returns-in-SnapDelete : goal.returns-in-SnapDelete
returns-in-SnapDelete c = record { aims = aims_over _ _ c.self.view_is c.args.command.now c.in-SnapDelete.volume true task.Snap c.aim_at-in-SnapDelete.result (ap snapped_by c.in-SnapDelete.is) (ap has_range c.in-SnapDelete.is) c.aim_at-in-SnapDelete.ensures; fits = fits_over _ _ c.self.view_is c.requires.fresh c.self.invariant.0 }

pub returns-in-SnapRestore : goal.returns-in-SnapRestore
returns-in-SnapRestore c = record { aims = aims_over _ _ c.self.view_is c.args.command.now c.in-SnapRestore.volume true task.Snap c.aim_at-in-SnapRestore.result (ap snapped_by c.in-SnapRestore.is) (ap has_range c.in-SnapRestore.is) c.aim_at-in-SnapRestore.ensures; fits = fits_over _ _ c.self.view_is c.requires.fresh c.self.invariant.0 }
