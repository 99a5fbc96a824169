use Rattle.std.proofs.Common.{◌∙◌, Some, None, refl, sym}
use Rattle.fv_snapshot.proofs.InUse.{used_in}
use Rattle.fv_snapshot.proofs.deleting.is_used.Goals as goal

pub returns-in-Some-named : goal.returns-in-Some-named
returns-in-Some-named c = c.is_snap_stood_on.ensures ∙ sym (used_in c.args.volumes.now c.args.slot c.args.name.now (Some c.in-Some.volume.now) (Some c.in-Some-named.snap.now) (sym c.in-Some.ensures) (sym c.in-Some-named.ensures))

pub returns-in-None-named : goal.returns-in-None-named
returns-in-None-named c = sym (used_in c.args.volumes.now c.args.slot c.args.name.now (Some c.in-Some.volume.now) None (sym c.in-Some.ensures) (sym c.in-None-named.ensures))

pub returns-in-None : goal.returns-in-None
returns-in-None c = sym (used_in c.args.volumes.now c.args.slot c.args.name.now None None (sym c.in-None.ensures) refl)
