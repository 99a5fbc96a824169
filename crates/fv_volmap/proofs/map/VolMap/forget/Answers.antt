use Rattle.std.proofs.Common.{◌-◌, subst}
use Rattle.fv_volmap.specs.Kept.{AreUsedTo}
use Rattle.fv_volmap.proofs.Rows.{kept_less}
use Rattle.fv_volmap.proofs.map.VolMap.forget.Goals as goal

pub invariant_of-self : goal.invariant_of-self
invariant_of-self c =
    let inside = c.self.inside in
    let used = c.used_count-self-inside.result in
    kept_less inside.span inside.active inside.others.items inside.used inside.union inside.united inside.next (c.args.slot - 1) used c.self.invariant (subst (AreUsedTo used) c.deref.ensures.value c.used_count-self-inside.ensures)
