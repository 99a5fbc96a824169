use Rattle.std.proofs.Common.{◌||◌, take, ap, sym, ◌∙◌}
use Rattle.fv_volmap.specs.Slots.{snapshot_count, Volume, stored_count, taken_in}
use Rattle.fv_volmap.proofs.Rows.{taken_stored}
use Rattle.fv_volmap.proofs.map.VolMap.held.Goals as goal

pub returns-else-has_member : goal.returns-else-has_member
returns-else-has_member c =
    let inside = c.self.inside in
    let v = c.args.vvbn in
    c.any_has.ensures
    ∙ taken_stored c.deref.result.now inside.others.items inside.used v c.deref.ensures.value c.self.invariant.used_to
    ∙ ap (λ t. t || taken_in (take snapshot_count inside.others.items) v) (sym c.if-has_member.false ∙ c.has_member.ensures)
    ∙ ap (λ (map : Volume). taken_in (take stored_count map.slots) v) c.self.view_is
