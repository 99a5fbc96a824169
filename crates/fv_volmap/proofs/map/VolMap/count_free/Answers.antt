use Rattle.std.proofs.Common.{ℕ, ◌-◌, List, ◌∷◌, Some, ap, ◌∙◌}
use Rattle.std.specs.Prelude.{count_by, min, not}
use Rattle.std.specs.List.{range_with_len}
use Rattle.fv_volmap.specs.Slots.{Slot, Volume, taken_in}
use Rattle.fv_volmap.proofs.Counting.{counted_around}
use Rattle.fv_volmap.proofs.map.VolMap.count_free.Goals as goal

pub returns : goal.returns
returns c =
    let inside = c.self.inside in
    let p = λ (v : ℕ). not (taken_in (Some inside.active ∷ inside.others.items) v) in
    let behind = c.count_free-behind.ensures ∙ ap (λ (others : List Slot). min c.args.most (count_by (λ v. not (taken_in (Some inside.active ∷ others) v)) (range_with_len inside.next (inside.span - inside.next)))) c.deref.ensures.value in
    let before = c.count_free.ensures ∙ ap (λ (others : List Slot). min (c.args.most - c.count_free-behind.result) (count_by (λ v. not (taken_in (Some inside.active ∷ others) v)) (range_with_len 0 (inside.next - 0)))) c.deref-2.ensures.value in
    counted_around p inside.next inside.span c.args.most c.count_free-behind.result c.count_free.result c.self.invariant.next_within behind before
    ∙ ap (λ (m : Volume). min c.args.most (count_by (λ v. not (taken_in m.slots v)) (range_with_len 0 m.span))) c.self.view_is
