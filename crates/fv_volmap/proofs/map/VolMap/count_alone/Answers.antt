use Rattle.std.proofs.Common.{◌≡◌, ℕ, suc, ◌-◌, List, ◌∷◌, Some, take, ap, sym, ◌∙◌, arith}
use Rattle.std.specs.Prelude.{count_by}
use Rattle.std.specs.List.{range_with_len}
use Rattle.fv_volmap.specs.Slots.{snapshot_count, Slot, Volume, has_alone, alone_in}
use Rattle.fv_volmap.proofs.Rows.{alone_past, alone_stored}
use Rattle.fv_volmap.proofs.map.VolMap.count_alone.Goals as goal

pub returns-then-at-self : goal.returns-then-at-self
unfolding alone_in
returns-then-at-self c =
    let inside = c.self.inside in
    let at : suc (c.args.slot - 1) ≡ c.args.slot = omega (arith, c.requires.above) in
    sym (alone_past (Some inside.active) inside.others.items inside.used (c.args.slot - 1) (range_with_len 0 inside.span) c.if-at-self.true c.self.invariant.used_to)
    ∙ ap (λ (n : ℕ). count_by (has_alone (Some inside.active ∷ take snapshot_count inside.others.items) n) (range_with_len 0 inside.span)) at
    ∙ ap (λ (m : Volume). alone_in m c.args.slot) c.self.view_is

pub returns : goal.returns
unfolding alone_in
returns c =
    let inside = c.self.inside in
    let at : suc (c.args.slot - 1) ≡ c.args.slot = omega (arith, c.requires.above) in
    let numbers = range_with_len 0 inside.span in
    c.count_alone.ensures
    ∙ ap (λ (slots : List Slot). count_by (has_alone (Some inside.active ∷ take inside.used slots) (suc (c.args.slot - 1))) numbers) c.deref.ensures.value
    ∙ alone_stored (Some inside.active) inside.others.items inside.used (c.args.slot - 1) numbers c.if-at-self.false c.self.invariant.used_to
    ∙ ap (λ (n : ℕ). count_by (has_alone (Some inside.active ∷ take snapshot_count inside.others.items) n) numbers) at
    ∙ ap (λ (m : Volume). alone_in m c.args.slot) c.self.view_is
