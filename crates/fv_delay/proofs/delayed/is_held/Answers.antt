use Rattle.std.proofs.Common.{ℕ, sym, ap, ◌∙◌, arith}
use Rattle.fv_image.specs.Views.{map_slot}
use Rattle.fv_delay.specs.Delay.{is_used}
use Rattle.fv_delay.proofs.Held.{held_behind, held_below}
use Rattle.fv_delay.proofs.delayed.is_held.Goals as goal

pub returns-then-vvbn-span : goal.returns-then-vvbn-span
returns-then-vvbn-span c = c.held.ensures ∙ sym (held_below c.args.map.now c.args.vvbn (omega (arith, c.span_of-span.ensures, c.if-vvbn-span.true)))

pub returns-else-vvbn-span : goal.returns-else-vvbn-span
returns-else-vvbn-span c =
    c.is_used.ensures ∙ ap (is_used c.args.map.now) (c.map_slot.ensures.value ∙ ap (λ (n : ℕ). map_slot n c.args.vvbn) c.span_of-span.ensures)
    ∙ sym (held_behind c.args.map.now c.args.vvbn (omega (arith, c.span_of-span.ensures, c.if-vvbn-span.false)))
