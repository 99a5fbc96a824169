use Rattle.std.proofs.Common.{◌≤◌, ◌<◌, arith, sym, ap, ◌∙◌}
use Rattle.fv_image.specs.Views.{head_of}
use Rattle.fv_fourth_pass.specs.Filled.{is_used_slot}
use Rattle.fv_fourth_pass.proofs.Filling.{kept_high, kept_low}
use Rattle.fv_fourth_pass.proofs.filled.is_kept.Goals as goal

pub returns-then-vvbn-span : goal.returns-then-vvbn-span
unfolding head_of
returns-then-vvbn-span c =
    let low : c.args.vvbn < c.args.label.now.span = (let is = c.if-vvbn-span.true in omega (arith, is)) in
    c.get.ensures ∙ sym (kept_low (head_of c.args.label.now) c.args.held.now c.args.vvbn low)

pub returns : goal.returns
unfolding head_of
returns c =
    let high : c.args.label.now.span ≤ c.args.vvbn = (let is = c.if-vvbn-span.false in omega (arith, is)) in
    c.is_used_slot.ensures ∙ ap (is_used_slot (head_of c.args.label.now)) c.map_slot.ensures.value
    ∙ sym (kept_high (head_of c.args.label.now) c.args.held.now c.args.vvbn high)
