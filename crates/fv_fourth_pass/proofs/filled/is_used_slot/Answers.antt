use Rattle.std.proofs.Common.{◌≤◌, arith, ◌∙◌}
use Rattle.std.proofs.lemmas.Bool.Decides.{nat_tests}
use Rattle.fv_image.specs.Views.{head_of}
use Rattle.fv_fourth_pass.proofs.Filling.{used_first, used_later}
use Rattle.fv_fourth_pass.proofs.filled.is_used_slot.Goals as goal

pub returns-then-slot-eq0 : goal.returns-then-slot-eq0
returns-then-slot-eq0 c = used_first (head_of c.args.label.now) c.args.slot (let test = c.if-slot-eq0.true in grind (arith, nat_tests, test))

pub returns : goal.returns
returns c =
    let low : 1 ≤ c.args.slot = (let apart = c.if-slot-eq0.false in omega (arith, apart)) in
    c.is_some.ensures ∙ used_later (head_of c.args.label.now) c.args.slot c.snap_table.result c.if-slot-eq0.false (c.snap_table.ensures.table low c.requires.low)
