use Rattle.std.proofs.Common.{None, get_or, ◌||◌, ap, sym, ◌∙◌}
use Rattle.fv_volmap.specs.Slots.{snapshot_count, has}
use Rattle.fv_volmap.proofs.Rows.{taken_with_base}
use Rattle.fv_volmap.proofs.slots.any_used_has.Goals as goal

pub returns-then-any_has : goal.returns-then-any_has
returns-then-any_has c =
    let others = c.args.others.now in
    let v = c.args.v in
    c.if-any_has.true
    ∙ ap (λ t. t || has v (get_or others snapshot_count None)) (sym c.if-any_has.true ∙ c.any_has.ensures)
    ∙ taken_with_base others c.args.used v None c.requires.count c.requires.used

pub returns-else-any_has : goal.returns-else-any_has
returns-else-any_has c =
    let others = c.args.others.now in
    let base = c.index-others-24.result in
    let v = c.args.v in
    c.has.ensures
    ∙ ap (has v) c.index-others-24.is
    ∙ ap (λ t. t || has v (get_or others snapshot_count base)) (sym c.if-any_has.false ∙ c.any_has.ensures)
    ∙ taken_with_base others c.args.used v base c.requires.count c.requires.used
