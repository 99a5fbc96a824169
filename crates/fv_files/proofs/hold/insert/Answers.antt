use Rattle.std.proofs.Common.{ap, ◌∙◌, arith}
use Rattle.std.specs.Prelude.{unwrap_or}
use Rattle.std.specs.Option.{option_map}
use Rattle.fv_files.specs.Pending.{pending_trees, tree_cost}
use Rattle.fv_files.proofs.Sums.{any_cost, put_cost, put_fits, put_kept}
use Rattle.fv_files.proofs.hold.insert.Goals as goal

pub recounted-trees-inside-requires-clause-there : goal.recounted-trees-inside-requires-clause-there
recounted-trees-inside-requires-clause-there c =
    let was = ap (λ o. unwrap_or (option_map tree_cost o) 0) c.in-Ok.ensures.old in
    let most = any_cost c.trees.inside.by_number c.args.number in
    omega (arith, c.cost_of_any.ensures, was, most, c.trees.invariant)

pub recounted-trees-inside-requires-clause-fits : goal.recounted-trees-inside-requires-clause-fits
recounted-trees-inside-requires-clause-fits c =
    let was = ap (λ o. unwrap_or (option_map tree_cost o) 0) c.in-Ok.ensures.old in
    let fits = put_fits c.trees.inside.by_number c.insert.new.self c.args.number c.args.tree c.insert.ensures.was_ordered c.in-Ok.ensures.entries (omega (arith, c.len.ensures.small, c.len.ensures.len)) c.trees.inside.cost c.cost_of_any.result c.trees.invariant (c.cost_of_any.ensures ∙ was) in
    omega (arith, fits, c.cost_of-now.ensures)

pub invariant_of-trees : goal.invariant_of-trees
invariant_of-trees c =
    let was = ap (λ o. unwrap_or (option_map tree_cost o) 0) c.in-Ok.ensures.old in
    put_kept c.trees.inside.by_number c.insert.new.self c.args.number c.args.tree c.insert.ensures.was_ordered c.in-Ok.ensures.entries c.trees.inside.cost c.cost_of_any.result c.recounted-trees-inside.result c.trees.invariant (c.cost_of_any.ensures ∙ was)
    (omega (arith, c.recounted-trees-inside.ensures, c.cost_of-now.ensures))

pub returns-in-Ok-clause-cost : goal.returns-in-Ok-clause-cost
returns-in-Ok-clause-cost c =
    let more = put_cost c.trees.inside.by_number c.insert.new.self c.args.number c.args.tree c.insert.ensures.was_ordered c.in-Ok.ensures.entries in
    let same = ap pending_trees c.trees.view_is in
    omega (arith, more, same)
