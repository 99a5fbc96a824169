use Rattle.std.proofs.Common.{ℕ, ap, ◌∙◌, arith}
use Rattle.std.specs.Prelude.{unwrap_or}
use Rattle.std.specs.BTreeMap as maps
use Rattle.std.specs.Option.{option_map}
use Rattle.std.specs.Ordering.{nat_cmp}
use Rattle.fv_tree.specs.declared.kept.Tree.{Tree}
use Rattle.fv_files.specs.Pending.{pending_trees, tree_cost}
use Rattle.fv_files.proofs.Sums.{any_cost, out_cost, out_kept, out_less}
use Rattle.fv_files.proofs.remove.forget.Goals as goal

pub recounted-trees-inside-requires-clause-there : goal.recounted-trees-inside-requires-clause-there
recounted-trees-inside-requires-clause-there c =
    let held = c.trees.inside.by_number in
    let was = ap (λ o. unwrap_or (option_map tree_cost o) 0) c.remove-gone.ensures.value in
    let most = any_cost held c.args.number in
    omega (arith, c.cost_of_any.ensures, was, most, c.trees.invariant)

pub invariant_of-trees : goal.invariant_of-trees
invariant_of-trees c =
    let was = ap (λ o. unwrap_or (option_map tree_cost o) 0) c.remove-gone.ensures.value in
    out_kept c.trees.inside.by_number c.remove-gone.new.self c.args.number c.remove-gone.ensures.entries c.trees.inside.cost c.cost_of_any.result c.recounted-trees-inside.result c.trees.invariant (c.cost_of_any.ensures ∙ was) c.recounted-trees-inside.ensures

pub returns-clause-cost : goal.returns-clause-cost
returns-clause-cost c = λ t held.
    out_cost c.trees.inside.by_number c.remove-gone.new.self c.args.number c.remove-gone.ensures.entries t (ap (λ (m : maps.BTreeMap ℕ Tree). maps.get nat_cmp m c.args.number) c.trees.view_is ∙ held) ∙ ap pending_trees c.trees.view_is

pub returns-clause-fewer : goal.returns-clause-fewer
returns-clause-fewer c =
    let less = out_less c.trees.inside.by_number c.remove-gone.new.self c.args.number c.remove-gone.ensures.entries in
    let same = ap pending_trees c.trees.view_is in
    omega (arith, less, same)
