use Rattle.std.proofs.Common.{refl, cond, None, sym, ap, ◌∙◌, arith}
use Rattle.std.specs.BTreeMap as maps
use Rattle.fv_model.specs.Trees.{spot_cmp}
use Rattle.fv_tree.proofs.Differing.{node_fewer, node_mark, node_weight, some_count}
use Rattle.fv_tree.proofs.MapMarks.{counted, left_kept, no_more}
use Rattle.fv_tree.proofs.Spots.{spot_differs}
use Rattle.fv_tree.specs.Flushing.{node_changed}
use Rattle.fv_tree.proofs.placing.forget_node.Goals as goal

pub returns-clause-forgets : goal.returns-clause-forgets
returns-clause-forgets c = record {
  owner = refl;
  levels = refl;
  root = refl;
  cells = refl;
  own = c.remove-gone.ensures.updates.1;
  others = λ k q other. c.remove-gone.ensures.updates.0 (k, q) ∙ ap (λ b. cond b None (maps.get spot_cmp c.args.tree.now.nodes (k, q))) (spot_differs c.args.level c.args.place k q other);
}

pub returns-clause-changes : goal.returns-clause-changes
returns-clause-changes c = no_more spot_cmp node_mark c.args.tree.now.nodes c.remove-gone.new.self (c.args.level, c.args.place) c.remove-gone.ensures.entries

pub returns-clause-fewer : goal.returns-clause-fewer
returns-clause-fewer c = node_fewer c.args.tree.now.nodes c.remove-gone.new.self (c.args.level, c.args.place) c.remove-gone.ensures.entries

pub recounted-tree-requires-clause-before : goal.recounted-tree-requires-clause-before
recounted-tree-requires-clause-before c = λ was.
    let some = some_count c.args.tree.now.nodes (c.args.level, c.args.place) (ap node_changed (sym c.remove-gone.ensures.value) ∙ sym c.differed.ensures ∙ was) in
    omega (arith, some, c.args.tree.now.counted_nodes)

pub invariant_of-tree-clause-counted_nodes : goal.invariant_of-tree-clause-counted_nodes
invariant_of-tree-clause-counted_nodes c =
    let was = ap node_changed (sym c.remove-gone.ensures.value) ∙ sym c.differed.ensures in
    left_kept spot_cmp node_mark c.args.tree.now.nodes c.remove-gone.new.self (c.args.level, c.args.place) c.remove-gone.ensures.entries c.args.tree.now.changed_nodes c.recounted-tree.result c.differed.result
    (node_weight (maps.get spot_cmp c.args.tree.now.nodes (c.args.level, c.args.place)) ∙ ap counted was) c.args.tree.now.counted_nodes c.recounted-tree.ensures
