use Rattle.std.proofs.Common.{sym, arith, Some, cond, ap, ◌∙◌, nat_eq, ◌&&◌}
use Rattle.std.specs.Option.{option_map}
use Rattle.std.specs.BTreeMap as tree
use Rattle.fv_model.specs.Trees.{spot_cmp}
use Rattle.fv_tree.specs.declared.kept.KeptNode.{KeptNode}
use Rattle.fv_tree.proofs.Differing.{node_mark, node_weight, some_count, spot_total}
use Rattle.fv_tree.proofs.MapMarks.{counted, put_kept, put_none, put_one, same_count}
use Rattle.fv_tree.proofs.Spots.{same_spot, mapped}
use Rattle.fv_tree.specs.Flushing.{node_changed}
use Rattle.fv_tree.proofs.keep.keep.Goals as goal

pub returns-in-Ok-clause-node : goal.returns-in-Ok-clause-node
returns-in-Ok-clause-node c = λ k q.
    ap (option_map (λ (kept : KeptNode). kept.children)) (c.in-Ok.ensures.updates.0 (k, q)) ∙ mapped (λ (kept : KeptNode). kept.children) _ (nat_eq k c.args.level && nat_eq q c.args.place) _ _ (same_spot c.args.level c.args.place k q)

pub returns-in-Ok-clause-kept : goal.returns-in-Ok-clause-kept
returns-in-Ok-clause-kept c = λ k q.
    c.in-Ok.ensures.updates.0 (k, q) ∙ ap (λ b. cond b (Some c.args.node) (tree.get spot_cmp c.args.tree.now.nodes (k, q))) (same_spot c.args.level c.args.place k q)

pub returns-in-Ok-clause-changes : goal.returns-in-Ok-clause-changes
returns-in-Ok-clause-changes c = put_one spot_cmp node_mark c.args.tree.now.nodes c.insert.new.self spot_total (c.args.level, c.args.place) c.args.node c.insert.ensures.was_ordered c.in-Ok.ensures.entries

pub returns-in-Ok-clause-unchanged : goal.returns-in-Ok-clause-unchanged
returns-in-Ok-clause-unchanged c = put_none spot_cmp node_mark c.args.tree.now.nodes c.insert.new.self spot_total (c.args.level, c.args.place) c.args.node c.insert.ensures.was_ordered c.in-Ok.ensures.entries

pub returns-in-Err-clause-changes : goal.returns-in-Err-clause-changes
returns-in-Err-clause-changes c = let same = same_count spot_cmp node_mark c.args.tree.now.nodes c.insert.new.self c.in-Err.ensures.err in omega (arith, same)

pub returns-in-Err-clause-unchanged : goal.returns-in-Err-clause-unchanged
returns-in-Err-clause-unchanged c = λ _. same_count spot_cmp node_mark c.args.tree.now.nodes c.insert.new.self c.in-Err.ensures.err

pub recounted-tree-requires-clause-before : goal.recounted-tree-requires-clause-before
recounted-tree-requires-clause-before c = λ was.
    let some = some_count c.args.tree.now.nodes (c.args.level, c.args.place) (ap node_changed (sym c.in-Ok.ensures.old) ∙ sym c.differed.ensures ∙ was) in
    omega (arith, some, c.args.tree.now.counted_nodes)

pub invariant_of-tree-clause-counted_nodes : goal.invariant_of-tree-clause-counted_nodes
invariant_of-tree-clause-counted_nodes c =
    let was = ap node_changed (sym c.in-Ok.ensures.old) ∙ sym c.differed.ensures in
    put_kept spot_cmp node_mark c.args.tree.now.nodes c.insert.new.self spot_total (c.args.level, c.args.place) c.args.node c.insert.ensures.was_ordered c.in-Ok.ensures.entries c.args.tree.now.changed_nodes c.recounted-tree.result c.differed.result
    (node_weight (tree.get spot_cmp c.args.tree.now.nodes (c.args.level, c.args.place)) ∙ ap counted was) c.args.tree.now.counted_nodes c.recounted-tree.ensures
