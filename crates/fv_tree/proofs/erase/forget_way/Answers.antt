use Rattle.std.proofs.Common.{◌≡◌, ◌≢◌, ◌<◌, ◌+◌, ◌/◌, ◌^◌, ◌⊎◌, inl, inr, ℕ, sym, ap, ◌∙◌, arith}
use Rattle.std.specs.BTreeMap as tree
use Rattle.std.specs.Ordering.{nat_cmp}
use Rattle.std.proofs.lemmas.Bool.{cases_eq}
use Rattle.fv_model.specs.Trees.{fan, Spot, spot_cmp}
use Rattle.fv_tree.specs.declared.kept.KeptCell.{KeptCell}
use Rattle.fv_tree.specs.declared.kept.KeptNode.{KeptNode}
use Rattle.fv_tree.specs.Costs.{cells_changed, cells_held, changes_in}
use Rattle.fv_tree.specs.Flushing.{node_changed}
use Rattle.fv_tree.proofs.Bordered.{forgotten_marks}
use Rattle.fv_tree.proofs.erase.forget_way.Goals as goal

-- what stays is none of what goes next
apart : (i below width level place : ℕ) → width ≡ fan ^ (below + 1) → (below + 1 < level) ⊎ (place ≢ i / fan ^ level) → (level ≢ below + 1) ⊎ (place ≢ i / width)
apart i below width level place is (inl lt) = inl (omega (arith, lt))
apart i below width level place is (inr differs) = elim (cases_eq level (below + 1)) [
  | inl same ↦ inr (λ e. differs (e ∙ (λ j. i / is j) ∙ ap (λ k. i / fan ^ k) (sym same)))
  | inr other ↦ inl other
]

before : (i below level place : ℕ) → (below + 1 < level) ⊎ (place ≢ i / fan ^ level) → (below < level) ⊎ (place ≢ i / fan ^ level)
before i below level place (inl lt) = inl (omega (arith, lt))
before i below level place (inr differs) = inr differs

pub loop-below-init : goal.loop-below-init
loop-below-init c =
    let gone = c.forget_cell.ensures.forgets in
    let same : changes_in c.forget_cell.new.tree.nodes ≡ changes_in c.args.tree.now.nodes = ap changes_in gone.nodes in record {
      owner = gone.owner;
      levels = gone.levels;
      root = gone.root;
      cells = gone.others;
      nodes = λ level place other. ap (λ (nodes : tree.BTreeMap Spot KeptNode). tree.get spot_cmp nodes (level, place)) gone.nodes;
      pending = omega (arith, c.forget_cell.ensures.changes, same);
      marks = λ level place changed. ap (λ (nodes : tree.BTreeMap Spot KeptNode). node_changed (tree.get spot_cmp nodes (level, place))) (sym gone.nodes) ∙ changed;
      fewer = c.forget_cell.ensures.changes;
      held = c.forget_cell.ensures.held;
      gone = λ level low high. absurd (omega (arith, low, high));
    }

pub loop-below-preserved : goal.loop-below-preserved
loop-below-preserved c =
    let was = c.loop-below.invariant in
    let gone = c.forget_node.ensures.forgets in
    let cells : cells_changed c.forget_node.new.tree.cells ≡ cells_changed c.loop-below.tree.cells = ap cells_changed gone.cells in
    let held : cells_held c.forget_node.new.tree ≡ cells_held c.loop-below.tree = ap (λ (m : tree.BTreeMap ℕ KeptCell). tree.btree_map_len m) gone.cells in record {
      owner = gone.owner ∙ was.owner;
      levels = gone.levels ∙ was.levels;
      root = gone.root ∙ was.root;
      cells = λ i differs. ap (λ (m : tree.BTreeMap ℕ KeptCell). tree.get nat_cmp m i) gone.cells ∙ was.cells i differs;
      nodes = λ level place other.
          gone.others level place (apart c.args.index c.loop-below.below c.width.result level place c.width.ensures.is other)
          ∙ was.nodes level place (before c.args.index c.loop-below.below level place other);
      pending = omega (arith, was.pending, c.forget_node.ensures.changes, cells);
      marks = λ level place changed. was.marks level place (forgotten_marks c.loop-below.tree.nodes c.forget_node.new.tree.nodes (c.loop-below.below + 1) (c.args.index / c.width.result) gone.own gone.others level place changed);
      fewer = omega (arith, was.fewer, cells);
      held = omega (arith, was.held, held);
      gone = λ level low high. elim (cases_eq level (c.loop-below.below + 1)) [
        | inl same ↦
            (λ j. tree.get spot_cmp c.forget_node.new.tree.nodes (same j, c.args.index / fan ^ same j))
            ∙ ap (λ w. tree.get spot_cmp c.forget_node.new.tree.nodes (c.loop-below.below + 1, c.args.index / w)) (sym c.width.ensures.is)
            ∙ gone.own
        | inr other ↦
            gone.others level (c.args.index / fan ^ level) (inl other)
            ∙ was.gone level low (omega (arith, high, other))
      ];
    }
