use Rattle.std.proofs.Common.{◌≡◌, ◌≢◌, ◌<◌, ◌≤◌, ◌⊎◌, ◌/◌, ◌^◌, ℕ, None}
use Rattle.std.specs.Ordering.{nat_cmp}
use Rattle.fv_tree.specs.Costs.{cells_changed, cells_held, pending}
use Rattle.fv_tree.specs.Carried.{MarksNoMore}
use Rattle.std.specs.BTreeMap as tree_map
use Rattle.fv_model.specs.Trees.{fan, spot_cmp}
use Rattle.fv_tree.proofs.erase.forget_way.Given as goal

abbrev pub invariant-loop-below : goal.invariant-loop-below
invariant-loop-below l = record {
  owner : l.tree.owner ≡ l.fn.tree.owner;
  levels : l.tree.levels ≡ l.fn.tree.levels;
  root : l.tree.root ≡ l.fn.tree.root;
  cells : (i : ℕ) → i ≢ l.index → tree_map.get nat_cmp l.tree.cells i ≡ tree_map.get nat_cmp l.fn.tree.cells i;
  nodes : (level place : ℕ) → (l.below < level) ⊎ (place ≢ l.index / fan ^ level) → tree_map.get spot_cmp l.tree.nodes (level, place) ≡ tree_map.get spot_cmp l.fn.tree.nodes (level, place);
  pending : pending l.tree ≤ pending l.fn.tree;
  marks : MarksNoMore l.fn.tree l.tree;
  fewer : cells_changed l.tree.cells ≤ cells_changed l.fn.tree.cells;
  held : cells_held l.tree ≤ cells_held l.fn.tree;
  gone : (level : ℕ) → 1 ≤ level → level ≤ l.below → tree_map.get spot_cmp l.tree.nodes (level, l.index / fan ^ level) ≡ None;
}
