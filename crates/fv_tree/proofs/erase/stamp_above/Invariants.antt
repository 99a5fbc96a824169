use Rattle.std.proofs.Common.{◌+◌, ◌-◌, ◌≡◌, ◌≢◌, ◌≤◌, ◌<◌, ◌⊎◌, ◌/◌, ◌^◌, ℕ, true, is_some}
use Rattle.std.specs.BTreeMap as tree_map
use Rattle.std.specs.Option.{option_map}
use Rattle.fv_model.specs.Trees.{fan, spot_cmp}
use Rattle.fv_tree.specs.Standing.{node_in}
use Rattle.fv_tree.specs.Costs.{changes_in}
use Rattle.fv_tree.specs.Writing.{stamped, stamped_in, slot_of}
use Rattle.fv_tree.specs.Flushing.{placed_in, changed_in}
use Rattle.fv_tree.proofs.erase.stamp_above.Given as goal

abbrev pub invariant-loop-below : goal.invariant-loop-below
invariant-loop-below l = record {
  owner : l.tree.owner ≡ l.fn.tree.owner;
  levels : l.tree.levels ≡ l.fn.tree.levels;
  cells : l.tree.cells ≡ l.fn.tree.cells;
  root : l.tree.root ≡ stamped l.fn.tree.root l.stamp;
  way : (level : ℕ) → l.lowest < level → level ≤ l.below → node_in l.tree level (l.index / fan ^ level) ≡ option_map (stamped_in (slot_of l.index level) l.stamp) (node_in l.fn.tree level (l.index / fan ^ level));
  later : (level place : ℕ) → l.below < level → node_in l.tree level place ≡ node_in l.fn.tree level place;
  others : (level place : ℕ) → (level ≤ l.lowest) ⊎ (place ≢ l.index / fan ^ level) → node_in l.tree level place ≡ node_in l.fn.tree level place;
  changes : changes_in l.tree.nodes ≤ changes_in l.fn.tree.nodes + (l.below - l.lowest);
  placed : (level place : ℕ) → placed_in l.tree.nodes level place ≡ placed_in l.fn.tree.nodes level place;
  changed : (level : ℕ) → l.lowest < level → level ≤ l.below → is_some (tree_map.get spot_cmp l.fn.tree.nodes (level, l.index / fan ^ level)) ≡ true → changed_in l.tree.nodes level (l.index / fan ^ level) ≡ true;
  after : (level place : ℕ) → l.below < level → tree_map.get spot_cmp l.tree.nodes (level, place) ≡ tree_map.get spot_cmp l.fn.tree.nodes (level, place);
  ordered : tree_map.IsOrdered spot_cmp l.fn.tree.nodes → tree_map.IsOrdered spot_cmp l.tree.nodes;
  same : (level place : ℕ) → (level ≤ l.lowest) ⊎ (place ≢ l.index / fan ^ level) → tree_map.get spot_cmp l.tree.nodes (level, place) ≡ tree_map.get spot_cmp l.fn.tree.nodes (level, place);
}
