use Rattle.std.proofs.Common.{◌+◌, ◌-◌, ◌⊎◌, true, is_some, ◌≡◌, ◌≢◌, ◌≤◌, ◌<◌, ◌/◌, ◌^◌, ℕ}
use Rattle.std.specs.Option.{option_map}
use Rattle.fv_model.specs.Trees.{fan}
use Rattle.fv_tree.specs.Standing.{node_in}
use Rattle.fv_tree.specs.Flushing.{changed_in, placed_in}
use Rattle.fv_tree.specs.Carried.{kept_at}
use Rattle.fv_tree.specs.Costs.{changes_in}
use Rattle.fv_tree.specs.Writing.{stamped, stamped_in, slot_of}
use Rattle.fv_tree.proofs.write.stamp_path.Given as goal

abbrev pub invariant-loop-below : goal.invariant-loop-below
invariant-loop-below l = record {
  owner : l.tree.owner ≡ l.fn.tree.owner;
  levels : l.tree.levels ≡ l.fn.tree.levels;
  cells : l.tree.cells ≡ l.fn.tree.cells;
  root : l.tree.root ≡ stamped l.fn.tree.root l.stamp;
  way : (level : ℕ) → 1 ≤ level → level ≤ l.below → node_in l.tree level (l.index / fan ^ level) ≡ option_map (stamped_in (slot_of l.index level) l.stamp) (node_in l.fn.tree level (l.index / fan ^ level));
  later : (level place : ℕ) → l.below < level → node_in l.tree level place ≡ node_in l.fn.tree level place;
  changes : changes_in l.tree.nodes ≤ changes_in l.fn.tree.nodes + l.below;
  top : l.below ≡ l.fn.tree.levels → changed_in l.fn.tree.nodes l.fn.tree.levels (l.index / fan ^ l.fn.tree.levels) ≡ true → changes_in l.tree.nodes ≤ changes_in l.fn.tree.nodes + (l.fn.tree.levels - 1);
  again : ((level : ℕ) → 1 ≤ level → level ≤ l.fn.tree.levels → changed_in l.fn.tree.nodes level (l.index / fan ^ level) ≡ true) → changes_in l.tree.nodes ≤ changes_in l.fn.tree.nodes;
  placed : (level place : ℕ) → placed_in l.tree.nodes level place ≡ placed_in l.fn.tree.nodes level place;
  marked : (level : ℕ) → 1 ≤ level → level ≤ l.below → is_some (kept_at l.fn.tree level (l.index / fan ^ level)) ≡ true → changed_in l.tree.nodes level (l.index / fan ^ level) ≡ true;
  unmarked : (level place : ℕ) → (place ≢ l.index / fan ^ level) ⊎ (l.below < level) → kept_at l.tree level place ≡ kept_at l.fn.tree level place;
  others : (level place : ℕ) → place ≢ l.index / fan ^ level → node_in l.tree level place ≡ node_in l.fn.tree level place;
}
