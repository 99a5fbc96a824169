use Rattle.std.proofs.Common.{◌+◌, ◌≡◌, ◌≢◌, ◌≤◌, ◌<◌, ◌⊎◌, ◌/◌, ◌^◌, ℕ, true, is_some}
use Rattle.fv_model.specs.Trees.{fan}
use Rattle.fv_tree.specs.Standing.{node_in, IsSameBut}
use Rattle.fv_tree.specs.Flushing.{placed_in, changed_in}
use Rattle.fv_tree.specs.Carried.{kept_at}
use Rattle.fv_tree.specs.Costs.{changes_in}
use Rattle.fv_tree.proofs.refill.mark_path.Given as goal

abbrev pub invariant-loop-below : goal.invariant-loop-below
invariant-loop-below l = record {
  fields : IsSameBut l.fn.tree l.tree;
  changes : changes_in l.tree.nodes ≤ changes_in l.fn.tree.nodes + l.below;
  nodes : (level place : ℕ) → node_in l.tree level place ≡ node_in l.fn.tree level place;
  placed : (level place : ℕ) → placed_in l.tree.nodes level place ≡ placed_in l.fn.tree.nodes level place;
  marked : (level : ℕ) → 1 ≤ level → level ≤ l.below → is_some (kept_at l.fn.tree level (l.index / fan ^ level)) ≡ true → changed_in l.tree.nodes level (l.index / fan ^ level) ≡ true;
  unmarked : (level place : ℕ) → (place ≢ l.index / fan ^ level) ⊎ (l.below < level) → kept_at l.tree level place ≡ kept_at l.fn.tree level place;
}
