use Rattle.std.proofs.Common.{◌≡◌, ◌≢◌, ◌≤◌, ◌/◌, ◌^◌, ℕ, Some, replicate}
use Rattle.fv_model.specs.Trees.{fan}
use Rattle.fv_tree.specs.Spelled.{hole}
use Rattle.fv_tree.specs.Carried.{kept_at, BringsNew, IsBlank}
use Rattle.fv_tree.specs.Standing.{node_in, IsSameBut}
use Rattle.fv_tree.specs.Costs.{changes_in}
use Rattle.fv_tree.proofs.grow.keep_new_path.Given as goal

abbrev pub invariant-loop-below : goal.invariant-loop-below
invariant-loop-below l = record {
  fields : IsSameBut l.fn.tree l.tree;
  changes : changes_in l.tree.nodes ≤ changes_in l.fn.tree.nodes;
  way : (level : ℕ) → 1 ≤ level → level ≤ l.below → node_in l.tree level (l.index / fan ^ level) ≡ Some (replicate 128 hole);
  brings : BringsNew l.fn.tree l.tree l.index;
  blank : (level : ℕ) → 1 ≤ level → level ≤ l.below → IsBlank (kept_at l.tree level (l.index / fan ^ level));
  others : (level place : ℕ) → place ≢ l.index / fan ^ level → node_in l.tree level place ≡ node_in l.fn.tree level place;
}
