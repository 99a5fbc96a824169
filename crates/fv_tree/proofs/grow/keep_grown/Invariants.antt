use Rattle.std.proofs.Common.{◌+◌, ◌-◌, ◌≡◌, ◌≢◌, ◌≤◌, ◌<◌, ◌⊎◌, ℕ}
use Rattle.fv_tree.specs.Carried.{kept_at, IsTop}
use Rattle.fv_tree.specs.Standing.{node_in, IsSameBut}
use Rattle.fv_tree.specs.Costs.{changes_in}
use Rattle.fv_tree.specs.Writing.{IsGrownNode, new_child}
use Rattle.fv_tree.proofs.grow.keep_grown.Given as goal

abbrev pub invariant-loop-below : goal.invariant-loop-below
invariant-loop-below l = record {
  fields : IsSameBut l.fn.tree l.tree;
  high : l.below ≤ 3;
  changes : changes_in l.tree.nodes ≤ changes_in l.fn.tree.nodes + (l.below - l.fn.tree.levels);
  lowest : l.below ≡ l.fn.tree.levels → l.child ≡ l.fn.tree.root;
  higher : l.below ≢ l.fn.tree.levels → l.child ≡ new_child l.stamp;
  grown : (level : ℕ) → l.fn.tree.levels < level → level ≤ l.below → IsGrownNode l.fn.tree l.tree l.stamp level;
  same : (level place : ℕ) → (level ≤ l.fn.tree.levels) ⊎ (place ≢ 0) → kept_at l.tree level place ≡ kept_at l.fn.tree level place;
  tops : (level : ℕ) → l.fn.tree.levels < level → level ≤ l.below → IsTop l.tree level;
  others : (level place : ℕ) → (level ≤ l.fn.tree.levels) ⊎ (place ≢ 0) → node_in l.tree level place ≡ node_in l.fn.tree level place;
}
