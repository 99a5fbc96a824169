use Rattle.std.proofs.Common.{◌≢◌, ◌≤◌, ◌<◌, ℕ, ◌+◌, ◌-◌, ◌/◌, ◌^◌}
use Rattle.fv_model.specs.Trees.{fan}
use Rattle.fv_tree.specs.Flushing.{pointer_in}
use Rattle.fv_tree.proofs.holding.holds_way.Given as goal

abbrev pub invariant-loop-level : goal.invariant-loop-level
invariant-loop-level l = record {
  high : l.level ≤ l.tree.levels + 1;
  way : (k : ℕ) → k < l.level → (pointer_in l.tree k (l.index / fan ^ k)).stamp ≢ 0;
}

abbrev pub decreases-loop-level : goal.decreases-loop-level
decreases-loop-level l = l.tree.levels + 1 - l.level
