use Rattle.std.proofs.Common.{◌≡◌, ◌≤◌, ◌/◌, ◌^◌, ◌-◌, ℕ, List, Some}
use Rattle.fv_codec.specs.declared.pointer.Pointer.{Pointer}
use Rattle.fv_model.specs.Trees.{fan}
use Rattle.fv_tree.specs.Standing.{node_in}
use Rattle.fv_tree.specs.Writing.{slot_of}
use Rattle.fv_tree.specs.Unlinking.{HasNoOther}
use Rattle.fv_tree.proofs.erase.bare_levels.Given as goal

abbrev pub invariant-loop-level : goal.invariant-loop-level
invariant-loop-level l = record {
  few : l.level ≤ l.tree.levels;
  bare : (k : ℕ) → 1 ≤ k → k ≤ l.level → (xs : List Pointer) → node_in l.tree k (l.index / fan ^ k) ≡ Some xs → HasNoOther xs (slot_of l.index k);
}

abbrev pub decreases-loop-level : goal.decreases-loop-level
decreases-loop-level l = l.tree.levels - l.level
