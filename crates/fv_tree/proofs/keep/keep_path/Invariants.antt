use Rattle.std.proofs.Common.{false, ◌≡◌, ◌≢◌, ◌≤◌, ◌<◌, ◌/◌, ◌^◌, ℕ}
use Rattle.fv_model.specs.Trees.{fan}
use Rattle.fv_tree.specs.Spelled.{pointer_at}
use Rattle.fv_tree.specs.Keeping.{IsKept}
use Rattle.fv_tree.specs.Standing.{standing, under, node_in}
use Rattle.fv_tree.specs.Readying.{KeepsReady}
use Rattle.fv_tree.specs.Flushing.{placed_in, pointer_in}
use Rattle.std.proofs.Common.{Ok}
use Rattle.fv_tree.specs.Calls.{Loading}
use Rattle.fv_tree.proofs.keep.keep_path.Given as goal

abbrev pub invariant-loop-level : goal.invariant-loop-level
invariant-loop-level g l = record {
  high : l.level ≤ l.fn.tree.levels;
  pointer : g.B.Blocks.told → l.pointer ≡ pointer_at (standing (under (g.B.Blocks.shown l.blocks)) l.tree) l.level (l.index / fan ^ l.level);
  kept : g.B.Blocks.told → (k : ℕ) → l.level < k → k ≤ l.fn.tree.levels → IsKept (standing (under (g.B.Blocks.shown l.blocks)) l.tree) k (l.index / fan ^ k);
  unplaced : g.B.Blocks.told → (k : ℕ) → l.level < k → k ≤ l.fn.tree.levels → (pointer_at (standing (under (g.B.Blocks.shown l.fn.blocks)) l.fn.tree) k (l.index / fan ^ k)).stamp ≡ 0 → placed_in l.tree.nodes k (l.index / fan ^ k) ≡ false;
  loading : Loading {T = ℕ} g.B.Blocks.told (g.B.Blocks.reads l.fn.blocks l.blocks) (g.B.Blocks.shown l.fn.blocks) (g.B.Blocks.shown l.blocks) l.fn.tree l.tree (Ok 0);
  keeps_ready : KeepsReady l.fn.tree l.tree;
  here : l.pointer ≡ pointer_in l.tree l.level (l.index / fan ^ l.level);
  below : (k place : ℕ) → k ≤ l.level → node_in l.tree k place ≡ node_in l.fn.tree k place;
  way : l.pointer.stamp ≢ 0 → (k : ℕ) → l.level ≤ k → k ≤ l.fn.tree.levels → (pointer_in l.tree k (l.index / fan ^ k)).stamp ≢ 0;
}

abbrev pub decreases-loop-level : goal.decreases-loop-level
decreases-loop-level g l = l.level
