use Rattle.std.proofs.Common.{◌≤◌, ◌<◌, ◌-◌, ◌*◌, ◌^◌, ℕ, [], get_or, length}
use Rattle.fv_model.specs.Trees.{fan}
use Rattle.fv_tree.specs.Standing.{standing, under}
use Rattle.fv_tree.specs.Collecting.{IsRising, AllBelow, Extends, IsHeld, StillHeld}
use Rattle.fv_tree.proofs.Collected.{IsUnderOne}
use Rattle.std.proofs.Common.{Ok}
use Rattle.fv_tree.specs.Calls.{Loading}
use Rattle.fv_tree.proofs.cut.keep_level.Given as goal

abbrev pub invariant-loop-place : goal.invariant-loop-place
invariant-loop-place g l = record {
  added : g.B.Blocks.told → Extends (IsUnderOne (standing (under (g.B.Blocks.shown l.fn.blocks)) l.fn.tree) l.level l.most l.places l.place-index) [] l.below.items;
  rising : g.B.Blocks.told → IsRising l.below.items;
  below : AllBelow l.below.items (fan ^ (3 - (l.level - 1)));
  bound : g.B.Blocks.told → (k : ℕ) → l.place-index ≤ k → k < length l.places → AllBelow l.below.items (get_or l.places k 0 * fan);
  nodes : g.B.Blocks.told → (j : ℕ) → j < l.place-index → IsHeld l.tree l.level (get_or l.places j 0);
  loading : Loading {T = ℕ} g.B.Blocks.told (g.B.Blocks.reads l.fn.blocks l.blocks) (g.B.Blocks.shown l.fn.blocks) (g.B.Blocks.shown l.blocks) l.fn.tree l.tree (Ok 0);
  still : g.B.Blocks.told → StillHeld l.fn.tree l.tree;
}
