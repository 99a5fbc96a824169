use Rattle.std.proofs.Common.{◌≤◌, ℕ, ◌-◌, ◌^◌}
use Rattle.fv_model.specs.Trees.{fan}
use Rattle.fv_tree.specs.Standing.{standing, under}
use Rattle.fv_tree.specs.Collecting.{AllBelow, Collects, AreHeld}
use Rattle.std.proofs.Common.{Ok}
use Rattle.fv_tree.specs.Calls.{Loading}
use Rattle.fv_tree.proofs.cut.keep_past.Given as goal

abbrev pub invariant-loop-level : goal.invariant-loop-level
invariant-loop-level g l = record {
  high : l.level ≤ l.fn.tree.levels;
  places : g.B.Blocks.told → Collects (standing (under (g.B.Blocks.shown l.fn.blocks)) l.fn.tree) l.level l.most l.places.items;
  bound : AllBelow l.places.items (fan ^ (3 - l.level));
  loading : Loading {T = ℕ} g.B.Blocks.told (g.B.Blocks.reads l.fn.blocks l.blocks) (g.B.Blocks.shown l.fn.blocks) (g.B.Blocks.shown l.blocks) l.fn.tree l.tree (Ok 0);
  nodes : g.B.Blocks.told → AreHeld l.tree (standing (under (g.B.Blocks.shown l.fn.blocks)) l.fn.tree) l.level l.most;
}

abbrev pub decreases-loop-level : goal.decreases-loop-level
decreases-loop-level g l = l.level
