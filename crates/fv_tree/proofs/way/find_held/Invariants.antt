use Rattle.std.proofs.Common.{◌≡◌, ◌≤◌, ◌/◌, ◌-◌, ◌^◌}
use Rattle.fv_model.specs.Trees.{fan}
use Rattle.fv_tree.specs.Spelled.{pointer_below}
use Rattle.fv_tree.specs.Sources.{IsCalm, IsUntouched}
use Rattle.fv_tree.specs.Standing.{standing, under}
use Rattle.fv_tree.proofs.way.find_held.Given as goal

abbrev pub invariant-loop-level : goal.invariant-loop-level
invariant-loop-level g l = record {
  high : l.level ≤ l.fn.tree.levels;
  pointer : g.B.Blocks.told → l.pointer ≡ pointer_below (standing (under (g.B.Blocks.shown l.fn.blocks)) l.fn.tree) (l.fn.tree.levels - l.level) (l.index / fan ^ l.level);
  untouched : IsUntouched (g.B.Blocks.shown l.fn.blocks) (g.B.Blocks.shown l.blocks);
  calm : IsCalm (g.B.Blocks.shown l.fn.blocks) (g.B.Blocks.shown l.blocks);
  reads : g.B.Blocks.reads l.fn.blocks l.blocks;
}

abbrev pub decreases-loop-level : goal.decreases-loop-level
decreases-loop-level g l = l.level
