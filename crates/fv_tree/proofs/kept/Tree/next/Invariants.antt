use Rattle.std.proofs.Common.{◌≤◌, ◌-◌}
use Rattle.fv_tree.specs.Sources.{IsCalm, IsUntouched}
use Rattle.fv_tree.specs.Standing.{standing, under}
use Rattle.fv_tree.specs.Seeking.{AreHoles}
use Rattle.fv_tree.proofs.kept.Tree.next.Given as goal

abbrev pub invariant-loop-at : goal.invariant-loop-at
invariant-loop-at g l = record {
  low : l.from ≤ l.at;
  holes : g.B.Blocks.told → AreHoles (standing (under (g.B.Blocks.shown l.fn.blocks)) l.fn.self) l.from l.at;
  untouched : IsUntouched (g.B.Blocks.shown l.fn.blocks) (g.B.Blocks.shown l.blocks);
  calm : IsCalm (g.B.Blocks.shown l.fn.blocks) (g.B.Blocks.shown l.blocks);
  reads : g.B.Blocks.reads l.fn.blocks l.blocks;
}

abbrev pub decreases-loop-at : goal.decreases-loop-at
decreases-loop-at g l = l.end - l.at
