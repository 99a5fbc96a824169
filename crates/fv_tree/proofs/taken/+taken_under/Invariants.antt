use Rattle.std.proofs.Common.{◌≤◌, ◌+◌, ◌-◌, ◌*◌, ◌^◌}
use Rattle.fv_model.specs.Trees.{fan}
use Rattle.fv_tree.specs.Sources.{IsCalm, IsUntouched}
use Rattle.fv_tree.specs.Standing.{standing, under}
use Rattle.fv_tree.specs.Flushing.{loaded}
use Rattle.fv_tree.specs.Erasing.{HoldsCells}
use Rattle.fv_tree.specs.Taking.{goes_by, IsSum}
use Rattle.fv_tree.proofs.taken.+taken_under.Given as goal

abbrev pub decreases-taken_under : goal.decreases-taken_under
decreases-taken_under g l = l.level

abbrev pub invariant-loop-slot : goal.invariant-loop-slot
invariant-loop-slot g l = record {
  sum : g.B.Blocks.told → HoldsCells (standing (under (g.B.Blocks.shown l.fn.blocks)) l.fn.tree) → IsSum (loaded (g.B.Blocks.shown l.fn.blocks) l.fn.tree) (g.B.Sharing.shared l.fn.blocks) (goes_by l.going) l.level l.place l.slot l.sum;
  few_gone : 1 + l.sum.taken.gone + l.slot ≤ 1 + l.slot * (2 * fan ^ (l.level - 1));
  few_staying : 1 + l.sum.taken.staying + l.slot ≤ 1 + l.slot * (2 * fan ^ (l.level - 1));
  untouched : IsUntouched (g.B.Blocks.shown l.fn.blocks) (g.B.Blocks.shown l.blocks);
  calm : IsCalm (g.B.Blocks.shown l.fn.blocks) (g.B.Blocks.shown l.blocks);
  reads : g.B.Blocks.reads l.fn.blocks l.blocks;
}
