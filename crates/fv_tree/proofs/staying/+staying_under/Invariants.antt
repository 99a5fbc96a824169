use Rattle.std.proofs.Common.{◌≡◌, ◌≤◌, ◌+◌, ◌-◌, ◌*◌, ◌^◌}
use Rattle.fv_model.specs.Trees.{fan}
use Rattle.fv_tree.specs.Sources.{IsCalm, IsUntouched}
use Rattle.fv_tree.specs.Flushing.{loaded}
use Rattle.fv_tree.proofs.Stays.{staying_some}
use Rattle.fv_tree.proofs.staying.+staying_under.Given as goal

abbrev pub decreases-staying_under : goal.decreases-staying_under
decreases-staying_under g l = l.level

abbrev pub invariant-loop-slot : goal.invariant-loop-slot
invariant-loop-slot g l = record {
  count : g.B.Blocks.told → l.count ≡ staying_some (loaded (g.B.Blocks.shown l.fn.blocks) l.fn.tree) (g.B.Sharing.shared l.fn.blocks) l.level l.place l.slot;
  few : l.count + l.slot ≤ 1 + l.slot * (2 * fan ^ (l.level - 1));
  untouched : IsUntouched (g.B.Blocks.shown l.fn.blocks) (g.B.Blocks.shown l.blocks);
  calm : IsCalm (g.B.Blocks.shown l.fn.blocks) (g.B.Blocks.shown l.blocks);
  reads : g.B.Blocks.reads l.fn.blocks l.blocks;
}
