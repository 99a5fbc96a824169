use Rattle.std.proofs.Common.{◌≡◌, ◌≤◌, ◌<◌, ◌⊎◌, ◌+◌, ◌*◌, ℕ, true, get_or, length}
use Rattle.std.specs.BTreeMap as maps
use Rattle.fv_model.specs.Trees.{spot_cmp}
use Rattle.fv_tree.specs.Sources.{IsCalm}
use Rattle.fv_tree.specs.Standing.{standing, under}
use Rattle.fv_tree.specs.Counting.{positions_of}
use Rattle.fv_tree.specs.Releasing.{Removes}
use Rattle.fv_tree.specs.Unlinking.{HasWay}
use Rattle.fv_tree.specs.Flushing.{changed_in}
use Rattle.fv_tree.specs.Collecting.{IsOverPast}
use Rattle.fv_tree.specs.Costs.{cells_changed, cells_held, changes_in}
use Rattle.fv_tree.proofs.Collected.{listed}
use Rattle.fv_tree.proofs.cut.cut_cells.Given as goal

abbrev pub invariant-loop-index : goal.invariant-loop-index
invariant-loop-index g l = record {
  removes : g.B.Blocks.told → Removes (g.B.Blocks.shown l.fn.blocks) (g.B.Blocks.shown l.blocks) l.fn.tree l.tree (listed l.index-items l.index-index) l.start l.stamp;
  count : g.B.Blocks.told → positions_of (standing (under (g.B.Blocks.shown l.fn.blocks)) l.fn.tree) ≡ positions_of (standing (under (g.B.Blocks.shown l.fn.blocks)) l.tree) + l.count;
  few : l.count ≤ 4 * l.index-index;
  calm : IsCalm (g.B.Blocks.shown l.fn.blocks) (g.B.Blocks.shown l.blocks);
  marks : g.B.Blocks.told → (level place : ℕ) → changed_in l.tree.nodes level place ≡ true → (changed_in l.fn.tree.nodes level place ≡ true) ⊎ IsOverPast l.most level place;
  cells : cells_changed l.tree.cells ≤ cells_changed l.fn.tree.cells;
  held : cells_held l.tree ≤ cells_held l.fn.tree;
  none : l.index-index ≡ 0 → changes_in l.tree.nodes ≤ changes_in l.fn.tree.nodes;
  ordered : (l.index-index ≡ 0) ⊎ maps.IsOrdered spot_cmp l.tree.nodes;
  owner : l.tree.owner ≡ l.fn.tree.owner;
  room : (g.B.Blocks.shown l.fn.blocks).room ≤ (g.B.Blocks.shown l.blocks).room;
  calls : g.B.Blocks.goes l.fn.blocks l.blocks;
  ways : g.B.Blocks.told → (j : ℕ) → l.index-index ≤ j → j < length l.index-items → HasWay l.tree (get_or l.index-items j 0);
}
