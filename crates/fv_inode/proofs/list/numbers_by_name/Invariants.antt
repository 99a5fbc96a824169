use Rattle.std.proofs.Common.{◌≡◌, ◌≤◌, ◌*◌, ◌-◌, ◌^◌, Ok}
use Rattle.fv_model.specs.Trees.{fan}
use Rattle.fv_tables.specs.Told.{records_each}
use Rattle.fv_tree.specs.Standing.{standing, under}
use Rattle.fv_inode.specs.Failing.{Looks}
use Rattle.fv_inode.specs.Listing.{numbers_in, names_from}
use Rattle.fv_inode.proofs.list.numbers_by_name.Given as goal

abbrev pub invariant-loop-cell : goal.invariant-loop-cell
invariant-loop-cell g l = record {
  high : l.cell ≤ fan ^ l.fn.tree.levels;
  small : l.cell ≤ 2097152;
  numbers : g.B.Blocks.told → numbers_in l.numbers ≡ names_from (standing (under (g.B.Blocks.shown l.fn.blocks)) l.fn.tree) (records_each * l.cell) (records_each * (fan ^ l.fn.tree.levels - l.cell));
  looks : Looks g.B.Blocks.told (standing (under (g.B.Blocks.shown l.fn.blocks)) l.fn.tree) (g.B.Blocks.shown l.fn.blocks) (g.B.Blocks.shown l.blocks) (Ok (tt {0}));
  reads : g.B.Blocks.reads l.fn.blocks l.blocks;
}

abbrev pub decreases-loop-cell : goal.decreases-loop-cell
decreases-loop-cell g l = l.cell
