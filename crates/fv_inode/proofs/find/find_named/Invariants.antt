use Rattle.std.proofs.Common.{◌*◌, Ok}
use Rattle.fv_tables.specs.Told.{records_each}
use Rattle.fv_tree.specs.Standing.{standing, under}
use Rattle.fv_inode.specs.Files.{HasNoneBelow}
use Rattle.fv_inode.specs.Failing.{Looks}
use Rattle.fv_inode.proofs.find.find_named.Given as goal

abbrev pub invariant-loop-cell : goal.invariant-loop-cell
invariant-loop-cell g l = record {
  none : g.B.Blocks.told → HasNoneBelow (standing (under (g.B.Blocks.shown l.fn.blocks)) l.fn.tree) l.fn.name (records_each * l.cell);
  looks : Looks g.B.Blocks.told (standing (under (g.B.Blocks.shown l.fn.blocks)) l.fn.tree) (g.B.Blocks.shown l.fn.blocks) (g.B.Blocks.shown l.blocks) (Ok (tt {0}));
  reads : g.B.Blocks.reads l.fn.blocks l.blocks;
}
