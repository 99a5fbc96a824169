use Rattle.std.proofs.Common.{◌≡◌, ◌*◌, ◌<◌, ℕ, Ok, true}
use Rattle.std.specs.Prelude.{is_some}
use Rattle.fv_tables.specs.Told.{records_each, file_at}
use Rattle.fv_tree.specs.Standing.{standing, under}
use Rattle.fv_inode.specs.Failing.{Looks}
use Rattle.fv_inode.proofs.create.find_free.Given as goal

abbrev pub invariant-loop-cell : goal.invariant-loop-cell
invariant-loop-cell g l = record {
  least : g.B.Blocks.told → (k : ℕ) → k < records_each * l.cell → is_some (file_at (standing (under (g.B.Blocks.shown l.fn.blocks)) l.fn.tree) k) ≡ true;
  looks : Looks g.B.Blocks.told (standing (under (g.B.Blocks.shown l.fn.blocks)) l.fn.tree) (g.B.Blocks.shown l.fn.blocks) (g.B.Blocks.shown l.blocks) (Ok (tt {0}));
  reads : g.B.Blocks.reads l.fn.blocks l.blocks;
}
