use Rattle.fv_tables.specs.Spelled.{hole}
use Rattle.std.proofs.Common.{arith, refl}
use Rattle.fv_files.proofs.Sums.{no_cost}
use Rattle.fv_files.proofs.Stored.{hole_stored}
use Rattle.fv_files.specs.declared.files.Files.{Files}
use Rattle.fv_files.proofs.Altered.{none_laid}
use Rattle.fv_files.proofs.Whole.{no_trees, stored_in, stored_wells}
use Rattle.fv_files.proofs.files.Files.new.Goals as goal

pub returns-clause-stored : goal.returns-clause-stored
returns-clause-stored c = stored_in (record { inode = c.new.result; trees = c.new-2.result; alloc = c.args.alloc }) 0 hole c.new.ensures.stored c.new-2.ensures.len

pub returns-clause-well : goal.returns-clause-well
returns-clause-well c = λ known blocks. stored_wells (record { inode = c.new.result; trees = c.new-2.result; alloc = c.args.alloc }) 0 hole c.new.ensures.stored c.new-2.ensures.len known blocks (hole_stored known blocks 0 hole refl)

pub returns-clause-pending : goal.returns-clause-pending
returns-clause-pending c = let inode = c.new.ensures.pending in let trees = no_cost c.new-2.result c.new-2.ensures.len in omega (arith, inode, trees)

pub returns-clause-laid : goal.returns-clause-laid
returns-clause-laid c = let f : Files = record { inode = c.new.result; trees = c.new-2.result; alloc = c.args.alloc } in λ blocks. none_laid blocks f (no_trees f c.new-2.ensures.len)
