use Rattle.std.proofs.Common.{arith}
use Rattle.fv_files.proofs.Sums.{no_cost}
use Rattle.fv_files.specs.declared.files.Files.{Files}
use Rattle.fv_files.proofs.Altered.{none_laid}
use Rattle.fv_files.proofs.Whole.{no_trees, stored_alike, stored_in, stored_led, stored_sound, stored_wells}
use Rattle.fv_files.proofs.files.Files.at.Goals as goal

pub returns-clause-stored : goal.returns-clause-stored
returns-clause-stored c = stored_in (record { inode = c.at.result; trees = c.new.result; alloc = c.args.alloc }) c.args.levels c.args.root c.at.ensures.stored c.new.ensures.len

pub returns-clause-stands : goal.returns-clause-stands
returns-clause-stands c = stored_sound (record { inode = c.at.result; trees = c.new.result; alloc = c.args.alloc }) c.args.levels c.args.root c.at.ensures.stored c.at.ensures.stands c.new.ensures.len

pub returns-clause-alike : goal.returns-clause-alike
returns-clause-alike c = stored_alike (record { inode = c.at.result; trees = c.new.result; alloc = c.args.alloc }) c.args.levels c.args.root c.at.ensures.stored c.new.ensures.len c.at.ensures.pending

pub returns-clause-led : goal.returns-clause-led
returns-clause-led c = stored_led (record { inode = c.at.result; trees = c.new.result; alloc = c.args.alloc }) c.args.levels c.args.root c.at.ensures.stored c.new.ensures.len

pub returns-clause-well : goal.returns-clause-well
returns-clause-well c = stored_wells (record { inode = c.at.result; trees = c.new.result; alloc = c.args.alloc }) c.args.levels c.args.root c.at.ensures.stored c.new.ensures.len

pub returns-clause-pending : goal.returns-clause-pending
returns-clause-pending c = let inode = c.at.ensures.pending in let trees = no_cost c.new.result c.new.ensures.len in omega (arith, inode, trees)

pub returns-clause-laid : goal.returns-clause-laid
returns-clause-laid c = let f : Files = record { inode = c.at.result; trees = c.new.result; alloc = c.args.alloc } in λ blocks. none_laid blocks f (no_trees f c.new.ensures.len)
