use Rattle.std.proofs.Common.{sym, ◌∙◌}
use Rattle.fv_inode.proofs.Slots.{inodes_of}
use Rattle.fv_inode.proofs.records.files_of.Goals as goal

pub returns-clause-files : goal.returns-clause-files
returns-clause-files c = inodes_of c.args.block.now c.in_ok-inodes.inodes c.in_ok-inodes.ensures.inodes ∙ sym c.records.ensures
