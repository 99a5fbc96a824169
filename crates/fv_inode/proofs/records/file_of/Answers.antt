use Rattle.std.proofs.Common.{sym, ◌∙◌}
use Rattle.fv_inode.proofs.Slots.{own_file}
use Rattle.fv_inode.proofs.records.file_of.Goals as goal

pub returns-then-is_inodes-clause-file : goal.returns-then-is_inodes-clause-file
returns-then-is_inodes-clause-file c = own_file c.args.block.now c.args.slot c.record.result (sym c.if-is_inodes.true ∙ c.requires.form) c.record.ensures.file
