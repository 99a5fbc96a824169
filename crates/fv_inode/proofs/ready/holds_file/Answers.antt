use Rattle.std.proofs.Common.{◌∙◌}
use Rattle.fv_inode.proofs.Readied.{nothing_held, holds_there}
use Rattle.fv_inode.proofs.ready.holds_file.Goals as goal

pub returns : goal.returns
returns c = λ yes. holds_there nothing_held c.args.tree.now c.args.number (c.is_ready.ensures.ready c.if-not-is_ready.false) (c.has_record.ensures nothing_held ∙ yes)
