use Rattle.fv_walk.proofs.Ranges.{child_is_under}
use Rattle.fv_walk.proofs.children.child.Goals as goal

pub returns-clause-under : goal.returns-clause-under
returns-clause-under c = child_is_under c.args.visit.now c.args.slot c.args.block c.args.pointer c.requires.visit c.requires.level c.requires.slot
