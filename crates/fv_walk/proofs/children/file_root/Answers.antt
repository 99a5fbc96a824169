use Rattle.fv_walk.proofs.Ranges.{root_is_under}
use Rattle.fv_walk.proofs.children.file_root.Goals as goal

pub returns-clause-under : goal.returns-clause-under
returns-clause-under c = root_is_under c.args.visit.now c.args.number c.args.block c.args.file.now c.requires.level c.requires.file
