use Rattle.fv_tree.specs.Standing.{standing, under}
use Rattle.fv_tree.proofs.Seen.{remains}
use Rattle.fv_inode.proofs.Slots.{alike_files}
use Rattle.fv_inode.proofs.file.InodeFile.ready.Goals as goal

pub returns-clause-remains : goal.returns-clause-remains
returns-clause-remains g c = λ told.
    remains (standing (under (g.B.Blocks.shown c.args.blocks.now)) c.args.self.now.tree) (standing (under (g.B.Blocks.shown c.ready_file.new.blocks)) c.ready_file.new.tree) (c.ready_file.ensures.alike told)

pub returns-clause-files : goal.returns-clause-files
returns-clause-files g c = λ told.
    alike_files (standing (under (g.B.Blocks.shown c.args.blocks.now)) c.args.self.now.tree) (standing (under (g.B.Blocks.shown c.ready_file.new.blocks)) c.ready_file.new.tree) (c.ready_file.ensures.alike told)
