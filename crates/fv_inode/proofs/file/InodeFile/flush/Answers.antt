use Rattle.fv_tree.specs.Standing.{standing, under}
use Rattle.fv_inode.proofs.Slots.{alike_files}
use Rattle.fv_inode.proofs.file.InodeFile.flush.Goals as goal

pub returns-clause-files : goal.returns-clause-files
returns-clause-files g c = λ told stands.
    alike_files (standing (under (g.B.Blocks.shown c.args.blocks.now)) c.args.self.now.tree) (standing (under (g.B.Blocks.shown c.flush.new.blocks)) c.flush.new.self) (c.flush.ensures.flushing.flushes told stands).alike
