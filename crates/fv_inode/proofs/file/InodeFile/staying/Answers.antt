use Rattle.fv_tree.specs.Standing.{standing, under}
use Rattle.fv_inode.proofs.Looked.{looks_at}
use Rattle.fv_inode.proofs.file.InodeFile.staying.Goals as goal

pub returns-clause-looks : goal.returns-clause-looks
returns-clause-looks g c =
    let old = g.B.Blocks.shown c.args.blocks.now in
    let did = c.staying.ensures in
    looks_at g.B.Blocks.told (standing (under old) c.args.self.now.tree) old (g.B.Blocks.shown c.staying.new.blocks) c.staying.result did.untouched did.counts did.cause
