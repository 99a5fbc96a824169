use Rattle.fv_tree.specs.Standing.{standing, under}
use Rattle.fv_inode.proofs.Looked.{looks_done}
use Rattle.fv_inode.proofs.Numbered.{free_within}
use Rattle.fv_inode.proofs.file.InodeFile.free_number.Goals as goal

pub returns-clause-number : goal.returns-clause-number
returns-clause-number g c = λ told.
    free_within (standing (under (g.B.Blocks.shown c.args.blocks.now)) c.args.self.now.tree) c.in_ok-number.number c.within.result (c.in_ok-number.ensures.number told) c.within.ensures.some c.within.ensures.none

pub returns-clause-looks : goal.returns-clause-looks
returns-clause-looks g c =
    let old = g.B.Blocks.shown c.args.blocks.now in
    looks_done g.B.Blocks.told (standing (under old) c.args.self.now.tree) old (g.B.Blocks.shown c.find_free.new.blocks) _ _ c.in_ok-number.ensures.looks
