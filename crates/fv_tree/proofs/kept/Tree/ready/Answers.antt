use Rattle.fv_tree.specs.Standing.{standing, under}
use Rattle.fv_tree.proofs.Seen.{remains}
use Rattle.fv_tree.proofs.kept.Tree.ready.Goals as goal

pub returns-clause-remains : goal.returns-clause-remains
returns-clause-remains g c = λ told.
    remains (standing (under (g.B.Blocks.shown c.args.blocks.now)) c.args.self.now) (standing (under (g.B.Blocks.shown c.ready_cell.new.blocks)) c.ready_cell.new.tree) (c.ready_cell.ensures.alike told)
