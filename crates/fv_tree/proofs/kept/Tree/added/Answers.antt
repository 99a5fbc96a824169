use Rattle.fv_tree.specs.Standing.{standing, under}
use Rattle.fv_tree.proofs.Found.{added_is}
use Rattle.fv_tree.proofs.kept.Tree.added.Goals as goal

pub returns-clause-added : goal.returns-clause-added
returns-clause-added g c = λ told.
    added_is (standing (under (g.B.Blocks.shown c.args.blocks.now)) c.args.self.now) c.args.index c.in_ok-found.found c.added_to.result c.added_to.ensures.exact (c.in_ok-found.ensures.found told)
