use Rattle.std.proofs.Common.{nat_le}
use Rattle.fv_tree.proofs.Removing.{removal_after}
use Rattle.fv_tree.proofs.kept.Tree.cut.Goals as goal

pub returns-clause-removal : goal.returns-clause-removal
returns-clause-removal g c =
    let did = c.cut_cells.ensures in
    removal_after g.B.Blocks.told (g.B.Blocks.goes c.args.blocks.now c.cut_cells.new.blocks) c.cut_cells.result (g.B.Blocks.shown c.args.blocks.now) (g.B.Blocks.shown c.cut_cells.new.blocks) c.args.self.now c.cut_cells.new.tree (nat_le c.args.length) c.args.start c.args.stamp
    did.removing
