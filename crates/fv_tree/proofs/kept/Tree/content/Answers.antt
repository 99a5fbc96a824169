use Rattle.std.proofs.Common.{◌∙◌}
use Rattle.fv_tree.proofs.Readied.{ready_block}
use Rattle.fv_tree.proofs.kept.Tree.content.Goals as goal

pub returns-clause-cell : goal.returns-clause-cell
returns-clause-cell c = λ held. ready_block held c.args.self.now c.args.index c.requires.ready ∙ c.copy_cell.ensures.cell
