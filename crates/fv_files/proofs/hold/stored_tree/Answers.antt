use Rattle.std.proofs.Common.{◌∙◌}
use Rattle.fv_tables.specs.Spelled.{stored}
use Rattle.fv_files.proofs.hold.stored_tree.Goals as goal

pub returns-clause-stored : goal.returns-clause-stored
returns-clause-stored c = λ blocks.
    c.at.ensures.stored blocks ∙ (λ i. stored blocks (c.from.ensures i) c.args.info.now.levels c.args.info.now.root)
