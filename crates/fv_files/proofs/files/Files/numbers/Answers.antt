use Rattle.fv_files.specs.Tables.{table_in}
use Rattle.fv_files.proofs.Numbering.{numbered}
use Rattle.fv_files.proofs.files.Files.numbers.Goals as goal

pub returns-clause-numbers : goal.returns-clause-numbers
returns-clause-numbers g c = λ told.
    let made = c.of_names.ensures in
    numbered (table_in (g.B.Blocks.shown c.args.blocks.now) c.args.self.now) c.of_names.result c.in_ok-by_name.by_name (c.in_ok-by_name.ensures.numbers told) made.ordered made.names made.taken
