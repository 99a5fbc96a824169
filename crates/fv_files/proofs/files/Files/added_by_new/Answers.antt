use Rattle.std.proofs.lemmas.Result.{IfOk-weaker}
use Rattle.fv_files.specs.Tables.{table_in}
use Rattle.fv_files.proofs.Adding.{adds_file}
use Rattle.fv_files.proofs.files.Files.added_by_new.Goals as goal

pub returns-clause-added : goal.returns-clause-added
returns-clause-added g c = λ told.
    IfOk-weaker c.added.result _ _ (λ count is. adds_file (table_in (g.B.Blocks.shown c.args.blocks.now) c.args.self.now) c.args.number count is) (c.added.ensures.added told)
