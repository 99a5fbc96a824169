use Rattle.std.proofs.lemmas.Result.{IfOk-weaker}
use Rattle.fv_files.specs.Tables.{table_in}
use Rattle.fv_files.proofs.Adding.{adds_cell}
use Rattle.fv_files.proofs.Looked.{looks_tree}
use Rattle.fv_files.proofs.Right.{right_known}
use Rattle.fv_files.proofs.files.Files.added.Goals as goal

pub returns-clause-added : goal.returns-clause-added
returns-clause-added g c = λ told.
    IfOk-weaker c.added_cell.result _ _ (λ count is. adds_cell (table_in (g.B.Blocks.shown c.args.blocks.now) c.args.self.now) c.args.info.now c.args.index count (c.requires.there told) is) (c.added_cell.ensures.added told)

pub returns-clause-looks : goal.returns-clause-looks
returns-clause-looks g c =
    let is = c.added_cell.ensures.loads in
    looks_tree g.B.Blocks.told (table_in (g.B.Blocks.shown c.args.blocks.now) c.args.self.now) c.args.info.now (g.B.Blocks.shown c.args.blocks.now) (g.B.Blocks.shown c.added_cell.new.blocks) c.added_cell.result c.requires.there is.untouched is.counts is.cause

pub added_cell-requires-clause-right : goal.added_cell-requires-clause-right
added_cell-requires-clause-right g c = λ told. right_known (g.B.Blocks.shown c.args.blocks.now) c.args.self.now c.args.info.now (c.requires.there told) (c.requires.right told)
