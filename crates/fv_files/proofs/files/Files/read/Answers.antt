use Rattle.std.proofs.Common.{◌+◌, ap, refl, sym, ◌∙◌}
use Rattle.std.specs.Prelude.{Some, None}
use Rattle.fv_files.specs.Tables.{table_in, tree_in}
use Rattle.fv_tree.specs.Standing.{under}
use Rattle.fv_files.specs.Calls.{way_in}
use Rattle.fv_files.proofs.Tables.{given, hole_read, cell_read}
use Rattle.fv_files.proofs.Looked.{looks_handed}
use Rattle.fv_files.proofs.Right.{readable_known}
use Rattle.fv_files.proofs.Stays.{known_is}
use Rattle.fv_files.proofs.files.Files.read.Goals as goal

pub returns-then-not-branch-clause-block : goal.returns-then-not-branch-clause-block
returns-then-not-branch-clause-block g c = λ told.
    given (table_in (g.B.Blocks.shown c.args.blocks.now) c.args.self.now) c.args.info.now c.args.index c.clear.new.into None (c.requires.there told)
    (c.in_ok-read_cell.ensures.cell told ∙ hole_read c.in_ok-read_cell.field-0 c.read_cell.new.into c.if-not-branch.true) c.clear.ensures

pub returns-else-not-branch-clause-block : goal.returns-else-not-branch-clause-block
returns-else-not-branch-clause-block g c = λ told.
    given (table_in (g.B.Blocks.shown c.args.blocks.now) c.args.self.now) c.args.info.now c.args.index c.read_cell.new.into (Some c.read_cell.new.into) (c.requires.there told)
    (c.in_ok-read_cell.ensures.cell told ∙ cell_read c.in_ok-read_cell.field-0 c.read_cell.new.into c.if-not-branch.false) refl

pub read_cell-requires-clause-right : goal.read_cell-requires-clause-right
read_cell-requires-clause-right g c = λ told. readable_known (g.B.Blocks.shown c.args.blocks.now) c.args.self.now c.args.info.now (c.requires.there told) (c.requires.right told)

pub returns-in_err-read_cell-clause-looks : goal.returns-in_err-read_cell-clause-looks
returns-in_err-read_cell-clause-looks g c =
    let is = c.in_err-read_cell.ensures in
    let old = g.B.Blocks.shown c.args.blocks.now in
    looks_handed g.B.Blocks.told (table_in old c.args.self.now) c.args.info.now old (g.B.Blocks.shown c.read_cell.new.blocks) c.in_err-read_cell.field-0.0 c.from_residual.result c.from_residual.ensures.1 c.requires.there is.untouched is.counts is.cause

pub returns-then-not-branch-clause-spent : goal.returns-then-not-branch-clause-spent
returns-then-not-branch-clause-spent g c = λ told.
    let old = g.B.Blocks.shown c.args.blocks.now in
    c.in_ok-read_cell.ensures.spent told ∙ ap (λ o. old.spent + way_in old.cost o c.args.index) (sym (known_is (under old) c.args.self.now c.args.info.now (tree_in c.args.self.now c.args.info.now.number) (c.requires.there told) refl))

pub returns-else-not-branch-clause-spent : goal.returns-else-not-branch-clause-spent
returns-else-not-branch-clause-spent g c = λ told.
    let old = g.B.Blocks.shown c.args.blocks.now in
    c.in_ok-read_cell.ensures.spent told ∙ ap (λ o. old.spent + way_in old.cost o c.args.index) (sym (known_is (under old) c.args.self.now c.args.info.now (tree_in c.args.self.now c.args.info.now.number) (c.requires.there told) refl))
