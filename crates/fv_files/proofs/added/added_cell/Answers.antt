use Rattle.std.proofs.Common.{◌≡◌, sym, subst, ◌∙◌}
use Rattle.std.specs.Prelude.{IfOk}
use Rattle.fv_tree.specs.Counting.{added_at}
use Rattle.fv_tree.specs.Standing.{under, standing}
use Rattle.fv_files.proofs.Tables.{stored_known, stored_loads}
use Rattle.fv_files.proofs.Right.{right_kept, right_stored}
use Rattle.fv_files.proofs.added.added_cell.Goals as goal

pub returns-in-None-clause-added : goal.returns-in-None-clause-added
returns-in-None-clause-added g c = λ told.
    let blocks = under (g.B.Blocks.shown c.args.blocks.now) in
    subst (λ t. IfOk c.added-in-None.result (λ count. count ≡ added_at t c.args.index))
    (c.stored_tree-tree.ensures.stored blocks ∙ sym (stored_known blocks c.args.files.now c.args.info.now (sym c.in-None.ensures.value))) (c.added-in-None.ensures.added told)

pub returns-in-None-clause-loads : goal.returns-in-None-clause-loads
returns-in-None-clause-loads g c =
    stored_loads g.B.Blocks.told (g.B.Blocks.shown c.args.blocks.now) (g.B.Blocks.shown c.added-in-None.new.blocks) c.args.files.now c.args.info.now (standing (under (g.B.Blocks.shown c.args.blocks.now)) c.stored_tree-tree.result) c.added-in-None.result
    (c.stored_tree-tree.ensures.stored (under (g.B.Blocks.shown c.args.blocks.now))) (sym c.in-None.ensures.value) c.added-in-None.ensures.untouched c.added-in-None.ensures.reads c.added-in-None.ensures.counts c.added-in-None.ensures.cause

pub added-requires-clause-right : goal.added-requires-clause-right
added-requires-clause-right g c = λ told. right_kept (g.B.Blocks.shown c.args.blocks.now) c.args.files.now c.args.info.now (c.requires.right told) c.in-Some.tree.now (sym c.in-Some.ensures.value)

pub added-requires-in-None-clause-right : goal.added-requires-in-None-clause-right
added-requires-in-None-clause-right g c = λ told. right_stored (g.B.Blocks.shown c.args.blocks.now) c.args.files.now c.args.info.now c.stored_tree-tree.result (c.requires.right told) (sym c.in-None.ensures.value) (c.stored_tree-tree.ensures.stored (under (g.B.Blocks.shown c.args.blocks.now)))
