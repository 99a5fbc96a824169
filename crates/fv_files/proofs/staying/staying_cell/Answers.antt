use Rattle.std.proofs.Common.{sym}
use Rattle.std.proofs.lemmas.Result.{IfOk-weaker}
use Rattle.fv_tree.specs.Standing.{under, standing}
use Rattle.fv_files.proofs.Stays.{stored_staying}
use Rattle.fv_files.proofs.Tables.{stored_loads}
use Rattle.fv_files.proofs.Right.{right_kept, right_stored}
use Rattle.fv_files.proofs.staying.staying_cell.Goals as goal

pub returns-in-None-clause-staying : goal.returns-in-None-clause-staying
returns-in-None-clause-staying g c = λ told.
    IfOk-weaker c.staying-in-None.result _ _ (λ count is. stored_staying (under (g.B.Blocks.shown c.args.blocks.now)) c.args.files.now c.args.info.now c.stored_tree-tree.result (g.B.Sharing.shared c.args.blocks.now) c.args.index count (c.requires.known.there told) (sym c.in-None.ensures.value)
    (c.stored_tree-tree.ensures.stored (under (g.B.Blocks.shown c.args.blocks.now))) c.stored_tree-tree.ensures.pending is) (c.staying-in-None.ensures.staying told)

pub returns-in-None-clause-loads : goal.returns-in-None-clause-loads
returns-in-None-clause-loads g c =
    stored_loads g.B.Blocks.told (g.B.Blocks.shown c.args.blocks.now) (g.B.Blocks.shown c.staying-in-None.new.blocks) c.args.files.now c.args.info.now (standing (under (g.B.Blocks.shown c.args.blocks.now)) c.stored_tree-tree.result) c.staying-in-None.result
    (c.stored_tree-tree.ensures.stored (under (g.B.Blocks.shown c.args.blocks.now))) (sym c.in-None.ensures.value) c.staying-in-None.ensures.untouched c.staying-in-None.ensures.reads c.staying-in-None.ensures.counts c.staying-in-None.ensures.cause

pub staying-requires : goal.staying-requires
staying-requires g c = record { right = λ told. right_kept (g.B.Blocks.shown c.args.blocks.now) c.args.files.now c.args.info.now (c.requires.right told) c.in-Some.tree.now (sym c.in-Some.ensures.value) }

pub staying-requires-in-None : goal.staying-requires-in-None
staying-requires-in-None g c = record { right = λ told. right_stored (g.B.Blocks.shown c.args.blocks.now) c.args.files.now c.args.info.now c.stored_tree-tree.result (c.requires.right told) (sym c.in-None.ensures.value) (c.stored_tree-tree.ensures.stored (under (g.B.Blocks.shown c.args.blocks.now))) }
