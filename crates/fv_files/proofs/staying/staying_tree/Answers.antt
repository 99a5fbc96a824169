use Rattle.std.proofs.Common.{sym}
use Rattle.std.proofs.lemmas.Result.{IfOk-weaker}
use Rattle.fv_tree.specs.Standing.{under, standing}
use Rattle.fv_files.proofs.Stays.{stored_all}
use Rattle.fv_files.proofs.Tables.{stored_loads}
use Rattle.fv_files.proofs.Right.{right_kept, right_stored}
use Rattle.fv_files.proofs.staying.staying_tree.Goals as goal

pub returns-in-None-clause-staying : goal.returns-in-None-clause-staying
returns-in-None-clause-staying g c = λ told.
    IfOk-weaker c.staying_all-in-None.result _ _ (λ count is. stored_all (under (g.B.Blocks.shown c.args.blocks.now)) c.args.files.now c.args.info.now c.stored_tree-tree.result (g.B.Sharing.shared c.args.blocks.now) count (c.requires.known.there told) (sym c.in-None.ensures.value)
    (c.stored_tree-tree.ensures.stored (under (g.B.Blocks.shown c.args.blocks.now))) c.stored_tree-tree.ensures.pending is) (c.staying_all-in-None.ensures.staying told)

pub returns-in-None-clause-loads : goal.returns-in-None-clause-loads
returns-in-None-clause-loads g c =
    stored_loads g.B.Blocks.told (g.B.Blocks.shown c.args.blocks.now) (g.B.Blocks.shown c.staying_all-in-None.new.blocks) c.args.files.now c.args.info.now (standing (under (g.B.Blocks.shown c.args.blocks.now)) c.stored_tree-tree.result) c.staying_all-in-None.result
    (c.stored_tree-tree.ensures.stored (under (g.B.Blocks.shown c.args.blocks.now))) (sym c.in-None.ensures.value) c.staying_all-in-None.ensures.untouched c.staying_all-in-None.ensures.reads c.staying_all-in-None.ensures.counts c.staying_all-in-None.ensures.cause

pub staying_all-requires : goal.staying_all-requires
staying_all-requires g c = record { right = λ told. right_kept (g.B.Blocks.shown c.args.blocks.now) c.args.files.now c.args.info.now (c.requires.right told) c.in-Some.tree.now (sym c.in-Some.ensures.value) }

pub staying_all-requires-in-None : goal.staying_all-requires-in-None
staying_all-requires-in-None g c = record { right = λ told. right_stored (g.B.Blocks.shown c.args.blocks.now) c.args.files.now c.args.info.now c.stored_tree-tree.result (c.requires.right told) (sym c.in-None.ensures.value) (c.stored_tree-tree.ensures.stored (under (g.B.Blocks.shown c.args.blocks.now))) }
