use Rattle.std.proofs.Common.{◌/◌, refl, ◌∙◌}
use Rattle.fv_tree.specs.Erasing.{HoldsCells}
use Rattle.fv_inode.specs.Losing.{IsLost}
use Rattle.fv_inode.proofs.Looked.{earlier, later}
use Rattle.fv_files.specs.Tables.{table_in}
use Rattle.fv_files.specs.Failing.{Looks}
use Rattle.fv_files.proofs.Looked.{handed_on, looks_handed, looks_past}
use Rattle.fv_files.proofs.TakenCells.{removal_takes, staying_same}
use Rattle.fv_files.proofs.Right.{right_known}
use Rattle.fv_tree.proofs.Right.{right_on}
use Rattle.std.specs.Prelude.{None}
use Rattle.fv_files.proofs.files.Files.taken_by_removal.Goals as goal

pub returns-in_err-inode-clause-looks : goal.returns-in_err-inode-clause-looks
returns-in_err-inode-clause-looks g c =
    handed_on (Looks _ _ _ _) _ c.from_residual-in_err-inode.result c.from_residual-in_err-inode.ensures.1 (looks_past g.B.Blocks.told c.args.self.now c.args.info.now _ _ _ c.in_ok-tree.tree _ c.requires.there c.in_ok-tree.ensures.loads.untouched c.in_ok-tree.ensures.loads.counts c.in_err-inode.ensures.looks)

pub returns-clause-taken : goal.returns-clause-taken
returns-clause-taken g c = λ told.
    let old = g.B.Blocks.shown c.args.blocks.now in
    let tree = c.in_ok-tree.ensures in
    let same = staying_same c.args.self.now.inode.tree old (g.B.Blocks.shown c.taken_tree.new.blocks) (g.B.Sharing.shared c.args.blocks.now) (g.B.Sharing.shared c.taken_tree.new.blocks) (c.args.info.now.number / 16) tree.loads.untouched.held (g.met.B.Sharing.reads_share c.args.blocks.now c.taken_tree.new.blocks tree.loads.reads) in
    removal_takes old c.args.self.now c.args.info.now (g.B.Sharing.shared c.args.blocks.now) c.in_ok-tree.tree c.in_ok-inode.inode _ (c.requires.there told)
    (λ holds. tree.gone told holds) (λ holds. tree.staying told holds)
    (λ holds. earlier (λ u. IsLost u c.args.info.now.number c.in_ok-inode.inode.gone) c.args.self.now.inode.tree old (g.B.Blocks.shown c.taken_tree.new.blocks) tree.loads.untouched.held (c.in_ok-inode.ensures.gone told (later HoldsCells c.args.self.now.inode.tree old (g.B.Blocks.shown c.taken_tree.new.blocks) tree.loads.untouched.held holds)))
    (c.in_ok-inode.ensures.staying told ∙ same) refl refl

pub taken_tree-requires-clause-right : goal.taken_tree-requires-clause-right
taken_tree-requires-clause-right g c = λ told. right_known (g.B.Blocks.shown c.args.blocks.now) c.args.self.now c.args.info.now (c.requires.there told) (c.requires.right told)

pub taken-requires : goal.taken-requires
taken-requires g c = record { right = λ told. right_on (g.B.Blocks.shown c.args.blocks.now) (g.B.Blocks.shown c.taken_tree.new.blocks) c.args.self.now.inode.tree c.in_ok-tree.ensures.loads.untouched (c.requires.right told None) }

pub returns-in_err-tree-clause-looks : goal.returns-in_err-tree-clause-looks
returns-in_err-tree-clause-looks g c =
    let is = c.in_err-tree.ensures in
    let old = g.B.Blocks.shown c.args.blocks.now in
    looks_handed g.B.Blocks.told (table_in old c.args.self.now) c.args.info.now old (g.B.Blocks.shown c.taken_tree.new.blocks) c.in_err-tree.field-0.0 c.from_residual.result c.from_residual.ensures.1 c.requires.there is.loads.untouched is.loads.counts is.loads.cause
