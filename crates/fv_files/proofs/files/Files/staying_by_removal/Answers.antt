use Rattle.fv_files.specs.Tables.{table_in}
use Rattle.fv_files.specs.Failing.{Looks}
use Rattle.fv_files.proofs.Looked.{handed_on, looks_handed, looks_past}
use Rattle.fv_files.proofs.Right.{right_known}
use Rattle.fv_tree.proofs.Right.{right_on}
use Rattle.std.specs.Prelude.{None}
use Rattle.fv_files.proofs.files.Files.staying_by_removal.Goals as goal

pub returns-in_err-inode-clause-looks : goal.returns-in_err-inode-clause-looks
returns-in_err-inode-clause-looks g c =
    handed_on (Looks _ _ _ _) _ c.from_residual-in_err-inode.result c.from_residual-in_err-inode.ensures.1 (looks_past g.B.Blocks.told c.args.self.now c.args.info.now _ _ _ c.in_ok-tree.tree _ c.requires.there c.in_ok-tree.ensures.loads.untouched c.in_ok-tree.ensures.loads.counts c.in_err-inode.ensures.looks)

pub staying_tree-requires-clause-right : goal.staying_tree-requires-clause-right
staying_tree-requires-clause-right g c = λ told. right_known (g.B.Blocks.shown c.args.blocks.now) c.args.self.now c.args.info.now (c.requires.there told) (c.requires.right told)

pub staying-requires : goal.staying-requires
staying-requires g c = record { right = λ told. right_on (g.B.Blocks.shown c.args.blocks.now) (g.B.Blocks.shown c.staying_tree.new.blocks) c.args.self.now.inode.tree c.in_ok-tree.ensures.loads.untouched (c.requires.right told None) }

pub returns-in_err-tree-clause-looks : goal.returns-in_err-tree-clause-looks
returns-in_err-tree-clause-looks g c =
    let is = c.in_err-tree.ensures in
    let old = g.B.Blocks.shown c.args.blocks.now in
    looks_handed g.B.Blocks.told (table_in old c.args.self.now) c.args.info.now old (g.B.Blocks.shown c.staying_tree.new.blocks) c.in_err-tree.field-0.0 c.from_residual.result c.from_residual.ensures.1 c.requires.there is.loads.untouched is.loads.counts is.loads.cause
