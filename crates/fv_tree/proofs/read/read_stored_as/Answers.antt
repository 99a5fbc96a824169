use Rattle.std.proofs.Common.{ap, sym, ◌∙◌}
use Rattle.fv_codec.specs.declared.pointer.Pointer.{Pointer}
use Rattle.fv_tree.specs.Standing.{standing, under}
use Rattle.fv_tree.proofs.Right.{cell_read}
use Rattle.fv_tree.proofs.Writes.{block_here, block_none}
use Rattle.fv_tree.proofs.read.read_stored_as.Goals as goal

pub returns-then-pointer-eq0-clause-cell : goal.returns-then-pointer-eq0-clause-cell
returns-then-pointer-eq0-clause-cell g c = λ told.
    block_none (standing (under (g.B.Blocks.shown c.args.blocks.now)) c.args.tree.now) c.args.index (ap (λ (p : Pointer). p.stamp) (sym (c.requires.pointer told)) ∙ c.if-pointer-eq0.true)

pub returns-then-copy_changed-clause-cell : goal.returns-then-copy_changed-clause-cell
returns-then-copy_changed-clause-cell g c = λ told.
    block_here (standing (under (g.B.Blocks.shown c.args.blocks.now)) c.args.tree.now) c.args.index c.copy_changed.new.into (λ hole. c.if-pointer-eq0.false (ap (λ (p : Pointer). p.stamp) (c.requires.pointer told) ∙ hole))
    (c.copy_changed.ensures.cell c.if-copy_changed.true)

pub returns-clause-cell : goal.returns-clause-cell
returns-clause-cell g c = λ told.
    cell_read (g.B.Blocks.shown c.args.blocks.now) c.args.tree.now (c.requires.right told) c.args.index c.args.pointer.now c.load_as.new.into (c.requires.pointer told) (sym c.copy_changed.ensures.changed ∙ c.if-copy_changed.false) c.if-pointer-eq0.false
    (λ right. c.in_ok-at.ensures.loads.gives told right)
