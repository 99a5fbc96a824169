use Rattle.std.proofs.Common.{ℕ}
use Rattle.std.proofs.lemmas.Result.{err_from_is_err_and}
use Rattle.fv_tree.specs.Erasing.{HoldsCells}
use Rattle.fv_inode.specs.Losing.{IsLost}
use Rattle.fv_inode.proofs.Looked.{earlier, later, looks_failed_then}
use Rattle.fv_tree.proofs.Right.{right_on}
use Rattle.fv_inode.proofs.file.InodeFile.taken.Goals as goal

pub returns-in_err-gone-clause-looks : goal.returns-in_err-gone-clause-looks
returns-in_err-gone-clause-looks g c =
    let p = err_from_is_err_and c.from_residual-in_err-gone.result c.from_residual-in_err-gone.ensures.1 in
    rw (p.1, p.2) (looks_failed_then {S = ℕ} {R = ℕ} g.B.Blocks.told c.args.self.now.tree (g.B.Blocks.shown c.args.blocks.now) (g.B.Blocks.shown c.staying.new.blocks) (g.B.Blocks.shown c.lost.new.blocks)
    c.in_ok-staying.staying c.in_err-gone.field-0.0 c.in_ok-staying.ensures.looks c.in_err-gone.ensures.looks)

pub returns-clause-gone : goal.returns-clause-gone
returns-clause-gone g c = λ told holds.
    let old = g.B.Blocks.shown c.args.blocks.now in
    let mid = g.B.Blocks.shown c.staying.new.blocks in
    let held = c.in_ok-staying.ensures.looks.untouched.held in
    earlier (λ u. IsLost u c.args.number c.in_ok-gone.gone) c.args.self.now.tree old mid held (c.in_ok-gone.ensures.lost told (later HoldsCells c.args.self.now.tree old mid held holds))

pub lost-requires : goal.lost-requires
lost-requires g c = record { right = λ told. right_on (g.B.Blocks.shown c.args.blocks.now) (g.B.Blocks.shown c.staying.new.blocks) c.args.self.now.tree c.in_ok-staying.ensures.looks.untouched (c.requires.right told) }
