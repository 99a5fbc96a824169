use Rattle.std.proofs.lemmas.Result.{err_from_is_err_and}
use Rattle.fv_tree.specs.Standing.{standing, under}
use Rattle.fv_inode.proofs.Looked.{loads_at, loads_failed, loads_done}
use Rattle.fv_inode.proofs.Rewritten.{fills}
use Rattle.fv_inode.proofs.root.refill_files.Goals as goal

pub returns-clause-filled : goal.returns-clause-filled
returns-clause-filled g c = λ told.
    let did = c.in_ok-refill.ensures in
    fills (standing (under (g.B.Blocks.shown c.args.blocks.now)) c.args.tree.now) (standing (under (g.B.Blocks.shown c.refill.new.blocks)) c.refill.new.self) c.args.cell c.args.files.now c.spell.new.into c.in_ok-refill.field-0
    c.spell.ensures (c.requires.there told) (did.refilled told) (did.place_by_place told)

pub returns-clause-loads : goal.returns-clause-loads
returns-clause-loads g c =
    let did = c.in_ok-refill.ensures in
    let old = g.B.Blocks.shown c.args.blocks.now in
    let new = g.B.Blocks.shown c.refill.new.blocks in
    loads_done g.B.Blocks.told c.args.tree.now c.refill.new.self old new c.in_ok-refill.field-0 _
    (loads_at did.failed did.unchanged did.steady)

pub returns-in_err-refill-clause-loads : goal.returns-in_err-refill-clause-loads
returns-in_err-refill-clause-loads g c =
    let did = c.in_err-refill.ensures in
    let p = err_from_is_err_and c.from_residual.result c.from_residual.ensures.1 in
    rw (p.1, p.2) (loads_failed g.B.Blocks.told c.args.tree.now c.refill.new.self (g.B.Blocks.shown c.args.blocks.now) (g.B.Blocks.shown c.refill.new.blocks) c.in_err-refill.field-0.0
    (loads_at did.failed did.unchanged did.steady))
