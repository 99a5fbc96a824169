use Rattle.std.proofs.Common.{sym, ap, ◌∙◌}
use Rattle.std.specs.Prelude.{is_some}
use Rattle.std.proofs.lemmas.Result.{err_from_is_err_and}
use Rattle.fv_tree.specs.Standing.{standing, under}
use Rattle.fv_inode.proofs.Looked.{loads_at, loads_failed, loads_done}
use Rattle.fv_inode.proofs.Slots.{alike_files}
use Rattle.fv_inode.proofs.Readied.{nothing_held, holds_there, none_without}
use Rattle.fv_inode.proofs.ready.hold.Goals as goal

pub returns-in_err-there-clause-loads : goal.returns-in_err-there-clause-loads
returns-in_err-there-clause-loads g c =
    let did = c.in_err-there.ensures in
    let p = err_from_is_err_and c.from_residual.result c.from_residual.ensures.1 in
    rw (p.1, p.2) (loads_failed g.B.Blocks.told c.args.tree.now c.ready.new.self (g.B.Blocks.shown c.args.blocks.now) (g.B.Blocks.shown c.ready.new.blocks) c.in_err-there.field-0.0
    (loads_at (λ told. did.remains told) did.leaves did.steady))

pub returns-then-not-there-clause-there : goal.returns-then-not-there-clause-there
returns-then-not-there-clause-there g c = λ told.
    none_without (standing (under (g.B.Blocks.shown c.args.blocks.now)) c.args.tree.now) c.args.number (c.in_ok-there.ensures.there told ∙ c.if-not-there.true)

pub returns-then-not-there-clause-loads : goal.returns-then-not-there-clause-loads
returns-then-not-there-clause-loads g c =
    let did = c.in_ok-there.ensures in
    let old = g.B.Blocks.shown c.args.blocks.now in
    let new = g.B.Blocks.shown c.ready.new.blocks in
    loads_done g.B.Blocks.told c.args.tree.now c.ready.new.self old new c.in_ok-there.there _
    (loads_at (λ _. tt) (λ _. tt) did.steady)

pub returns-clause-ready : goal.returns-clause-ready
returns-clause-ready g c = λ yes.
    holds_there nothing_held c.ready.new.self c.args.number (c.in_ok-there.ensures.ready c.if-not-there.false) (c.has_record.ensures nothing_held ∙ yes)

pub returns-clause-there : goal.returns-clause-there
returns-clause-there g c = λ told.
    let old = g.B.Blocks.shown c.args.blocks.now in
    let new = g.B.Blocks.shown c.ready.new.blocks in
    ap is_some (sym (alike_files (standing (under old) c.args.tree.now) (standing (under new) c.ready.new.self) (c.in_ok-there.ensures.alike told) c.args.number)) ∙ c.has_record.ensures (under new)

pub returns-clause-loads : goal.returns-clause-loads
returns-clause-loads g c =
    let did = c.in_ok-there.ensures in
    let old = g.B.Blocks.shown c.args.blocks.now in
    let new = g.B.Blocks.shown c.ready.new.blocks in
    loads_done g.B.Blocks.told c.args.tree.now c.ready.new.self old new c.in_ok-there.there _
    (loads_at (λ _. tt) (λ _. tt) did.steady)
