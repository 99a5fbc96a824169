use Rattle.std.proofs.Common.{Err, Ok, refl, subst, arith}
use Rattle.std.proofs.lemmas.Result.{err_from_is_err_and}
use Rattle.fv_inode.specs.Failing.{OnlyLoads}
use Rattle.fv_files.specs.Tables.{table_in}
use Rattle.fv_files.proofs.Looked.{looks_inode, looks_memory}
use Rattle.fv_files.proofs.Prepared.{half_prepares, held_prepares}
use Rattle.std.specs.Prelude.{None}
use Rattle.fv_files.proofs.Right.{right_same, right_held}
use Rattle.fv_files.proofs.hold.prepare.Goals as goal

pub returns-in_err-ready-clause-prepares : goal.returns-in_err-ready-clause-prepares
returns-in_err-ready-clause-prepares g c =
    let is = c.in_err-ready.ensures in
    let p = err_from_is_err_and c.from_residual.result c.from_residual.ensures.1 in
    rw (p.1, p.2) (half_prepares g.B.Blocks.told (g.B.Blocks.shown c.args.blocks.now) (g.B.Blocks.shown c.ready.new.blocks) c.args.files.now c.ready.new.self c.args.files.now.trees c.args.info.now (Err c.in_err-ready.field-0.0) is.loads is.alike is.leaves (λ k. refl) c.requires.there (Err c.in_err-ready.field-0.0)
    (looks_inode g.B.Blocks.told (table_in (g.B.Blocks.shown c.args.blocks.now) c.args.files.now) (g.B.Blocks.shown c.args.blocks.now) (g.B.Blocks.shown c.ready.new.blocks) (Err c.in_err-ready.field-0.0) is.loads.looks) (λ told. tt) tt tt)

pub returns-in_err-hold-clause-prepares : goal.returns-in_err-hold-clause-prepares
returns-in_err-hold-clause-prepares g c =
    let is = c.in_ok-ready.ensures in
    let p = err_from_is_err_and c.from_residual-in_err-hold.result c.from_residual-in_err-hold.ensures.1 in
    rw (p.1, p.2) (half_prepares g.B.Blocks.told (g.B.Blocks.shown c.args.blocks.now) (g.B.Blocks.shown c.ready.new.blocks) c.args.files.now c.ready.new.self c.hold.new.trees c.args.info.now (Ok c.in_ok-ready.field-0) is.loads is.alike is.leaves c.in_err-hold.ensures.failed c.requires.there (Err c.in_err-hold.field-0.0)
    (looks_memory g.B.Blocks.told (table_in (g.B.Blocks.shown c.args.blocks.now) c.args.files.now) (g.B.Blocks.shown c.args.blocks.now) (g.B.Blocks.shown c.ready.new.blocks) c.in_ok-ready.field-0 c.in_err-hold.field-0.0 is.loads.looks.untouched is.loads.looks.counts c.in_err-hold.ensures.memory) (λ told. tt) tt tt)

pub returns-clause-prepares : goal.returns-clause-prepares
returns-clause-prepares g c =
    let old = g.B.Blocks.shown c.args.blocks.now in
    let new = g.B.Blocks.shown c.ready.new.blocks in
    let f = c.args.files.now in
    let is = c.in_ok-ready.ensures in
    let yes_ = c.if-not-branch.false in
    held_prepares g.B.Blocks.told old new f c.ready.new.self c.hold.new.trees c.args.info.now (subst (λ b. OnlyLoads g.B.Blocks.told old new f.inode.tree c.ready.new.self.tree (Ok b)) yes_ is.loads) is.alike is.leaves c.requires.there (is.ready yes_) c.in_ok-hold.ensures.holds

pub returns-in_err-ready-clause-pending : goal.returns-in_err-ready-clause-pending
returns-in_err-ready-clause-pending g c = omega (arith, c.in_err-ready.ensures.rises.pending)

pub returns-then-not-branch-clause-pending : goal.returns-then-not-branch-clause-pending
returns-then-not-branch-clause-pending g c = omega (arith, c.in_ok-ready.ensures.rises.pending)

pub returns-in_err-hold-clause-pending : goal.returns-in_err-hold-clause-pending
returns-in_err-hold-clause-pending g c = omega (arith, c.in_ok-ready.ensures.rises.pending, c.in_err-hold.ensures.cost)

pub returns-clause-pending : goal.returns-clause-pending
returns-clause-pending g c = omega (arith, c.in_ok-ready.ensures.rises.pending, c.in_ok-hold.ensures.cost)

pub ready-requires : goal.ready-requires
ready-requires g c = record { right = λ told. c.requires.right told None }

pub returns-in_err-ready-clause-right : goal.returns-in_err-ready-clause-right
returns-in_err-ready-clause-right g c = λ told. right_same (g.B.Blocks.shown c.args.blocks.now) (g.B.Blocks.shown c.ready.new.blocks) c.args.files.now c.args.files.now.trees c.args.info.now c.in_err-ready.ensures.loads.looks.untouched (c.requires.there told) (c.requires.right told) (λ k. refl)

pub returns-in_err-hold-clause-right : goal.returns-in_err-hold-clause-right
returns-in_err-hold-clause-right g c = λ told. right_same (g.B.Blocks.shown c.args.blocks.now) (g.B.Blocks.shown c.ready.new.blocks) c.args.files.now c.hold.new.trees c.args.info.now c.in_ok-ready.ensures.loads.looks.untouched (c.requires.there told) (c.requires.right told) c.in_err-hold.ensures.failed

pub returns-then-not-branch-clause-right : goal.returns-then-not-branch-clause-right
returns-then-not-branch-clause-right g c = λ told. right_same (g.B.Blocks.shown c.args.blocks.now) (g.B.Blocks.shown c.ready.new.blocks) c.args.files.now c.args.files.now.trees c.args.info.now c.in_ok-ready.ensures.loads.looks.untouched (c.requires.there told) (c.requires.right told) (λ k. refl)

pub returns-clause-right : goal.returns-clause-right
returns-clause-right g c = λ told. right_held (g.B.Blocks.shown c.args.blocks.now) (g.B.Blocks.shown c.ready.new.blocks) c.args.files.now c.hold.new.trees c.args.info.now c.in_ok-ready.ensures.loads.looks.untouched (c.requires.there told) (c.requires.right told) c.in_ok-hold.ensures.holds
