use Rattle.std.proofs.Common.{sym, subst, arith}
use Rattle.std.proofs.lemmas.Bool.{both_ways}
use Rattle.std.proofs.lemmas.Result.{on_ok_weaker, IfOk-weaker}
use Rattle.fv_laws.specs.WellFormed.{IsWellTable}
use Rattle.fv_files.specs.Tables.{table_in}
use Rattle.fv_tree.specs.Erasing.{HoldsCells}
use Rattle.fv_inode.specs.Files.{rooted}
use Rattle.fv_inode.proofs.Alike.{holds_after}
use Rattle.fv_files.proofs.Prepared.{changes_handed, removes_from, removal_counts_from, prepared_then, table_then}
use Rattle.fv_files.proofs.files.Files.remove.Goals as goal

pub returns-then-not-branch-clause-removed : goal.returns-then-not-branch-clause-removed
returns-then-not-branch-clause-removed g c = λ told. absurd (both_ways c.in_ok-prepare.field-0 c.if-not-branch.true (c.in_ok-prepare.ensures.prepares.found told))

pub returns-clause-removed : goal.returns-clause-removed
returns-clause-removed g c = λ told. let first = c.in_ok-prepare.ensures.prepares in
    on_ok_weaker c.remove_ready.result (λ is sound. removes_from _ _ _ (first.same told) c.args.info.now.number c.args.stamp (is (first.stands told sound))) (c.remove_ready.ensures.removed told)

pub returns-clause-changes : goal.returns-clause-changes
returns-clause-changes g c =
    prepared_then g.B.Blocks.told (HoldsCells (rooted (g.B.Blocks.shown c.args.blocks.now) c.args.self.now.inode)) (g.B.Blocks.shown c.args.blocks.now) (g.B.Blocks.shown c.prepare.new.blocks) c.args.self.now c.prepare.new.files c.args.info.now
    (g.B.Blocks.shown c.remove_ready.new.blocks) c.remove_ready.new.files c.in_ok-prepare.field-0 c.in_ok-prepare.ensures.prepares c.if-not-branch.false c.requires.there (HoldsCells (rooted (g.B.Blocks.shown c.prepare.new.blocks) c.prepare.new.files.inode))
    (λ told holds. holds_after (rooted (g.B.Blocks.shown c.args.blocks.now) c.args.self.now.inode) (rooted (g.B.Blocks.shown c.prepare.new.blocks) c.prepare.new.files.inode) (c.in_ok-prepare.ensures.prepares.alike told) holds)
    c.remove_ready.result c.remove_ready.ensures.changes

pub returns-clause-led : goal.returns-clause-led
returns-clause-led g c = λ told now well sound led.
    let first = c.in_ok-prepare.ensures.prepares in
    c.remove_ready.ensures.led told now (subst (IsWellTable now) (sym (first.same told)) well) (first.stands told sound) (first.led told sound led)

pub returns-clause-pending : goal.returns-clause-pending
returns-clause-pending g c = omega (arith, c.in_ok-prepare.ensures.pending, c.remove_ready.ensures.pending)

pub returns-clause-alters : goal.returns-clause-alters
returns-clause-alters g c =
    table_then g.B.Blocks.told (HoldsCells (rooted (g.B.Blocks.shown c.args.blocks.now) c.args.self.now.inode)) (g.B.Blocks.shown c.args.blocks.now) (g.B.Blocks.shown c.prepare.new.blocks) c.args.self.now c.prepare.new.files c.args.info.now c.args.stamp
    (g.B.Blocks.shown c.remove_ready.new.blocks) c.remove_ready.new.files c.in_ok-prepare.field-0 c.in_ok-prepare.ensures.prepares (HoldsCells (rooted (g.B.Blocks.shown c.prepare.new.blocks) c.prepare.new.files.inode))
    (λ told holds. holds_after (rooted (g.B.Blocks.shown c.args.blocks.now) c.args.self.now.inode) (rooted (g.B.Blocks.shown c.prepare.new.blocks) c.prepare.new.files.inode) (c.in_ok-prepare.ensures.prepares.alike told) holds)
    c.remove_ready.result c.remove_ready.ensures.alters

pub returns-then-not-branch-clause-counted : goal.returns-then-not-branch-clause-counted
returns-then-not-branch-clause-counted g c = λ told. absurd (both_ways c.in_ok-prepare.field-0 c.if-not-branch.true (c.in_ok-prepare.ensures.prepares.found told))

pub returns-clause-counted : goal.returns-clause-counted
returns-clause-counted g c = λ told. let first = c.in_ok-prepare.ensures.prepares in
    IfOk-weaker c.remove_ready.result _ _ (λ count is sound. removal_counts_from _ _ (table_in (g.B.Blocks.shown c.remove_ready.new.blocks) c.remove_ready.new.files) (first.same told) c.args.info.now.number c.args.stamp count (is (first.stands told sound))) (c.remove_ready.ensures.counted told)

pub returns-in_err-prepare-clause-changes : goal.returns-in_err-prepare-clause-changes
returns-in_err-prepare-clause-changes g c = changes_handed _ _ _ _ _ _ _ _ _ c.from_residual.ensures.1 c.in_err-prepare.ensures.prepares

pub returns-clause-calls : goal.returns-clause-calls
returns-clause-calls g c = g.met.B.Blocks.goes_on c.args.blocks.now c.prepare.new.blocks c.remove_ready.new.blocks (g.met.B.Blocks.reads_go c.args.blocks.now c.prepare.new.blocks c.in_ok-prepare.ensures.reads) c.remove_ready.ensures.calls
