use Rattle.std.proofs.Common.{sym, subst, arith}
use Rattle.std.proofs.lemmas.Bool.{both_ways}
use Rattle.std.proofs.lemmas.Result.{on_err_weaker, on_ok_weaker, IfOk-weaker}
use Rattle.fv_tree.proofs.Causes.{at_err}
use Rattle.fv_laws.specs.WellFormed.{IsWellTable}
use Rattle.fv_files.specs.Tables.{table_in}
use Rattle.fv_files.proofs.Prepared.{changes_handed, led_after, cuts_from, cut_counts_from, prepared_then, table_then}
use Rattle.fv_files.proofs.files.Files.cut.Goals as goal

pub returns-clause-changes : goal.returns-clause-changes
returns-clause-changes g c =
    prepared_then _ _ _ _ _ _ _ _ _ _ c.in_ok-prepare.ensures.prepares c.if-not-branch.false c.requires.there _ (λ told asked. asked) _ c.cut_ready.ensures.changes

pub returns-then-not-branch-clause-cut : goal.returns-then-not-branch-clause-cut
returns-then-not-branch-clause-cut g c = λ told. absurd (both_ways c.in_ok-prepare.field-0 c.if-not-branch.true (c.in_ok-prepare.ensures.prepares.found told))

pub returns-clause-cut : goal.returns-clause-cut
returns-clause-cut g c = λ told. let first = c.in_ok-prepare.ensures.prepares in
    on_ok_weaker c.cut_ready.result (λ is sound. cuts_from _ _ _ (first.same told) c.args.info.now.number c.args.length c.args.stamp (is (first.stands told sound))) (c.cut_ready.ensures.cut told)

pub returns-then-not-branch-clause-pending_done : goal.returns-then-not-branch-clause-pending_done
returns-then-not-branch-clause-pending_done g c = λ told sound now well. omega (arith, c.in_ok-prepare.ensures.pending)

pub returns-clause-pending_done : goal.returns-clause-pending_done
returns-clause-pending_done g c = λ told.
    let first = c.in_ok-prepare.ensures.prepares in
    on_ok_weaker c.cut_ready.result (λ is sound now well. let most = is (first.stands told sound) now (subst (IsWellTable now) (sym (first.same told)) well) in omega (arith, c.in_ok-prepare.ensures.pending, most)) (c.cut_ready.ensures.pending_done told)

pub returns-clause-alters : goal.returns-clause-alters
returns-clause-alters g c =
    table_then _ _ _ _ _ _ _ _ _ _ _ c.in_ok-prepare.ensures.prepares _ (λ told asked. asked) _ c.cut_ready.ensures.alters

pub returns-in_err-prepare-clause-pending : goal.returns-in_err-prepare-clause-pending
returns-in_err-prepare-clause-pending g c = at_err c.from_residual.result (omega (arith, c.in_err-prepare.ensures.pending))

pub returns-clause-led : goal.returns-clause-led
returns-clause-led g c = led_after _ _ _ (g.B.Blocks.shown c.cut_ready.new.blocks) _ _ c.cut_ready.new.files _ _ c.in_ok-prepare.ensures.prepares c.cut_ready.ensures.led

pub returns-clause-pending : goal.returns-clause-pending
returns-clause-pending g c = on_err_weaker c.cut_ready.result (λ less. omega (arith, c.in_ok-prepare.ensures.pending, less)) c.cut_ready.ensures.pending

pub returns-then-not-branch-clause-counted : goal.returns-then-not-branch-clause-counted
returns-then-not-branch-clause-counted g c = λ told. absurd (both_ways c.in_ok-prepare.field-0 c.if-not-branch.true (c.in_ok-prepare.ensures.prepares.found told))

pub returns-clause-counted : goal.returns-clause-counted
returns-clause-counted g c = λ told. let first = c.in_ok-prepare.ensures.prepares in
    IfOk-weaker c.cut_ready.result _ _ (λ count is sound. cut_counts_from _ _ (table_in (g.B.Blocks.shown c.cut_ready.new.blocks) c.cut_ready.new.files) (first.same told) c.args.info.now.number c.args.length c.args.stamp count (is (first.stands told sound))) (c.cut_ready.ensures.counted told)

pub returns-in_err-prepare-clause-changes : goal.returns-in_err-prepare-clause-changes
returns-in_err-prepare-clause-changes g c = changes_handed _ _ _ _ _ _ _ _ _ c.from_residual.ensures.1 c.in_err-prepare.ensures.prepares

pub returns-clause-calls : goal.returns-clause-calls
returns-clause-calls g c = g.met.B.Blocks.goes_on c.args.blocks.now c.prepare.new.blocks c.cut_ready.new.blocks (g.met.B.Blocks.reads_go c.args.blocks.now c.prepare.new.blocks c.in_ok-prepare.ensures.reads) c.cut_ready.ensures.calls
