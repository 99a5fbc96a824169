use Rattle.std.proofs.Common.{arith}
use Rattle.std.proofs.lemmas.Bool.{both_ways}
use Rattle.std.proofs.lemmas.Result.{on_ok_weaker}
use Rattle.fv_files.proofs.Prepared.{changes_handed, led_after, writes_from, prepared_then, table_then}
use Rattle.fv_files.proofs.files.Files.write.Goals as goal

pub returns-clause-pending : goal.returns-clause-pending
returns-clause-pending g c = omega (arith, c.in_ok-prepare.ensures.pending, c.write_ready.ensures.pending)

pub returns-clause-changes : goal.returns-clause-changes
returns-clause-changes g c =
    prepared_then _ _ _ _ _ _ _ _ _ _ c.in_ok-prepare.ensures.prepares c.if-not-branch.false c.requires.there _ (λ told asked. asked) _ c.write_ready.ensures.changes

pub returns-in_err-prepare-clause-changes : goal.returns-in_err-prepare-clause-changes
returns-in_err-prepare-clause-changes g c = changes_handed _ _ _ _ _ _ _ _ _ c.from_residual.ensures.1 c.in_err-prepare.ensures.prepares

pub returns-clause-led : goal.returns-clause-led
returns-clause-led g c = led_after _ _ _ (g.B.Blocks.shown c.write_ready.new.blocks) _ _ c.write_ready.new.files _ _ c.in_ok-prepare.ensures.prepares c.write_ready.ensures.led

pub returns-clause-alters : goal.returns-clause-alters
returns-clause-alters g c =
    table_then _ _ _ _ _ _ _ _ _ _ _ c.in_ok-prepare.ensures.prepares _ (λ told asked. asked) _ c.write_ready.ensures.alters

pub returns-then-not-branch-clause-written : goal.returns-then-not-branch-clause-written
returns-then-not-branch-clause-written g c = λ told. absurd (both_ways c.in_ok-prepare.field-0 c.if-not-branch.true (c.in_ok-prepare.ensures.prepares.found told))

pub returns-clause-written : goal.returns-clause-written
returns-clause-written g c = λ told. let first = c.in_ok-prepare.ensures.prepares in
    on_ok_weaker c.write_ready.result (writes_from _ _ _ (first.same told) c.args.info.now.number c.args.index c.args.stamp c.args.block.now) (c.write_ready.ensures.written told)
