use Rattle.std.proofs.Common.{◌+◌, ap, arith}
use Rattle.std.specs.Prelude.{is_some}
use Rattle.fv_files.specs.Altering.{AltersPlaces}
use Rattle.fv_files.specs.Calls.{Changes}
use Rattle.fv_files.proofs.Looked.{handed_on}
use Rattle.fv_files.proofs.Steps.{cut_failed, cut_led_failed, cut_pending, cut_table_failed}
use Rattle.fv_files.specs.Tables.{table_in}
use Rattle.fv_files.proofs.Counted.{as_many}
use Rattle.fv_files.proofs.Removed.{remove_table, remove_counts, remove_few, remove_led, remove_pending, remove_done, remove_table_done}
use Rattle.fv_files.proofs.remove.remove_ready.Goals as goal

pub returns-in_err-own-clause-changes : goal.returns-in_err-own-clause-changes
returns-in_err-own-clause-changes g c =
    handed_on (Changes _ _ _ _ _ _ _) _ c.from_residual.result c.from_residual.ensures.1 (cut_failed _ _ _ _ _ _ _ _ _ _ _ _ c.in_err-own.ensures)

pub returns-clause-removed : goal.returns-clause-removed
returns-clause-removed g c = λ told sound.
    let is = c.requires.prepared.there told in
    remove_table g.B.Blocks.told (g.B.Blocks.goes c.args.blocks.now c.cut_kept.new.blocks) (g.B.Blocks.goes c.cut_kept.new.blocks c.erase-inode.new.blocks) (g.B.Blocks.shown c.args.blocks.now) (g.B.Blocks.shown c.cut_kept.new.blocks) (g.B.Blocks.shown c.erase-inode.new.blocks)
    c.args.files.now c.cut_kept.new.trees c.forget.new.trees c.erase-inode.new.self c.args.info.now.number c.least_levels-start.result c.args.stamp c.in_ok-own.own c.erase-inode.result c.in_ok-own.ensures c.erase-inode.ensures.takes c.forget.ensures.gone told sound (ap is_some is.there)

pub returns-clause-counted : goal.returns-clause-counted
returns-clause-counted g c = λ told sound.
    let there = ap is_some (c.requires.prepared.there told).there in
    let few = remove_few g.B.Blocks.told (g.B.Blocks.goes c.args.blocks.now c.cut_kept.new.blocks) (g.B.Blocks.goes c.cut_kept.new.blocks c.erase-inode.new.blocks) (g.B.Blocks.shown c.args.blocks.now) (g.B.Blocks.shown c.cut_kept.new.blocks) (g.B.Blocks.shown c.erase-inode.new.blocks)
    c.args.files.now c.cut_kept.new.trees c.forget.new.trees c.erase-inode.new.self c.args.info.now.number c.least_levels-start.result c.args.stamp c.in_ok-own.own c.erase-inode.result c.in_ok-own.ensures c.erase-inode.ensures.takes c.forget.ensures.gone told sound in
    as_many (table_in (g.B.Blocks.shown c.args.blocks.now) c.args.files.now) c.args.info.now.number c.args.stamp (c.in_ok-own.own + c.erase-inode.result) c.saturating_add-count.result (omega (arith, c.saturating_add-count.ensures, few))
    (remove_counts g.B.Blocks.told (g.B.Blocks.goes c.args.blocks.now c.cut_kept.new.blocks) (g.B.Blocks.goes c.cut_kept.new.blocks c.erase-inode.new.blocks) (g.B.Blocks.shown c.args.blocks.now) (g.B.Blocks.shown c.cut_kept.new.blocks) (g.B.Blocks.shown c.erase-inode.new.blocks)
    c.args.files.now c.cut_kept.new.trees c.forget.new.trees c.erase-inode.new.self c.args.info.now.number c.least_levels-start.result c.args.stamp c.in_ok-own.own c.erase-inode.result c.in_ok-own.ensures c.erase-inode.ensures.takes c.forget.ensures.gone told sound there)

pub returns-clause-changes : goal.returns-clause-changes
returns-clause-changes g c =
    remove_done g.B.Blocks.told (g.B.Blocks.goes c.args.blocks.now c.cut_kept.new.blocks) (g.B.Blocks.goes c.cut_kept.new.blocks c.erase-inode.new.blocks) (g.B.Blocks.shown c.args.blocks.now) (g.B.Blocks.shown c.cut_kept.new.blocks) (g.B.Blocks.shown c.erase-inode.new.blocks)
    c.args.files.now c.cut_kept.new.trees c.forget.new.trees c.erase-inode.new.self c.args.info.now.number c.least_levels-start.result c.args.stamp c.in_ok-own.own c.erase-inode.result c.in_ok-own.ensures c.erase-inode.ensures.takes c.forget.ensures.gone _ c.erase-inode.ensures.others_ready

pub returns-in_err-own-clause-led : goal.returns-in_err-own-clause-led
returns-in_err-own-clause-led g c = λ told now well.
    cut_led_failed g.B.Blocks.told (g.B.Blocks.goes c.args.blocks.now c.cut_kept.new.blocks) (Unit {0}) (g.B.Blocks.shown c.args.blocks.now) (g.B.Blocks.shown c.cut_kept.new.blocks)
    c.args.files.now c.cut_kept.new.trees c.args.info.now.number 0 c.least_levels-start.result c.args.stamp c.in_err-own.field-0.0 c.in_err-own.ensures told

pub returns-clause-led : goal.returns-clause-led
returns-clause-led g c = λ told now well sound led.
    remove_led g.B.Blocks.told (g.B.Blocks.goes c.args.blocks.now c.cut_kept.new.blocks) (g.B.Blocks.goes c.cut_kept.new.blocks c.erase-inode.new.blocks) (g.B.Blocks.shown c.args.blocks.now) (g.B.Blocks.shown c.cut_kept.new.blocks) (g.B.Blocks.shown c.erase-inode.new.blocks)
    c.args.files.now c.cut_kept.new.trees c.forget.new.trees c.erase-inode.new.self c.args.info.now.number c.least_levels-start.result c.args.stamp c.in_ok-own.own c.erase-inode.result c.in_ok-own.ensures c.erase-inode.ensures.takes c.forget.ensures.gone told sound (ap is_some (c.requires.prepared.there told).there) now well led

pub returns-in_err-own-clause-pending : goal.returns-in_err-own-clause-pending
returns-in_err-own-clause-pending g c =
    let less = cut_pending g.B.Blocks.told (g.B.Blocks.goes c.args.blocks.now c.cut_kept.new.blocks) (Unit {0}) (g.B.Blocks.shown c.args.blocks.now) (g.B.Blocks.shown c.cut_kept.new.blocks)
    c.args.files.now c.cut_kept.new.trees c.args.info.now.number 0 c.least_levels-start.result c.args.stamp c.in_err-own.field-0.0 c.in_err-own.ensures in
    omega (arith, less)

pub returns-clause-pending : goal.returns-clause-pending
returns-clause-pending g c =
    remove_pending g.B.Blocks.told (g.B.Blocks.goes c.args.blocks.now c.cut_kept.new.blocks) (g.B.Blocks.goes c.cut_kept.new.blocks c.erase-inode.new.blocks) (g.B.Blocks.shown c.args.blocks.now) (g.B.Blocks.shown c.cut_kept.new.blocks) (g.B.Blocks.shown c.erase-inode.new.blocks)
    c.args.files.now c.cut_kept.new.trees c.forget.new.trees c.erase-inode.new.self c.args.info.now.number c.least_levels-start.result c.args.stamp c.in_ok-own.own c.erase-inode.result c.in_ok-own.ensures c.erase-inode.ensures.takes c.forget.ensures.gone c.erase-inode.ensures.rises.pending c.forget.ensures.cost

pub returns-in_err-own-clause-alters : goal.returns-in_err-own-clause-alters
returns-in_err-own-clause-alters g c =
    handed_on (AltersPlaces _ _ _ _ _ _ _) _ c.from_residual.result c.from_residual.ensures.1 (cut_table_failed _ _ _ _ _ _ _ _ _ _ _ _ c.in_err-own.ensures)

pub returns-clause-alters : goal.returns-clause-alters
returns-clause-alters g c =
    remove_table_done g.B.Blocks.told (g.B.Blocks.goes c.args.blocks.now c.cut_kept.new.blocks) (g.B.Blocks.goes c.cut_kept.new.blocks c.erase-inode.new.blocks) (g.B.Blocks.shown c.args.blocks.now) (g.B.Blocks.shown c.cut_kept.new.blocks) (g.B.Blocks.shown c.erase-inode.new.blocks)
    c.args.files.now c.cut_kept.new.trees c.forget.new.trees c.erase-inode.new.self c.args.info.now.number c.least_levels-start.result c.args.stamp c.in_ok-own.own c.erase-inode.result c.in_ok-own.ensures c.erase-inode.ensures.takes c.forget.ensures.gone _
