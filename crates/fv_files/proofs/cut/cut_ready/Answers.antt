use Rattle.std.proofs.Common.{ap, subst, arith}
use Rattle.fv_tree.specs.Beside.{LeadsTo, Spares}
use Rattle.fv_tree.specs.Flushing.{Stands, loaded}
use Rattle.std.specs.Option.{option_map}
use Rattle.fv_tables.specs.Spelled.{stored}
use Rattle.fv_tables.specs.Told.{tree_or}
use Rattle.fv_tree.specs.Erasing.{HoldsCells}
use Rattle.fv_tree.specs.Standing.{standing, under}
use Rattle.fv_tree.proofs.Causes.{at_err}
use Rattle.fv_inode.specs.Files.{with_info}
use Rattle.fv_files.specs.Altering.{AltersPlaces}
use Rattle.fv_files.specs.Tables.{table_in, AreStanding}
use Rattle.fv_files.proofs.Looked.{handed_on}
use Rattle.fv_files.proofs.Counted.{tree_holds}
use Rattle.fv_files.specs.Calls.{shortened, Changes}
use Rattle.fv_files.proofs.Steps.{cut_failed, cut_done, cut_led, cut_led_failed, cut_pending, cut_pending_done, cut_spares, cut_stood, cut_table_done, cut_table_failed, Restates}
use Rattle.fv_files.proofs.Wrote.{cut_table, cut_takes, restates_as}
use Rattle.fv_files.proofs.cut.cut_ready.Given as given
use Rattle.fv_files.proofs.cut.cut_ready.Goals as goal

pub returns-in_err-count-clause-changes : goal.returns-in_err-count-clause-changes
returns-in_err-count-clause-changes g c =
    handed_on (Changes _ _ _ _ _ _ _) _ c.from_residual.result c.from_residual.ensures.1 (cut_failed _ _ _ _ _ _ _ _ _ _ _ _ c.in_err-count.ensures)

-- the record that the file gets
restated : (g : given.Over) (c : goal.After-rewrite g) → Restates c.args.files.now c.rewrite.new.self c.args.info.now.number c.args.stamp (with_info (shortened c.args.info.now c.args.length))
restated g c = restates_as c.args.files.now c.rewrite.new.self c.args.stamp c.shortened.result (shortened c.args.info.now c.args.length) c.shortened.ensures.is c.rewrite.ensures.rewrites c.rewrite.ensures.alters c.rewrite.ensures.marked

-- the tree stood, and its cut spares the others
stood : (g : given.Over) (c : goal.After-rewrite g) → g.B.Blocks.told → AreStanding (g.B.Blocks.shown c.args.blocks.now) c.args.files.now → Stands (g.B.Blocks.shown c.args.blocks.now) c.in_ok-count.ensures.tree
stood g c = cut_stood g.B.Blocks.told (g.B.Blocks.goes c.args.blocks.now c.cut_kept.new.blocks) (Unit {0}) (g.B.Blocks.shown c.args.blocks.now) (g.B.Blocks.shown c.cut_kept.new.blocks) c.args.files.now c.cut_kept.new.trees c.args.info.now.number c.args.length c.least_levels-start.result c.args.stamp c.in_ok-count.count c.in_ok-count.ensures

spared : (g : given.Over) (c : goal.After-rewrite g) → g.B.Blocks.told → AreStanding (g.B.Blocks.shown c.args.blocks.now) c.args.files.now → Spares (g.B.Blocks.shown c.args.blocks.now) (g.B.Blocks.shown c.cut_kept.new.blocks) (LeadsTo (loaded (g.B.Blocks.shown c.args.blocks.now) c.in_ok-count.ensures.tree)) (LeadsTo (loaded (g.B.Blocks.shown c.cut_kept.new.blocks) c.in_ok-count.ensures.next))
spared g c = cut_spares g.B.Blocks.told (g.B.Blocks.goes c.args.blocks.now c.cut_kept.new.blocks) (Unit {0}) (g.B.Blocks.shown c.args.blocks.now) (g.B.Blocks.shown c.cut_kept.new.blocks) c.args.files.now c.cut_kept.new.trees c.args.info.now.number c.args.length c.least_levels-start.result c.args.stamp c.in_ok-count.count c.in_ok-count.ensures

pub returns-clause-cut : goal.returns-clause-cut
returns-clause-cut g c = λ told sound.
    let cuts = c.in_ok-count.ensures in
    cut_table (g.B.Blocks.shown c.args.blocks.now) (g.B.Blocks.shown c.cut_kept.new.blocks) c.args.files.now c.cut_kept.new.trees c.rewrite.new.self c.args.info.now c.args.stamp cuts.tree cuts.next cuts.becomes (c.requires.prepared.there told) sound (spared g c told sound)
    c.args.length c.least_levels-start.result c.least_levels-start.ensures.least (restated g c).rewrites (cuts.removal.erased told (stood g c told sound))

pub returns-clause-counted : goal.returns-clause-counted
returns-clause-counted g c = λ told sound.
    let cuts = c.in_ok-count.ensures in
    cut_takes (g.B.Blocks.shown c.args.blocks.now) (g.B.Blocks.shown c.cut_kept.new.blocks) c.args.files.now c.cut_kept.new.trees c.rewrite.new.self c.args.info.now c.args.stamp cuts.tree cuts.next cuts.becomes (c.requires.prepared.there told) sound (spared g c told sound)
    c.args.length c.least_levels-start.result c.least_levels-start.ensures.least (restated g c).rewrites (cuts.removal.erased told (stood g c told sound)) c.in_ok-count.count (cuts.removal.count told (stood g c told sound))

pub returns-clause-changes : goal.returns-clause-changes
returns-clause-changes g c =
    cut_done g.B.Blocks.told (g.B.Blocks.goes c.args.blocks.now c.cut_kept.new.blocks) (Unit {0}) (g.B.Blocks.shown c.args.blocks.now) (g.B.Blocks.shown c.cut_kept.new.blocks) c.args.files.now c.cut_kept.new.trees c.args.info.now.number c.args.length
    c.least_levels-start.result c.args.stamp c.rewrite.new.self (with_info (shortened c.args.info.now c.args.length)) c.in_ok-count.count c.in_ok-count.ensures (restated g c)

pub returns-in_err-count-clause-led : goal.returns-in_err-count-clause-led
returns-in_err-count-clause-led g c =
    cut_led_failed g.B.Blocks.told (g.B.Blocks.goes c.args.blocks.now c.cut_kept.new.blocks) (Unit {0}) (g.B.Blocks.shown c.args.blocks.now) (g.B.Blocks.shown c.cut_kept.new.blocks) c.args.files.now c.cut_kept.new.trees c.args.info.now.number c.args.length c.least_levels-start.result c.args.stamp c.in_err-count.field-0.0 c.in_err-count.ensures

pub returns-clause-led : goal.returns-clause-led
returns-clause-led g c =
    cut_led g.B.Blocks.told (g.B.Blocks.goes c.args.blocks.now c.cut_kept.new.blocks) (Unit {0}) (g.B.Blocks.shown c.args.blocks.now) (g.B.Blocks.shown c.cut_kept.new.blocks) c.args.files.now c.cut_kept.new.trees c.args.info.now.number c.args.length c.least_levels-start.result c.args.stamp c.rewrite.new.self (with_info (shortened c.args.info.now c.args.length)) c.in_ok-count.count c.in_ok-count.ensures (restated g c)

pub returns-in_err-count-clause-pending : goal.returns-in_err-count-clause-pending
returns-in_err-count-clause-pending g c =
    let less = cut_pending g.B.Blocks.told (g.B.Blocks.goes c.args.blocks.now c.cut_kept.new.blocks) (Unit {0}) (g.B.Blocks.shown c.args.blocks.now) (g.B.Blocks.shown c.cut_kept.new.blocks) c.args.files.now c.cut_kept.new.trees c.args.info.now.number c.args.length c.least_levels-start.result c.args.stamp c.in_err-count.field-0.0 c.in_err-count.ensures in
    at_err c.from_residual.result (omega (arith, less))

pub returns-clause-pending_done : goal.returns-clause-pending_done
returns-clause-pending_done g c = λ told sound now well.
    let f = c.args.files.now in
    let info = c.args.info.now in
    let old = g.B.Blocks.shown c.args.blocks.now in
    let is = c.requires.prepared.there told in
    let cuts = c.in_ok-count.ensures in
    let holds = subst HoldsCells (ap (λ o. tree_or (option_map (standing (under old)) o) (stored (under old) info.number is.file.levels is.file.root)) cuts.becomes.was) (tree_holds (table_in old f) info.number is.file is.there now well) in
    let most = cut_pending_done g.B.Blocks.told (g.B.Blocks.goes c.args.blocks.now c.cut_kept.new.blocks) (Unit {0}) (g.B.Blocks.shown c.args.blocks.now) (g.B.Blocks.shown c.cut_kept.new.blocks) c.args.files.now c.cut_kept.new.trees c.args.info.now.number c.args.length c.least_levels-start.result c.args.stamp c.in_ok-count.count cuts told sound holds in
    omega (arith, most, c.rewrite.ensures.rises.pending)

pub returns-in_err-count-clause-alters : goal.returns-in_err-count-clause-alters
returns-in_err-count-clause-alters g c =
    handed_on (AltersPlaces _ _ _ _ _ _ _) _ c.from_residual.result c.from_residual.ensures.1 (cut_table_failed _ _ _ _ _ _ _ _ _ _ _ _ c.in_err-count.ensures)

pub returns-clause-alters : goal.returns-clause-alters
returns-clause-alters g c =
    cut_table_done g.B.Blocks.told (g.B.Blocks.goes c.args.blocks.now c.cut_kept.new.blocks) (Unit {0}) (g.B.Blocks.shown c.args.blocks.now) (g.B.Blocks.shown c.cut_kept.new.blocks) c.args.files.now c.cut_kept.new.trees c.args.info.now.number c.args.length
    c.least_levels-start.result c.args.stamp c.rewrite.new.self (with_info (shortened c.args.info.now c.args.length)) c.in_ok-count.count c.in_ok-count.ensures (restated g c)
