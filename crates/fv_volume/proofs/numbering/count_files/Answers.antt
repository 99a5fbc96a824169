use Rattle.std.proofs.Common.{sym, subst}
use Rattle.std.proofs.lemmas.Result.{IfOk-weaker}
use Rattle.fv_laws.specs.WellFormed.{IsWellTable}
use Rattle.fv_tables.specs.Told.{Standing, table_told}
use Rattle.fv_tree.specs.Standing.{under}
use Rattle.fv_files.specs.Numbering.{AreNumbersOf}
use Rattle.fv_volume.specs.OneVolume.{shows}
use Rattle.fv_volume.proofs.RightTables.{active_tells}
use Rattle.fv_volume.proofs.OneVolumes.{root_fits}
use Rattle.fv_volume.proofs.TakenTable.{is_told, told_cause}
use Rattle.fv_volume.proofs.numbering.count_files.Goals as goal

pub take_table-files-requires-clause-root : goal.take_table-files-requires-clause-root
take_table-files-requires-clause-root g c = root_fits (g.D.Disk.shown c.args.disk.now) c.args.pool.now c.args.volume.now c.requires.ready

pub returns-clause-cause : goal.returns-clause-cause
returns-clause-cause g c = told_cause (g.D.Disk.shown c.args.disk.now) c.args.pool.now c.args.volume.now c.take_table-files.result c.take_table-files.ensures.table c.take_table-files.ensures.trees (c.take_table-files.ensures.held, c.take_table-files.ensures.alike)
    (g.D.Disk.shown c.numbers_told-answer.new.disk).faults c.numbers_told-answer.result c.numbers_told-answer.ensures.cause

pub returns-clause-numbers : goal.returns-clause-numbers
returns-clause-numbers g c = λ is.
    let disk = g.D.Disk.shown c.args.disk.now in
    let x = c.args.volume.now in
    let same = c.take_table-files.ensures.table (under (shows disk c.args.pool.now x)) in
    IfOk-weaker c.numbers_told-answer.result _ _ (λ m are. subst (λ (s : Standing). AreNumbersOf m (table_told s)) same (are x.now (subst (λ (s : Standing). IsWellTable x.now (table_told s)) (sym same) is.table))) (c.numbers_told-answer.ensures.numbers (is_told (g.D.Disk.shown c.args.disk.now) c.args.pool.now c.args.volume.now c.take_table-files.result c.take_table-files.ensures.table c.take_table-files.ensures.trees (c.take_table-files.ensures.held, c.take_table-files.ensures.alike) (active_tells (g.D.Disk.shown c.args.disk.now) c.args.pool.now c.args.volume.now is)))
