use Rattle.std.proofs.Common.{IfOk, Option, subst}
use Rattle.fv_tables.specs.Told.{Standing}
use Rattle.fv_tree.specs.Standing.{under}
use Rattle.fv_inode.specs.Files.{IsFreeNumber}
use Rattle.fv_files.specs.declared.numbers.FileNumbers.{FileNumbers}
use Rattle.fv_files.specs.Numbering.{AreNumbersIf}
use Rattle.fv_volume.specs.OneVolume.{shows, standing_for, table_for}
use Rattle.fv_volume.proofs.OneVolumes.{root_fits}
use Rattle.fv_volume.proofs.TakenTable.{is_told, told_cause}
use Rattle.fv_volume.proofs.numbering.find_number.Goals as goal

pub take_table-files-requires-clause-root : goal.take_table-files-requires-clause-root
take_table-files-requires-clause-root g c = root_fits (g.D.Disk.shown c.args.disk.now) c.args.pool.now c.args.volume.now c.requires.ready

pub returns-in-Some-clause-number : goal.returns-in-Some-clause-number
returns-in-Some-clause-number g c = λ is.
    let d = g.D.Disk.shown c.args.disk.now in
    c.free_number.ensures.number (standing_for d c.args.pool.now c.args.volume.now) (subst (λ (o : Option FileNumbers). AreNumbersIf o (table_for d c.args.pool.now c.args.volume.now)) c.in-Some.is is.numbers)

pub returns-clause-cause : goal.returns-clause-cause
returns-clause-cause g c = told_cause (g.D.Disk.shown c.args.disk.now) c.args.pool.now c.args.volume.now c.take_table-files.result c.take_table-files.ensures.table c.take_table-files.ensures.trees (c.take_table-files.ensures.held, c.take_table-files.ensures.alike)
    (g.D.Disk.shown c.number_told-answer.new.disk).faults c.number_told-answer.result c.number_told-answer.ensures.cause

pub returns-clause-number : goal.returns-clause-number
returns-clause-number g c = λ is.
    let d = g.D.Disk.shown c.args.disk.now in
    let x = c.args.volume.now in
    subst (λ (s : Standing). IfOk c.number_told-answer.result (IsFreeNumber s.inode)) (c.take_table-files.ensures.table (under (shows d c.args.pool.now x)))
    (c.number_told-answer.ensures.number (is_told d c.args.pool.now x c.take_table-files.result c.take_table-files.ensures.table c.take_table-files.ensures.trees (c.take_table-files.ensures.held, c.take_table-files.ensures.alike) is))
