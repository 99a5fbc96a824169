use Rattle.std.proofs.Common.{IfOk}
use Rattle.fv_tables.specs.Told.{Standing}
use Rattle.fv_files.specs.Calls.{AddsCell}
use Rattle.fv_files.specs.Tables.{IsInfoOf}
use Rattle.fv_volume.proofs.OneVolumes.{root_fits}
use Rattle.fv_volume.proofs.TakenTable.{given_cause, given_says}
use Rattle.fv_volume.proofs.moving.count_added.Goals as goal

pub take_table-files-requires-clause-root : goal.take_table-files-requires-clause-root
take_table-files-requires-clause-root g c = root_fits (g.D.Disk.shown c.args.disk.now) c.args.pool.now c.args.volume.now c.requires.ready

pub returns-clause-added : goal.returns-clause-added
returns-clause-added g c = given_says (g.D.Disk.shown c.args.disk.now) c.args.pool.now c.args.volume.now c.take_table-files.result c.take_table-files.ensures.table c.take_table-files.ensures.trees (c.take_table-files.ensures.held, c.take_table-files.ensures.alike)
    (λ (s : Standing). IsInfoOf s.inode c.args.info.now) c.requires.there (λ (s : Standing). IfOk c.added_told-answer.result (AddsCell s c.args.info.now.number c.args.index)) c.added_told-answer.ensures.added

pub returns-clause-cause : goal.returns-clause-cause
returns-clause-cause g c = given_cause (g.D.Disk.shown c.args.disk.now) c.args.pool.now c.args.volume.now c.take_table-files.result c.take_table-files.ensures.table c.take_table-files.ensures.trees (c.take_table-files.ensures.held, c.take_table-files.ensures.alike)
    (λ (s : Standing). IsInfoOf s.inode c.args.info.now) c.requires.there (g.D.Disk.shown c.added_told-answer.new.disk).faults c.added_told-answer.result c.added_told-answer.ensures.cause
