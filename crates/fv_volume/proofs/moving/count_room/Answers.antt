use Rattle.std.proofs.Common.{IfOk, subst}
use Rattle.fv_tables.specs.Told.{Standing}
use Rattle.fv_tree.specs.Standing.{under}
use Rattle.fv_files.specs.Calls.{AddsFile}
use Rattle.fv_volume.specs.OneVolume.{shows}
use Rattle.fv_volume.proofs.RightTables.{active_tells}
use Rattle.fv_volume.proofs.OneVolumes.{root_fits}
use Rattle.fv_volume.proofs.TakenTable.{is_told, told_cause}
use Rattle.fv_volume.proofs.moving.count_room.Goals as goal

pub take_table-files-requires-clause-root : goal.take_table-files-requires-clause-root
take_table-files-requires-clause-root g c = root_fits (g.D.Disk.shown c.args.disk.now) c.args.pool.now c.args.volume.now c.requires.ready

pub returns-clause-added : goal.returns-clause-added
returns-clause-added g c = λ is.
    subst (λ (s : Standing). IfOk c.room_told-answer.result (AddsFile s c.args.number)) (c.take_table-files.ensures.table (under (shows (g.D.Disk.shown c.args.disk.now) c.args.pool.now c.args.volume.now)))
    (c.room_told-answer.ensures.added (is_told (g.D.Disk.shown c.args.disk.now) c.args.pool.now c.args.volume.now c.take_table-files.result c.take_table-files.ensures.table c.take_table-files.ensures.trees (c.take_table-files.ensures.held, c.take_table-files.ensures.alike) (active_tells (g.D.Disk.shown c.args.disk.now) c.args.pool.now c.args.volume.now is)))

pub returns-clause-cause : goal.returns-clause-cause
returns-clause-cause g c = told_cause (g.D.Disk.shown c.args.disk.now) c.args.pool.now c.args.volume.now c.take_table-files.result c.take_table-files.ensures.table c.take_table-files.ensures.trees (c.take_table-files.ensures.held, c.take_table-files.ensures.alike)
    (g.D.Disk.shown c.room_told-answer.new.disk).faults c.room_told-answer.result c.room_told-answer.ensures.cause
