use Rattle.std.proofs.Common.{◌+◌}
use Rattle.fv_tables.specs.Told.{Standing}
use Rattle.fv_files.specs.Calls.{RemovesFile, TakesByRemoval}
use Rattle.fv_files.specs.Tables.{table_in, IsInfoOf}
use Rattle.fv_pool.specs.Calls.{HasWellTable}
use Rattle.fv_pool.specs.Lending.{sees}
use Rattle.fv_volume.specs.OneVolume.{home_in, shows}
use Rattle.fv_volume.proofs.TakenTable.{given_cause, is_well, taken_alters, taken_counts, taken_says}
use Rattle.fv_volume.proofs.removing.drop_file.Goals as goal

pub returns-clause-removed : goal.returns-clause-removed
returns-clause-removed g c = taken_says (g.D.Disk.shown c.args.disk.now) c.args.pool.now c.args.volume.now c.take_table-files.result c.take_table-files.ensures.table c.take_table-files.ensures.trees (c.take_table-files.ensures.held, c.take_table-files.ensures.alike) (λ (s : Standing). IsInfoOf s.inode c.args.info.now) c.requires.there c.remove_told-answer.result (λ (s : Standing). RemovesFile s (table_in (sees c.args.pool.now c.remove_told-answer.new.map (g.D.Disk.shown c.args.disk.now) (home_in c.args.volume.now)) c.remove_told-answer.new.files) c.args.info.now.number (c.args.volume.now.now + 1)) c.remove_told-answer.ensures.removed

pub returns-clause-counted : goal.returns-clause-counted
returns-clause-counted g c = taken_counts (g.D.Disk.shown c.args.disk.now) c.args.pool.now c.args.volume.now c.take_table-files.result c.take_table-files.ensures.table c.take_table-files.ensures.trees (c.take_table-files.ensures.held, c.take_table-files.ensures.alike) (λ (s : Standing). IsInfoOf s.inode c.args.info.now) c.requires.there c.remove_told-answer.result (λ (s : Standing). TakesByRemoval s c.args.info.now.number (c.args.volume.now.now + 1)) c.remove_told-answer.ensures.counted

pub returns-clause-alters : goal.returns-clause-alters
returns-clause-alters g c = let taken = c.take_table-files.ensures in let told = c.remove_told-answer.ensures in taken_alters (g.D.Disk.shown c.args.disk.now) c.args.pool.now c.args.volume.now c.take_table-files.result c.take_table-files.ensures.table c.take_table-files.ensures.trees (c.take_table-files.ensures.held, c.take_table-files.ensures.alike) (λ (s : Standing). IsInfoOf s.inode c.args.info.now) c.requires.there c.remove_told-answer.result (HasWellTable (shows (g.D.Disk.shown c.args.disk.now) c.args.pool.now c.args.volume.now) c.take_table-files.result) (is_well (g.D.Disk.shown c.args.disk.now) c.args.pool.now c.args.volume.now c.take_table-files.result c.take_table-files.ensures.table c.take_table-files.ensures.trees (c.take_table-files.ensures.held, c.take_table-files.ensures.alike)) taken.held taken.led taken.well taken.pending (g.D.Disk.shown c.remove_told-answer.new.disk) c.remove_told-answer.new.pool c.remove_told-answer.new.map c.remove_told-answer.new.files told.leaves told.maps told.reads told.told

pub returns-clause-cause : goal.returns-clause-cause
returns-clause-cause g c = given_cause (g.D.Disk.shown c.args.disk.now) c.args.pool.now c.args.volume.now c.take_table-files.result c.take_table-files.ensures.table c.take_table-files.ensures.trees (c.take_table-files.ensures.held, c.take_table-files.ensures.alike) (λ (s : Standing). IsInfoOf s.inode c.args.info.now) c.requires.there (g.D.Disk.shown c.remove_told-answer.new.disk).faults c.remove_told-answer.result c.remove_told-answer.ensures.cause
