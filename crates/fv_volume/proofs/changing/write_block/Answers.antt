use Rattle.std.proofs.Common.{◌+◌, OnOk}
use Rattle.fv_tables.specs.Told.{Standing}
use Rattle.fv_files.specs.Calls.{WritesCell}
use Rattle.fv_files.specs.Tables.{table_in, IsInfoOf}
use Rattle.fv_pool.specs.Lending.{sees}
use Rattle.fv_volume.specs.OneVolume.{home_in}
use Rattle.fv_volume.proofs.TakenTable.{given_cause, given_says, kept_alters}
use Rattle.fv_volume.proofs.changing.write_block.Goals as goal

pub returns-clause-written : goal.returns-clause-written
returns-clause-written g c = given_says (g.D.Disk.shown c.args.disk.now) c.args.pool.now c.args.volume.now c.take_table-files.result c.take_table-files.ensures.table c.take_table-files.ensures.trees (c.take_table-files.ensures.held, c.take_table-files.ensures.alike) (λ (s : Standing). IsInfoOf s.inode c.args.info.now) c.requires.there (λ (s : Standing). OnOk c.write_told-answer.result (WritesCell s (table_in (sees c.args.pool.now c.write_told-answer.new.map (g.D.Disk.shown c.args.disk.now) (home_in c.args.volume.now)) c.write_told-answer.new.files) c.args.info.now.number c.args.index (c.args.volume.now.now + 1) c.args.block.now)) c.write_told-answer.ensures.written

pub returns-clause-alters : goal.returns-clause-alters
returns-clause-alters g c = let taken = c.take_table-files.ensures in let told = c.write_told-answer.ensures in kept_alters (g.D.Disk.shown c.args.disk.now) c.args.pool.now c.args.volume.now c.take_table-files.result c.take_table-files.ensures.table c.take_table-files.ensures.trees (c.take_table-files.ensures.held, c.take_table-files.ensures.alike) (λ (s : Standing). IsInfoOf s.inode c.args.info.now) c.requires.there c.write_told-answer.result taken.held taken.led taken.well taken.pending (g.D.Disk.shown c.write_told-answer.new.disk) c.write_told-answer.new.pool c.write_told-answer.new.map c.write_told-answer.new.files told.leaves told.map told.reads

pub returns-clause-cause : goal.returns-clause-cause
returns-clause-cause g c = given_cause (g.D.Disk.shown c.args.disk.now) c.args.pool.now c.args.volume.now c.take_table-files.result c.take_table-files.ensures.table c.take_table-files.ensures.trees (c.take_table-files.ensures.held, c.take_table-files.ensures.alike) (λ (s : Standing). IsInfoOf s.inode c.args.info.now) c.requires.there (g.D.Disk.shown c.write_told-answer.new.disk).faults c.write_told-answer.result c.write_told-answer.ensures.cause
