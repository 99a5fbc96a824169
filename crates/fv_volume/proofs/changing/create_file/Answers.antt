use Rattle.std.proofs.Common.{◌≡◌, ◌+◌}
use Rattle.fv_model.specs.Tables.{new}
use Rattle.fv_tables.specs.Told.{Standing, table_told}
use Rattle.fv_inode.specs.Files.{IsLeastFree}
use Rattle.fv_files.specs.Tables.{table_in}
use Rattle.fv_pool.specs.Lending.{sees}
use Rattle.fv_volume.specs.OneVolume.{home_in}
use Rattle.fv_volume.proofs.TakenTable.{given_cause, kept_alters, taken_says}
use Rattle.fv_volume.proofs.changing.create_file.Goals as goal

pub returns-clause-made : goal.returns-clause-made
returns-clause-made g c = taken_says (g.D.Disk.shown c.args.disk.now) c.args.pool.now c.args.volume.now c.take_table-files.result c.take_table-files.ensures.table c.take_table-files.ensures.trees (c.take_table-files.ensures.held, c.take_table-files.ensures.alike) (λ (s : Standing). IsLeastFree s.inode c.args.number) c.requires.free c.create_told-answer.result (λ (s : Standing). table_told (table_in (sees c.args.pool.now c.create_told-answer.new.map (g.D.Disk.shown c.args.disk.now) (home_in c.args.volume.now)) c.create_told-answer.new.files) ≡ new (table_told s) c.args.file.now c.args.reserve (c.args.volume.now.now + 1)) c.create_told-answer.ensures.made

pub returns-clause-alters : goal.returns-clause-alters
returns-clause-alters g c = let taken = c.take_table-files.ensures in let told = c.create_told-answer.ensures in kept_alters (g.D.Disk.shown c.args.disk.now) c.args.pool.now c.args.volume.now c.take_table-files.result c.take_table-files.ensures.table c.take_table-files.ensures.trees (c.take_table-files.ensures.held, c.take_table-files.ensures.alike) (λ (s : Standing). IsLeastFree s.inode c.args.number) c.requires.free c.create_told-answer.result taken.held taken.led taken.well taken.pending (g.D.Disk.shown c.create_told-answer.new.disk) c.create_told-answer.new.pool c.create_told-answer.new.map c.create_told-answer.new.files told.leaves told.map told.reads

pub returns-clause-cause : goal.returns-clause-cause
returns-clause-cause g c = given_cause (g.D.Disk.shown c.args.disk.now) c.args.pool.now c.args.volume.now c.take_table-files.result c.take_table-files.ensures.table c.take_table-files.ensures.trees (c.take_table-files.ensures.held, c.take_table-files.ensures.alike) (λ (s : Standing). IsLeastFree s.inode c.args.number) c.requires.free (g.D.Disk.shown c.create_told-answer.new.disk).faults c.create_told-answer.result c.create_told-answer.ensures.cause
