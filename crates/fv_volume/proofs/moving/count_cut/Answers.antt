use Rattle.std.proofs.lemmas.Result.{IfOk-weaker}
use Rattle.fv_tables.specs.Told.{Standing}
use Rattle.fv_files.specs.Tables.{IsInfoOf}
use Rattle.fv_volume.proofs.RightTables.{active_tells}
use Rattle.fv_volume.proofs.Charged.{counts_cut}
use Rattle.fv_volume.proofs.OneVolumes.{root_fits}
use Rattle.fv_volume.proofs.TakenTable.{given_cause, is_given}
use Rattle.fv_volume.proofs.moving.count_cut.Goals as goal

pub take_table-files-requires-clause-root : goal.take_table-files-requires-clause-root
take_table-files-requires-clause-root g c = root_fits (g.D.Disk.shown c.args.disk.now) c.args.pool.now c.args.volume.now c.requires.ready

pub returns-clause-taken : goal.returns-clause-taken
returns-clause-taken g c = λ is. let taken = c.take_table-files.ensures in IfOk-weaker c.taken_cut_told-answer.result _ _ (λ count counted. counts_cut (g.D.Disk.shown c.args.disk.now) c.args.pool.now c.args.volume.now c.requires.ready is c.take_table-files.result taken.table taken.alike c.args.info.now (c.requires.there (active_tells (g.D.Disk.shown c.args.disk.now) c.args.pool.now c.args.volume.now is)) c.args.length count counted) (c.taken_cut_told-answer.ensures.taken (is_given (g.D.Disk.shown c.args.disk.now) c.args.pool.now c.args.volume.now c.take_table-files.result c.take_table-files.ensures.table c.take_table-files.ensures.trees (c.take_table-files.ensures.held, c.take_table-files.ensures.alike) (λ (s : Standing). IsInfoOf s.inode c.args.info.now) c.requires.there is))

pub returns-clause-cause : goal.returns-clause-cause
returns-clause-cause g c = given_cause (g.D.Disk.shown c.args.disk.now) c.args.pool.now c.args.volume.now c.take_table-files.result c.take_table-files.ensures.table c.take_table-files.ensures.trees (c.take_table-files.ensures.held, c.take_table-files.ensures.alike) (λ (s : Standing). IsInfoOf s.inode c.args.info.now) c.requires.there (g.D.Disk.shown c.taken_cut_told-answer.new.disk).faults c.taken_cut_told-answer.result c.taken_cut_told-answer.ensures.cause
