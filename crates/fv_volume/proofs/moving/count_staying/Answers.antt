use Rattle.std.proofs.Common.{sym, ◌∙◌}
use Rattle.std.proofs.lemmas.Result.{IfOk-weaker}
use Rattle.fv_tables.specs.Told.{Standing}
use Rattle.fv_files.specs.Tables.{IsInfoOf}
use Rattle.fv_volume.proofs.RightTables.{active_tells}
use Rattle.fv_volume.proofs.Charged.{counts_put, none_by_put}
use Rattle.fv_volume.proofs.OneVolumes.{root_fits}
use Rattle.fv_volume.proofs.TakenTable.{given_cause, is_given}
use Rattle.fv_volume.proofs.TablesOf.{none_counted}
use Rattle.fv_volume.proofs.moving.count_staying.Goals as goal

pub take_table-files-requires-clause-root : goal.take_table-files-requires-clause-root
take_table-files-requires-clause-root g c = root_fits (g.D.Disk.shown c.args.disk.now) c.args.pool.now c.args.volume.now c.requires.ready

pub returns-then-has_one_table-clause-staying : goal.returns-then-has_one_table-clause-staying
returns-then-has_one_table-clause-staying g c = λ is. none_by_put (g.D.Disk.shown c.args.disk.now) c.args.pool.now c.args.volume.now (none_counted c.args.volume.now (sym c.if-has_one_table.true ∙ c.has_one_table.ensures)) c.args.info.now.number c.args.index

pub returns-clause-staying : goal.returns-clause-staying
returns-clause-staying g c = λ is. let taken = c.take_table-files.ensures in IfOk-weaker c.staying_told-answer.result _ _ (λ count counted. counts_put (g.D.Disk.shown c.args.disk.now) c.args.pool.now c.args.volume.now c.requires.ready is c.take_table-files.result taken.table taken.alike c.args.info.now (c.requires.there (active_tells (g.D.Disk.shown c.args.disk.now) c.args.pool.now c.args.volume.now is)) c.args.index count counted) (c.staying_told-answer.ensures.staying (is_given (g.D.Disk.shown c.args.disk.now) c.args.pool.now c.args.volume.now c.take_table-files.result c.take_table-files.ensures.table c.take_table-files.ensures.trees (c.take_table-files.ensures.held, c.take_table-files.ensures.alike) (λ (s : Standing). IsInfoOf s.inode c.args.info.now) c.requires.there is))

pub returns-clause-cause : goal.returns-clause-cause
returns-clause-cause g c = given_cause (g.D.Disk.shown c.args.disk.now) c.args.pool.now c.args.volume.now c.take_table-files.result c.take_table-files.ensures.table c.take_table-files.ensures.trees (c.take_table-files.ensures.held, c.take_table-files.ensures.alike) (λ (s : Standing). IsInfoOf s.inode c.args.info.now) c.requires.there (g.D.Disk.shown c.staying_told-answer.new.disk).faults c.staying_told-answer.result c.staying_told-answer.ensures.cause
