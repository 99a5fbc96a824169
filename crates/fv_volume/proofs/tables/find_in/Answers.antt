use Rattle.std.proofs.Common.{◌≡◌, IfOk, sym, subst}
use Rattle.fv_inode.specs.Files.{Finds}
use Rattle.fv_tables.specs.Told.{Standing, table_told}
use Rattle.fv_tree.specs.Standing.{under}
use Rattle.fv_files.specs.Numbering.{AreNumbersIf}
use Rattle.fv_files.specs.Tables.{table_in}
use Rattle.fv_volume.specs.Asking.{numbers_asked, standing_of, TellsAsked}
use Rattle.fv_pool.specs.Calls.{TellsTable}
use Rattle.fv_pool.specs.Lending.{lent_for}
use Rattle.fv_volume.specs.OneVolume.{home_in, shows}
use Rattle.fv_pool.proofs.CallCauses.{cause_for}
use Rattle.fv_volume.proofs.RightTables.{opened_tells}
use Rattle.fv_volume.proofs.tables.find_in.Given as given
use Rattle.fv_volume.proofs.tables.find_in.Goals as goal

-- the table that was opened is the one that is asked
same : (g : given.Over) (c : goal.Joined-none g) → table_in (shows (g.D.Disk.shown c.args.disk.now) c.args.pool.now c.args.volume.now) c.open_table-files.result ≡ standing_of (g.D.Disk.shown c.args.disk.now) c.args.pool.now c.args.volume.now c.args.table.now
same g c = c.open_table-files.ensures.table (under (shows (g.D.Disk.shown c.args.disk.now) c.args.pool.now c.args.volume.now))

-- the numbers of files that are used are its own
numbered : (g : given.Over) (c : goal.Joined-none g) → TellsAsked (g.D.Disk.shown c.args.disk.now) c.args.pool.now c.args.volume.now c.args.table.now → AreNumbersIf c.numbers_for.result.now (table_told (table_in (shows (g.D.Disk.shown c.args.disk.now) c.args.pool.now c.args.volume.now) c.open_table-files.result))
numbered g c told = subst (λ n. AreNumbersIf n (table_told (table_in (shows (g.D.Disk.shown c.args.disk.now) c.args.pool.now c.args.volume.now) c.open_table-files.result))) (sym c.numbers_for.ensures)
    (subst (λ (s : Standing). AreNumbersIf (numbers_asked c.args.table.now c.args.volume.now.numbers) (table_told s)) (sym (same g c)) told.numbers)

-- what is told of the call
given_by : (g : given.Over) (c : goal.Joined-none g) → TellsAsked (g.D.Disk.shown c.args.disk.now) c.args.pool.now c.args.volume.now c.args.table.now
    → TellsTable (g.D.Disk.shown c.args.disk.now) c.args.pool.now c.args.volume.now.map (home_in c.args.volume.now) c.open_table-files.result × AreNumbersIf c.numbers_for.result.now (table_told (table_in (shows (g.D.Disk.shown c.args.disk.now) c.args.pool.now c.args.volume.now) c.open_table-files.result))
given_by g c told = (opened_tells (g.D.Disk.shown c.args.disk.now) c.args.pool.now c.args.volume.now c.args.table.now c.open_table-files.result c.open_table-files.ensures.opens told, numbered g c told)

pub returns-clause-found : goal.returns-clause-found
returns-clause-found g c = λ told. subst (λ (s : Standing). IfOk c.find_told-answer.result (Finds s.inode c.args.name.now)) (same g c) (c.find_told-answer.ensures.found (given_by g c told))

pub returns-clause-cause : goal.returns-clause-cause
returns-clause-cause g c = cause_for (TellsAsked (g.D.Disk.shown c.args.disk.now) c.args.pool.now c.args.volume.now c.args.table.now) _ (given_by g c) (lent_for c.args.pool.now c.args.volume.now.map (g.D.Disk.shown c.args.disk.now) 0 (home_in c.args.volume.now) 0) (g.D.Disk.shown c.find_told-answer.new.disk).faults
    (table_in (shows (g.D.Disk.shown c.args.disk.now) c.args.pool.now c.args.volume.now) c.open_table-files.result) (standing_of (g.D.Disk.shown c.args.disk.now) c.args.pool.now c.args.volume.now c.args.table.now) c.find_told-answer.result (same g c) c.find_told-answer.ensures.cause
