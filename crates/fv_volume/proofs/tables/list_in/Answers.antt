use Rattle.std.proofs.Common.{◌≡◌, IfOk, subst}
use Rattle.std.specs.FinMap as fin
use Rattle.fv_inode.specs.Listing.{names_told}
use Rattle.fv_tables.specs.Told.{Standing}
use Rattle.fv_tree.specs.Standing.{under}
use Rattle.fv_files.specs.Tables.{table_in}
use Rattle.fv_volume.specs.Asking.{standing_of, TellsAsked}
use Rattle.fv_pool.specs.Calls.{TellsTable}
use Rattle.fv_pool.specs.Lending.{lent_for}
use Rattle.fv_volume.specs.OneVolume.{home_in, shows}
use Rattle.fv_pool.proofs.CallCauses.{cause_for}
use Rattle.fv_volume.proofs.RightTables.{asked_tells, opened_tells}
use Rattle.fv_volume.proofs.tables.list_in.Given as given
use Rattle.fv_volume.proofs.tables.list_in.Goals as goal

-- the table that was opened is the one that is asked
same : (g : given.Over) (c : goal.After-close_table g) → table_in (shows (g.D.Disk.shown c.args.disk.now) c.args.pool.now c.args.volume.now) c.open_table-files.result ≡ standing_of (g.D.Disk.shown c.args.disk.now) c.args.pool.now c.args.volume.now c.args.table.now
same g c = c.open_table-files.ensures.table (under (shows (g.D.Disk.shown c.args.disk.now) c.args.pool.now c.args.volume.now))

pub returns-clause-names : goal.returns-clause-names
returns-clause-names g c = λ is. subst (λ (s : Standing). IfOk c.list_told-answer.result (λ names. names ≡ fin.keys (names_told s.inode))) (same g c)
    (c.list_told-answer.ensures.names (opened_tells (g.D.Disk.shown c.args.disk.now) c.args.pool.now c.args.volume.now c.args.table.now c.open_table-files.result c.open_table-files.ensures.opens (asked_tells (g.D.Disk.shown c.args.disk.now) c.args.pool.now c.args.volume.now is c.args.table.now c.requires.of)))

pub returns-clause-cause : goal.returns-clause-cause
returns-clause-cause g c = cause_for (TellsAsked (g.D.Disk.shown c.args.disk.now) c.args.pool.now c.args.volume.now c.args.table.now) (TellsTable (g.D.Disk.shown c.args.disk.now) c.args.pool.now c.args.volume.now.map (home_in c.args.volume.now) c.open_table-files.result)
    (opened_tells (g.D.Disk.shown c.args.disk.now) c.args.pool.now c.args.volume.now c.args.table.now c.open_table-files.result c.open_table-files.ensures.opens) (lent_for c.args.pool.now c.args.volume.now.map (g.D.Disk.shown c.args.disk.now) 0 (home_in c.args.volume.now) 0) (g.D.Disk.shown c.list_told-answer.new.disk).faults
    (table_in (shows (g.D.Disk.shown c.args.disk.now) c.args.pool.now c.args.volume.now) c.open_table-files.result) (standing_of (g.D.Disk.shown c.args.disk.now) c.args.pool.now c.args.volume.now c.args.table.now) c.list_told-answer.result (same g c) c.list_told-answer.ensures.cause
