use Rattle.std.proofs.Common.{◌≡◌, ◌+◌, OnOk, sym, subst}
use Rattle.fv_tables.specs.Told.{Standing}
use Rattle.fv_tree.specs.Standing.{under}
use Rattle.fv_inode.specs.Files.{rooted}
use Rattle.fv_files.specs.Calls.{GivesCell}
use Rattle.fv_files.specs.Tables.{loaded_trees, table_in, IsInfoOf}
use Rattle.fv_volume.specs.Asking.{standing_of, trees_of, ReadsAsked, TellsAsked}
use Rattle.fv_pool.specs.Calls.{TellsReadable}
use Rattle.fv_pool.specs.Lending.{lent_for}
use Rattle.fv_volume.specs.Paths.{if_unknown}
use Rattle.fv_volume.specs.OneVolume.{home_in, shows}
use Rattle.fv_pool.proofs.CallCauses.{cause_for}
use Rattle.fv_volume.proofs.Followed.{opened_alike, path_alike}
use Rattle.fv_volume.proofs.RightTables.{asked_reads, opened_reads}
use Rattle.fv_volume.proofs.tables.read_in.Given as given
use Rattle.fv_volume.proofs.tables.read_in.Goals as goal

-- the table that was opened is the one that is asked
same : (g : given.Over) (c : goal.After-close_table g) → table_in (shows (g.D.Disk.shown c.args.disk.now) c.args.pool.now c.args.volume.now) c.open_table-files.result ≡ standing_of (g.D.Disk.shown c.args.disk.now) c.args.pool.now c.args.volume.now c.args.table.now
same g c = c.open_table-files.ensures.table (under (shows (g.D.Disk.shown c.args.disk.now) c.args.pool.now c.args.volume.now))

-- and what is known of the file is known of it
known : (g : given.Over) (c : goal.After-close_table g) → (TellsAsked (g.D.Disk.shown c.args.disk.now) c.args.pool.now c.args.volume.now c.args.table.now → IsInfoOf (standing_of (g.D.Disk.shown c.args.disk.now) c.args.pool.now c.args.volume.now c.args.table.now).inode c.args.info.now)
    → ReadsAsked (g.D.Disk.shown c.args.disk.now) c.args.pool.now c.args.volume.now c.args.table.now → TellsReadable (g.D.Disk.shown c.args.disk.now) c.args.pool.now c.args.volume.now.map (home_in c.args.volume.now) c.open_table-files.result × IsInfoOf (rooted (shows (g.D.Disk.shown c.args.disk.now) c.args.pool.now c.args.volume.now) c.open_table-files.result.inode) c.args.info.now
known g c there reads = (opened_reads (g.D.Disk.shown c.args.disk.now) c.args.pool.now c.args.volume.now c.args.table.now c.open_table-files.result c.open_table-files.ensures.opens reads, subst (λ (s : Standing). IsInfoOf s.inode c.args.info.now) (sym (same g c)) (there reads.tells))

pub returns-clause-block : goal.returns-clause-block
returns-clause-block g c = λ is. subst (λ (s : Standing). OnOk c.cell_told-answer.result (GivesCell s c.args.info.now.number c.args.index c.cell_told-answer.new.into)) (same g c)
    (c.cell_told-answer.ensures.block (known g c c.requires.there (asked_reads (g.D.Disk.shown c.args.disk.now) c.args.pool.now c.args.volume.now is c.args.table.now c.requires.of)))

pub returns-clause-steps : goal.returns-clause-steps
returns-clause-steps g c = λ is.
    let d = g.D.Disk.shown c.args.disk.now in let p = c.args.pool.now in let v = c.args.volume.now in
    subst (λ n. OnOk c.cell_told-answer.result (c.cell_told-answer.new.steps ≡ c.args.steps.now + n))
    (path_alike if_unknown (loaded_trees (under (shows d p v)) c.open_table-files.result) (trees_of d p v c.args.table.now) (opened_alike v.active v.files c.open_table-files.result c.args.table.now c.open_table-files.ensures.opens (under (shows d p v))) c.args.info.now.number c.args.index)
    (c.cell_told-answer.ensures.steps (known g c c.requires.there (asked_reads d p v is c.args.table.now c.requires.of)))

pub returns-clause-cause : goal.returns-clause-cause
returns-clause-cause g c = cause_for (ReadsAsked (g.D.Disk.shown c.args.disk.now) c.args.pool.now c.args.volume.now c.args.table.now) _ (known g c c.requires.there) (lent_for c.args.pool.now c.args.volume.now.map (g.D.Disk.shown c.args.disk.now) c.args.steps.now (home_in c.args.volume.now) 0) (g.D.Disk.shown c.cell_told-answer.new.disk).faults
    (table_in (shows (g.D.Disk.shown c.args.disk.now) c.args.pool.now c.args.volume.now) c.open_table-files.result) (standing_of (g.D.Disk.shown c.args.disk.now) c.args.pool.now c.args.volume.now c.args.table.now) c.cell_told-answer.result (same g c) c.cell_told-answer.ensures.cause
