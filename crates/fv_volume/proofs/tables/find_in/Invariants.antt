use Rattle.fv_files.specs.Numbering.{AreNumbersIf}
use Rattle.fv_files.specs.Tables.{table_in}
use Rattle.fv_tables.specs.Told.{table_told}
use Rattle.fv_pool.specs.Calls.{TellsTable}
use Rattle.fv_pool.specs.Lending.{sees}
use Rattle.fv_volume.proofs.tables.find_in.Given as goal

-- the numbers are those of the table where content is told
abbrev pub ghosts-find_told-K-Guard : goal.ghosts-find_told-K-Guard
ghosts-find_told-K-Guard g a = record {
  told = TellsTable (g.D.Disk.shown a.disk.now) a.pool.now a.map.now a.home.now a.files.now
      × AreNumbersIf a.numbers.now (table_told (table_in (sees a.pool.now a.map.now (g.D.Disk.shown a.disk.now) a.home.now) a.files.now));
}

abbrev pub ghosts-find_told-L-Ledger : goal.ghosts-find_told-L-Ledger
ghosts-find_told-L-Ledger g a = record { name = a.blank.name; parts = a.blank.parts }
