use Rattle.fv_pool.specs.Calls.{TellsTable}
use Rattle.fv_volume.proofs.numbering.count_files.Given as goal

abbrev pub ghosts-numbers_told-K-Guard : goal.ghosts-numbers_told-K-Guard
ghosts-numbers_told-K-Guard g a = record { told = TellsTable (g.D.Disk.shown a.disk.now) a.pool.now a.map.now a.home.now a.files.now }

abbrev pub ghosts-numbers_told-L-Ledger : goal.ghosts-numbers_told-L-Ledger
ghosts-numbers_told-L-Ledger g a = record { name = a.blank.name; parts = a.blank.parts }
