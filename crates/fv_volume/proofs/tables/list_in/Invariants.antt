use Rattle.fv_pool.specs.Calls.{TellsTable}
use Rattle.fv_volume.proofs.tables.list_in.Given as goal

abbrev pub ghosts-list_told-K-Guard : goal.ghosts-list_told-K-Guard
ghosts-list_told-K-Guard g a = record { told = TellsTable (g.D.Disk.shown a.disk.now) a.pool.now a.map.now a.home.now a.files.now }

abbrev pub ghosts-list_told-L-Ledger : goal.ghosts-list_told-L-Ledger
ghosts-list_told-L-Ledger g a = record { name = a.blank.name; parts = a.blank.parts }
