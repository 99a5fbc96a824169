use Rattle.fv_pool.specs.Calls.{TellsInfo}
use Rattle.fv_volume.proofs.removing.drop_file.Given as goal

abbrev pub ghosts-remove_told-K-Guard : goal.ghosts-remove_told-K-Guard
ghosts-remove_told-K-Guard g a = record { told = TellsInfo (g.D.Disk.shown a.disk.now) a.pool.now a.map.now a.home.now a.files.now a.info.now }

abbrev pub ghosts-remove_told-L-Ledger : goal.ghosts-remove_told-L-Ledger
ghosts-remove_told-L-Ledger g a = record { name = a.blank.name; parts = a.blank.parts }
