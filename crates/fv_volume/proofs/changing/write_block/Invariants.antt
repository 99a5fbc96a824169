use Rattle.fv_pool.specs.Calls.{TellsInfo}
use Rattle.fv_volume.proofs.changing.write_block.Given as goal

abbrev pub ghosts-write_told-K-Guard : goal.ghosts-write_told-K-Guard
ghosts-write_told-K-Guard g a = record { told = TellsInfo (g.D.Disk.shown a.disk.now) a.pool.now a.map.now a.home.now a.files.now a.info.now }

abbrev pub ghosts-write_told-L-Ledger : goal.ghosts-write_told-L-Ledger
ghosts-write_told-L-Ledger g a = record { name = a.blank.name; parts = a.blank.parts }
