use Rattle.fv_pool.specs.Calls.{TellsTable}
use Rattle.fv_volume.proofs.moving.count_room.Given as goal

abbrev pub ghosts-room_told-K-Guard : goal.ghosts-room_told-K-Guard
ghosts-room_told-K-Guard g a = record { told = TellsTable (g.D.Disk.shown a.disk.now) a.pool.now a.map.now a.home.now a.files.now }

abbrev pub ghosts-room_told-L-Ledger : goal.ghosts-room_told-L-Ledger
ghosts-room_told-L-Ledger g a = record { name = a.blank.name; parts = a.blank.parts }
