use Rattle.fv_inode.specs.Files.{rooted, IsLeastFree}
use Rattle.fv_pool.specs.Calls.{TellsTable}
use Rattle.fv_pool.specs.Lending.{sees}
use Rattle.fv_volume.proofs.changing.create_file.Given as goal

abbrev pub ghosts-create_told-K-Guard : goal.ghosts-create_told-K-Guard
ghosts-create_told-K-Guard g a = record {
  told = TellsTable (g.D.Disk.shown a.disk.now) a.pool.now a.map.now a.home.now a.files.now
      × IsLeastFree (rooted (sees a.pool.now a.map.now (g.D.Disk.shown a.disk.now) a.home.now) a.files.now.inode) a.number;
}

abbrev pub ghosts-create_told-L-Ledger : goal.ghosts-create_told-L-Ledger
ghosts-create_told-L-Ledger g a = record { name = a.blank.name; parts = a.blank.parts }
