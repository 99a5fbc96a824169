use Rattle.fv_inode.specs.Files.{rooted}
use Rattle.fv_files.specs.Tables.{IsInfoOf}
use Rattle.fv_pool.specs.Lending.{sees}
use Rattle.fv_pool.specs.Calls.{TellsReadable}
use Rattle.fv_volume.proofs.tables.read_in.Given as goal

-- what is known of the file is known where content is told
abbrev pub ghosts-cell_told : goal.ghosts-cell_told
ghosts-cell_told g a = record { told = TellsReadable (g.D.Disk.shown a.disk.now) a.pool.now a.map.now a.home.now a.files.now × IsInfoOf (rooted (sees a.pool.now a.map.now (g.D.Disk.shown a.disk.now) a.home.now) a.files.now.inode) a.info.now }
