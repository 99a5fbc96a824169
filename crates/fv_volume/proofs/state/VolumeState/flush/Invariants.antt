use Rattle.fv_files.specs.Tables.{AreStanding}
use Rattle.fv_pool.specs.Lending.{IsTold, sees}
use Rattle.fv_volume.proofs.state.VolumeState.flush.Given as goal

abbrev pub ghosts-place_table : goal.ghosts-place_table
ghosts-place_table g a = record { told = IsTold (g.D.Disk.shown a.disk.now) a.pool.now a.map.now a.home.now.slot × AreStanding (sees a.pool.now a.map.now (g.D.Disk.shown a.disk.now) a.home.now) a.files.now }
