use Rattle.fv_volume.specs.OneVolume.{IsReady}
use Rattle.measure.proofs.files.write.Given as goal

abbrev pub invariant-loop-index : goal.invariant-loop-index
invariant-loop-index g l = IsReady (g.D.Disk.shown l.disk) l.pool l.volume
