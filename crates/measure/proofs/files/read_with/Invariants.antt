use Rattle.fv_volume.specs.OneVolume.{IsReady}
use Rattle.measure.proofs.files.read_with.Given as goal

abbrev pub invariant-loop-time : goal.invariant-loop-time
invariant-loop-time g l = IsReady (g.D.Disk.shown l.disk) l.pool l.volume
