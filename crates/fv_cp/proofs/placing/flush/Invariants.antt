use Rattle.std.specs.Prelude.{◌≡◌, ◌<◌, ℕ}
use Rattle.fv_volume.specs.States.{state_at}
use Rattle.fv_cp.specs.Placing.{HasNoFiles}
use Rattle.fv_cp.proofs.Flushing.{HasPassed}
use Rattle.fv_cp.proofs.placing.flush.Given as goal

abbrev pub invariant-loop-slot : goal.invariant-loop-slot
invariant-loop-slot g l = record {
  passed : HasPassed (g.D.Disk.shown l.fn.disk) l.fn.pool l.fn.volumes l.slot (g.D.Disk.shown l.disk) l.pool l.volumes;
  still : ((s : ℕ) → s < l.slot → HasNoFiles (state_at l.fn.volumes s)) → l.disk ≡ l.fn.disk;
  calm : (g.D.Disk.shown l.disk).faults ≡ (g.D.Disk.shown l.fn.disk).faults;
}
