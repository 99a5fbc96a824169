use Rattle.std.specs.Prelude.{IsTrue}
use Rattle.fv_model.specs.Machines.{Machine}
use Rattle.fv_cp.specs.Choosing.{holdings}
use Rattle.fv_cp.specs.Course.{HasCome, HaveHere}
use Rattle.fv_cp.specs.Lent.{IsLent}
use Rattle.fv_cp.specs.Planning.{LeaveDelays, taken}
use Rattle.fv_cp.proofs.point.write_volumes.Given as goal

abbrev pub invariant-loop-slot : goal.invariant-loop-slot
invariant-loop-slot g l = record {
  come : HasCome (taken l.plan (holdings l.fn.pool.containers l.volumes)) (HaveHere (taken l.plan (holdings l.fn.pool.containers l.volumes)) l.fn.pool.containers) (g.D.Disk.shown l.fn.disk) l.fn.pool l.volumes l.slot l.labels l.pool (g.D.Disk.shown l.disk);
  delays : IsTrue (g.D.Disk.shown l.fn.disk).tells → (before : Machine) → IsLent (g.D.Disk.shown l.fn.disk) l.fn.pool l.volumes before → HaveHere (taken l.plan (holdings l.fn.pool.containers l.volumes)) l.fn.pool.containers → LeaveDelays l.plan (holdings l.fn.pool.containers l.volumes) l.slot l.fn.delays l.delays;
}
