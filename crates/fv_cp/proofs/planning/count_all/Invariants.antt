use Rattle.std.proofs.Common.{◌≡◌, [], length}
use Rattle.fv_delay.specs.ByThreshold.{IsTable, counts_before}
use Rattle.fv_cp.specs.Choosing.{holdings}
use Rattle.fv_cp.specs.Planning.{AreCounted, AreSlotsSure}
use Rattle.fv_cp.proofs.Planned.{AreTablesTo}
use Rattle.fv_cp.proofs.planning.count_all.Given as goal

abbrev pub invariant-loop-slot : goal.invariant-loop-slot
invariant-loop-slot l = record {
  long : length l.tables ≡ 64;
  each : AreSlotsSure l.containers l.volumes l.delays → AreCounted l.containers l.volumes l.delays → AreTablesTo (holdings l.containers l.volumes) l.tables l.slot;
  all : AreSlotsSure l.containers l.volumes l.delays → AreCounted l.containers l.volumes l.delays → IsTable l.fn.all [] → IsTable l.all (counts_before (holdings l.containers l.volumes) l.slot);
}
