use Rattle.std.proofs.Common.{◌-◌, ◌≤◌, length}
use Rattle.fv_image.specs.Containers.{level_width}
use Rattle.fv_delay.specs.ByThreshold.{AreTakenHere}
use Rattle.fv_delay.specs.Delay.{AreSure}
use Rattle.fv_delay.specs.Reclaims.{HasGivenSome, HasStayed}
use Rattle.fv_delay.proofs.TakenRegions.{HasAsked}
use Rattle.fv_delay.proofs.taken.reclaim_taken.Given as goal

abbrev pub invariant-loop-region : goal.invariant-loop-region
invariant-loop-region l = record {
  within : l.from ≤ level_width (length l.fn.container.map.entries) 0;
  asked : AreSure l.fn.container → AreTakenHere l.fn.start l.map l.fn.container → HasAsked l.map l.fn.container l.fn.start l.from l.threshold l.fn.pool_map l.container l.pool_map l.is_left;
  stayed : HasStayed l.fn.container l.container;
  given : HasGivenSome l.fn.pool_map l.pool_map;
}

abbrev pub decreases-loop-region : goal.decreases-loop-region
decreases-loop-region l = level_width (length l.fn.container.map.entries) 0 - l.from
