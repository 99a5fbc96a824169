use Rattle.std.proofs.Common.{◌-◌, ◌≤◌, length}
use Rattle.fv_image.specs.Containers.{level_width}
use Rattle.fv_delay.specs.ByThreshold.{IsTable, counts_front}
use Rattle.fv_delay.specs.Delay.{AreSure}
use Rattle.fv_delay.specs.Holding.{held_by}
use Rattle.fv_delay.proofs.taken.table_of.Given as goal

abbrev pub invariant-loop-region : goal.invariant-loop-region
invariant-loop-region l = record {
  within : l.from ≤ level_width (length l.container.map.entries) 0;
  table : AreSure l.container → IsTable l.table (counts_front 0 (held_by l.map l.container.map) l.from);
}

abbrev pub decreases-loop-region : goal.decreases-loop-region
decreases-loop-region l = level_width (length l.container.map.entries) 0 - l.from
