use Rattle.std.proofs.Common.{◌≡◌, ◌-◌, ◌<◌, ◌≤◌, ◌||◌, ℕ, false, length, get_or}
use Rattle.fv_image.specs.Containers.{level_width}
use Rattle.fv_delay.specs.ByThreshold.{behind, counts_front, taken_in}
use Rattle.fv_delay.specs.Delay.{AreSure}
use Rattle.fv_delay.specs.Holding.{held_by}
use Rattle.fv_delay.proofs.taken.mark_taken.Given as goal

abbrev pub invariant-loop-region : goal.invariant-loop-region
invariant-loop-region l = record {
  within : l.from ≤ level_width (length l.container.map.entries) 0;
  threshold : AreSure l.container → l.threshold ≡ behind l.fn.start (counts_front 0 (held_by l.map l.container.map) l.from);
  long : length l.plan ≡ length l.fn.plan;
  marked : AreSure l.container → (k : ℕ) → k < l.from → get_or l.plan k false ≡ (taken_in l.fn.start (held_by l.map l.container.map) k || get_or l.fn.plan k false);
  rest : (k : ℕ) → l.from ≤ k → get_or l.plan k false ≡ get_or l.fn.plan k false;
}

abbrev pub decreases-loop-region : goal.decreases-loop-region
decreases-loop-region l = level_width (length l.container.map.entries) 0 - l.from
