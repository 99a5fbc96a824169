use Rattle.std.proofs.Common.{◌-◌, ◌≤◌, length}
use Rattle.fv_container.specs.Written.{HasReleased}
use Rattle.fv_container.proofs.places.release_places.Given as goal

abbrev pub invariant-loop-n : goal.invariant-loop-n
invariant-loop-n g l = record {
  within : l.n ≤ length l.places;
  released : HasReleased (g.F.Free.room l.fn.map) l.places l.n (g.F.Free.room l.map);
}

abbrev pub decreases-loop-n : goal.decreases-loop-n
decreases-loop-n g l = length l.places - l.n
