use Rattle.std.proofs.Common.{◌≡◌, ◌-◌, ◌<◌, ◌≤◌, ℕ, length, get_or}
use Rattle.fv_container.specs.Mapped.{node_count}
use Rattle.fv_container.specs.Written.{ArePlaced, HasTaken, is_there, may_move}
use Rattle.fv_container.proofs.places.take_places.Given as goal

abbrev pub invariant-loop-n : goal.invariant-loop-n
invariant-loop-n g l = record {
  within : l.n ≤ node_count l.count;
  len : length l.places ≡ length l.fn.places;
  anew : length l.fresh ≡ length l.fn.fresh;
  taken : HasTaken (g.F.Free.room l.fn.map) (may_move l.leaves l.dirty l.count) l.fresh l.n (g.F.Free.room l.map);
  placed : ArePlaced (is_there l.leaves l.tree l.dirty l.count) l.count l.tree l.dirty l.fresh l.places l.n;
  kept : (m : ℕ) → l.n ≤ m → get_or l.places m 0 ≡ get_or l.tree m 0;
  none : (m : ℕ) → l.n ≤ m → m < length l.fresh → get_or l.fresh m 0 ≡ 0;
}

abbrev pub decreases-loop-n : goal.decreases-loop-n
decreases-loop-n g l = length l.places - l.n
