use Rattle.std.proofs.Common.{◌≡◌, length}
use Rattle.fv_container.specs.Written.{AreLeft}
use Rattle.fv_container.proofs.places.put_left.Given as goal

abbrev pub invariant-loop-n : goal.invariant-loop-n
invariant-loop-n l = record {
  len : length l.into ≡ length l.initial.into;
  left : AreLeft l.tree l.places l.into l.n;
}
