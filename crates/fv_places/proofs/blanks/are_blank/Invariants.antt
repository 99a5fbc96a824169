use Rattle.std.proofs.Common.{◌≡◌, drop}
use Rattle.fv_places.specs.Changed.{are_blank}
use Rattle.fv_places.proofs.blanks.are_blank.Given as goal

abbrev pub invariant-loop-pointer : goal.invariant-loop-pointer
invariant-loop-pointer l = are_blank l.pointers ≡ are_blank (drop l.pointer-index l.pointers)
