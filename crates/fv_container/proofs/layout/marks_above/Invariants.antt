use Rattle.std.proofs.Common.{◌≡◌, ◌≤◌, ◌++◌, false, replicate}
use Rattle.std.specs.Vec.{vec_capacity}
use Rattle.fv_container.proofs.layout.marks_above.Given as goal

abbrev pub invariant-loop : goal.invariant-loop
invariant-loop l = record {
  marks : l.marks.items ≡ replicate l.counter false;
  room : l.room ≤ vec_capacity l.marks;
}

abbrev pub invariant-loop-2 : goal.invariant-loop-2
invariant-loop-2 l = record {
  marks : l.marks.items ≡ replicate l.leaves false ++ replicate l.counter l.wished;
  room : l.room ≤ vec_capacity l.marks;
}
