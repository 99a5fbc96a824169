use Rattle.std.proofs.Common.{take}
use Rattle.fv_container.specs.Loading.{Marks}
use Rattle.fv_container.specs.Spelled.{names}
use Rattle.fv_container.proofs.marking.mark_leaf.Given as goal

abbrev pub invariant-loop-c : goal.invariant-loop-c
invariant-loop-c l = Marks l.initial.bits (names (take l.c l.leaf.pvbns)) l.bits
