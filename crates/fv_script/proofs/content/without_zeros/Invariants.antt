use Rattle.std.proofs.Common.{length}
use Rattle.fv_script.proofs.Hexes.{Passed}
use Rattle.fv_script.proofs.content.without_zeros.Given as goal

abbrev pub invariant-loop-front : goal.invariant-loop-front
invariant-loop-front l = Passed l.front l.bytes

abbrev pub decreases-loop-front : goal.decreases-loop-front
decreases-loop-front l = length l.front
