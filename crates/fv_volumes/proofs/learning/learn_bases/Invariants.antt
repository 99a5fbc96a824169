use Rattle.fv_volumes.specs.Learned.{HaveLearned}
use Rattle.fv_volumes.proofs.learning.learn_bases.Given as goal

abbrev pub invariant-loop-slot : goal.invariant-loop-slot
invariant-loop-slot l = HaveLearned l.slot l.fn.states.items l.states.items
