use Rattle.fv_volmap.specs.Kept.{AreFreeTo}
use Rattle.fv_volmap.proofs.slots.used_count.Given as goal

abbrev pub invariant-loop-count : goal.invariant-loop-count
invariant-loop-count l = AreFreeTo l.count l.others

abbrev pub decreases-loop-count : goal.decreases-loop-count
decreases-loop-count l = l.count
