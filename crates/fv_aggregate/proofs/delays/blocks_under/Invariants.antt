use Rattle.fv_aggregate.specs.Delayed.{LosesThose, is_framed}
use Rattle.fv_aggregate.proofs.delays.blocks_under.Given as goal

abbrev pub invariant-loop-slot : goal.invariant-loop-slot
invariant-loop-slot l = LosesThose l.pool.map.next (is_framed l.volumes l.pool.containers l.slot) l.left.blocks
