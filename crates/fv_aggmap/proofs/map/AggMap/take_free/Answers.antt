use Rattle.std.proofs.Common.{arith}
use Rattle.fv_aggmap.proofs.Counting.{taken_count, kept_taken}
use Rattle.fv_aggmap.proofs.map.AggMap.take_free.Goals as goal

pub overflow_sub-self : goal.overflow_sub-self
overflow_sub-self c =
    let map = c.self.inside in
    omega (arith, c.self.invariant.count, taken_count map.committed map.next map.first c.in_ok-at.at c.self.invariant.same c.in_ok-at.ensures.some)

pub invariant_of-self : goal.invariant_of-self
invariant_of-self c =
    let map = c.self.inside in
    rw c.set.ensures (kept_taken map.committed map.next map.first map.cursor map.free c.in_ok-at.at c.self.invariant c.in_ok-at.ensures.some)
