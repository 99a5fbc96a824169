use Rattle.std.proofs.Common.{◌+◌, ◌^◌, ◌<◌, sym, subst, arith}
use Rattle.fv_aggmap.specs.Space.{Space, becomes_free, blocks_of}
use Rattle.fv_aggmap.proofs.Counting.{count_fits, kept_released}
use Rattle.fv_aggmap.proofs.map.AggMap.release_after_commit.Goals as goal

pub overflow_add-self : goal.overflow_add-self
overflow_add-self c =
    let map = c.self.inside in
    let fits : map.free + c.freed.result < 2 ^ 32 = rw c.freed.ensures (count_fits map.committed map.next map.first map.cursor map.free (becomes_free map.committed map.next map.first c.args.pvbn) c.self.invariant) in
    omega (arith, fits)

pub invariant_of-self : goal.invariant_of-self
invariant_of-self c =
    let map = c.self.inside in
    let within = subst (λ (s : Space). c.args.pvbn < blocks_of s) (sym c.self.view_is) c.requires in
    rw (c.clear.ensures, c.freed.ensures) (kept_released map.committed map.next map.first map.cursor map.free c.args.pvbn c.self.invariant within)
