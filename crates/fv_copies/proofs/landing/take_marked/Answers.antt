use Rattle.std.proofs.Common.{◌≡◌, ◌+◌, arith}
use Rattle.fv_aggmap.specs.Space.{free_blocks}
use Rattle.fv_aggmap.proofs.Room.{one_less}
use Rattle.fv_copies.proofs.landing.take_marked.Goals as goal

pub returns-clause-taken : goal.returns-clause-taken
returns-clause-taken c =
    let free = c.in-Some.ensures.some in
    let one : free_blocks c.take_free.new.self + 1 ≡ free_blocks c.args.map.now = one_less c.args.map.now c.take_free.new.self c.in-Some.pvbn c.take_free.ensures.same free c.in-Some.ensures.taken in
    record {
      free = free;
      taken = c.in-Some.ensures.taken;
      noted = c.set.ensures;
      within = omega (arith, free.within, c.take_free.ensures.same);
      marked = omega (arith, free.within, c.take_free.ensures.size.greatest, c.requires);
      room = omega (arith, one);
    }
