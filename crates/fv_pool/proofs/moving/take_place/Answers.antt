use Rattle.std.proofs.Common.{arith}
use Rattle.fv_aggmap.proofs.Room.{one_less}
use Rattle.fv_pool.proofs.moving.take_place.Goals as goal

pub returns-in-Some-clause-leaves : goal.returns-in-Some-clause-leaves
returns-in-Some-clause-leaves c =
    let one = one_less c.args.space.now c.take_free.new.self c.in-Some.place c.take_free.ensures.same c.in-Some.ensures.some c.in-Some.ensures.taken in omega (arith, one)
