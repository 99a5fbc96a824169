use Rattle.std.proofs.Common.{◌∙◌, arith}
use Rattle.fv_aggmap.proofs.Room.{one_less}
use Rattle.fv_pool.proofs.Lent.{number_again}
use Rattle.fv_pool.proofs.Shows.{numbers_taken}
use Rattle.fv_pool.proofs.blocks.take_numbers.Goals as goal

pub returns-in_default-take_free-clause-failed_map : goal.returns-in_default-take_free-clause-failed_map
returns-in_default-take_free-clause-failed_map c =
    c.release.ensures.released ∙ number_again c.args.map.now c.allocate.new.self c.in-Some.vvbn c.known_maps.ensures c.in-Some.ensures.found

pub returns-clause-leaves : goal.returns-clause-leaves
returns-clause-leaves c = record {
  numbers = numbers_taken c.args.map.now c.allocate.new.self c.in-Some.vvbn c.known_maps.ensures c.in-Some.ensures.found;
  blocks = let one = one_less c.args.space.now c.take_free.new.self c.in-Some-take_free.pvbn c.take_free.ensures.same c.in-Some-take_free.ensures.some c.in-Some-take_free.ensures.taken in omega (arith, one);
}
