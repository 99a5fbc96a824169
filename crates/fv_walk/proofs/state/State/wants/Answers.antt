use Rattle.std.proofs.Common.{arith}
use Rattle.fv_walk.proofs.state.State.wants.Goals as goal

pub overflow_cast-vvbn : goal.overflow_cast-vvbn
overflow_cast-vvbn c = let less = c.requires.range c.if-visit-eq0.false in let small = c.requires.ready.small in omega (arith, less, small)

pub get-requires : goal.get-requires
get-requires c = let less = c.requires.range c.if-visit-eq0.false in let bits = c.requires.ready.bits in omega (arith, less, bits)
