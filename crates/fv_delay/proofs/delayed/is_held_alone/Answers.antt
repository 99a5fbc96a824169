use Rattle.std.proofs.Common.{◌≡◌, ◌/◌, ◌<◌, ◌∙◌, arith}
use Rattle.std.proofs.lemmas.Bool.Decides.{nat_tests}
use Rattle.fv_bits.specs.Members.{is_member}
use Rattle.fv_delay.proofs.Held.{held_below}
use Rattle.fv_delay.proofs.delayed.is_held_alone.Goals as goal

pub returns-then-is_alone-clause-alone : goal.returns-then-is_alone-clause-alone
unfolding is_member
returns-then-is_alone-clause-alone c = λ test v from below.
    let inside : c.args.region < c.span_of.result / 256 = grind (arith, nat_tests, test) in
    held_below c.args.map.now v (omega (arith, inside, below, c.span_of.ensures)) ∙ c.is_alone.ensures.alone c.if-is_alone.true v

pub returns-then-is_alone-clause-within : goal.returns-then-is_alone-clause-within
returns-then-is_alone-clause-within c = λ test.
    let inside : c.args.region < c.span_of.result / 256 = grind (arith, nat_tests, test) in
    omega (arith, inside, c.span_of.ensures)
