use Rattle.std.proofs.Common.{arith}
use Rattle.fv_second_pass.proofs.Along.{place_along, place_own}
use Rattle.fv_second_pass.proofs.entries.word_of.Goals as goal

pub returns-then-vvbn-from : goal.returns-then-vvbn-from
returns-then-vvbn-from c = λ t i spells known low wide.
    let inside = c.if-vvbn-from.true in
    let span = c.from.ensures in
    place_along t i c.args.known.now spells c.args.vvbn c.args.slot c.args.span c.word_along.result wide (omega (arith, inside, span)) (c.word_along.ensures t i spells known low)

pub returns-else-vvbn-from : goal.returns-else-vvbn-from
returns-else-vvbn-from c = λ t i spells known low wide.
    let behind = c.if-vvbn-from.false in
    let span = c.from.ensures in
    place_own t i c.args.known.now spells c.args.vvbn c.args.slot c.args.span c.entry_word.result low wide (omega (arith, behind, span)) c.entry_word.ensures
