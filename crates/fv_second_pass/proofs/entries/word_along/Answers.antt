use Rattle.std.proofs.Common.{rules, ◌≡◌, refl, sym, ◌∙◌, arith}
use Rattle.std.specs.Prelude.{Some, None}
use Rattle.fv_first_pass.specs.Heads.{parent_in}
use Rattle.fv_second_pass.proofs.Along.{ends_alone, ends_found, ends_late, goes_on, parent_slot}
use Rattle.fv_second_pass.proofs.entries.word_along.Goals as goal

pub loop-init : goal.loop-init
loop-init c = record { slot = λ known low. low; along = λ t i spells known low. refl }

pub returns-then-word-ge-KIND : goal.returns-then-word-ge-KIND
returns-then-word-ge-KIND c = λ t i spells known low.
    let test = c.loop-test.true in
    let high = c.if-word-ge-KIND.true in
    ends_found t i c.args.known.now spells c.args.vvbn c.loop.counter c.loop.at c.entry_word-word.result (omega (arith, test)) (c.loop.invariant.slot known low)
    c.entry_word-word.ensures (omega (arith, high))
    ∙ c.loop.invariant.along t i spells known low

pub returns-in_default : goal.returns-in_default
returns-in_default c = λ t i spells known low.
    let test = c.loop-test.true in
    let hole = c.if-word-ge-KIND.false in
    let none : parent_in c.args.known.now.labels.items c.loop.at ≡ None = search rules in
    ends_alone t i c.args.known.now spells c.args.vvbn c.loop.counter c.loop.at c.entry_word-word.result (omega (arith, test)) (c.loop.invariant.slot known low)
    c.entry_word-word.ensures (omega (arith, hole)) none
    ∙ c.loop.invariant.along t i spells known low

pub loop-preserved : goal.loop-preserved
loop-preserved c =
    let test = c.loop-test.true in
    let hole = c.if-word-ge-KIND.false in
    let some : parent_in c.args.known.now.labels.items c.loop.at ≡ Some c.in-Some.parent = search rules in
    record {
      slot = λ known low. parent_slot c.args.known.now known c.loop.at c.in-Some.parent some;
      along = λ t i spells known low.
          sym (goes_on t i c.args.known.now spells c.args.vvbn c.loop.counter c.loop.at c.entry_word-word.result c.in-Some.parent (omega (arith, test)) (c.loop.invariant.slot known low)
          c.entry_word-word.ensures (omega (arith, hole)) some)
          ∙ c.loop.invariant.along t i spells known low;
    }

pub returns : goal.returns
returns c = λ t i spells known low.
    let past = c.loop-test.false in
    ends_late t i c.args.known.now spells c.args.vvbn c.loop.counter c.loop.at (omega (arith, past)) ∙ c.loop.invariant.along t i spells known low
