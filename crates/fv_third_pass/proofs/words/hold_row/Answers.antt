use Rattle.std.proofs.Common.{rules, ◌≡◌, ◌++◌, get_or, subst, arith}
use Rattle.fv_image.specs.Views.{entry_count}
use Rattle.fv_third_pass.specs.Tallied.{Tallies}
use Rattle.fv_third_pass.specs.Words.{at_word, in_row}
use Rattle.fv_third_pass.proofs.Blocks.{parts_next}
use Rattle.fv_third_pass.proofs.words.hold_row.Goals as goal

pub loop-vvbn-preserved : goal.loop-vvbn-preserved
loop-vvbn-preserved c = record {
  size = search rules;
  tallies = λ list tallies.
      parts_next (λ v. at_word (get_or c.args.row.now v 0)) c.loop-vvbn.vvbn list c.hold_word.new.holders
      (subst (λ word. Tallies ((list ++ in_row c.args.row.now c.loop-vvbn.vvbn) ++ at_word word) c.hold_word.new.holders) c.word_in.ensures
      (c.in_ok-hold_word.ensures.tallies (list ++ in_row c.args.row.now c.loop-vvbn.vvbn) (c.loop-vvbn.invariant.tallies list tallies)));
}

pub returns-clause-tallies : goal.returns-clause-tallies
returns-clause-tallies c = λ list tallies.
    subst (λ n. Tallies (list ++ in_row c.args.row.now n) c.loop-vvbn.holders)
    (let past = c.loop-vvbn-test.false in let end = c.loop-vvbn.auto.vvbn-end in let is = c.entry_count-vvbn-end.ensures.value in let e : c.loop-vvbn.vvbn ≡ entry_count c.args.span = omega (arith, past, end, is) in e)
    (c.loop-vvbn.invariant.tallies list tallies)
