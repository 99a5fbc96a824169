use Rattle.std.proofs.Common.{rules}
use Rattle.fv_bits.proofs.Rows.{words_from, head_found, later_set, in_no_word}
use Rattle.fv_bits.proofs.words.first_set.Goals as goal

pub returns-then-head-lt64-clause-first : goal.returns-then-head-lt64-clause-first
returns-then-head-lt64-clause-first c = search (rules, head_found)

pub returns-then-next-words-clause-none : goal.returns-then-next-words-clause-none
returns-then-next-words-clause-none c = search (rules, in_no_word)

pub returns-clause-first : goal.returns-clause-first
returns-clause-first c = search (rules, later_set, words_from)
