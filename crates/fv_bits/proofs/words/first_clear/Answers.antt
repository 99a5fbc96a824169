use Rattle.std.proofs.Common.{rules}
use Rattle.fv_bits.proofs.Rows.{words_from, head_found, later_clear}
use Rattle.fv_bits.proofs.words.first_clear.Goals as goal

pub returns-then-head-lt64 : goal.returns-then-head-lt64
returns-then-head-lt64 c = search (rules, head_found)

pub returns : goal.returns
returns c = search (rules, later_clear, words_from)
