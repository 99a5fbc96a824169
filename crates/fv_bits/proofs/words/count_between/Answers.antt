use Rattle.std.proofs.Common.{arith}
use Rattle.fv_bits.proofs.Rows.{words_from}
use Rattle.fv_bits.proofs.Counts.{count_by_words, passing_le}
use Rattle.fv_bits.proofs.words.count_between.Goals as goal

pub overflow_sub-result : goal.overflow_sub-result
overflow_sub-result c =
    let by_words = count_by_words c.args.words.now c.args.from c.args.to (words_from c.args.words.now c.type_inv.words) c.requires.ordered c.requires.within in
    grind arith

pub overflow_cast-result-3 : goal.overflow_cast-result-3
overflow_cast-result-3 c =
    let by_words = count_by_words c.args.words.now c.args.from c.args.to (words_from c.args.words.now c.type_inv.words) c.requires.ordered c.requires.within in
    grind (arith, passing_le)
