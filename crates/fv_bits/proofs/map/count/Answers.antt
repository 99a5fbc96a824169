use Rattle.std.proofs.Common.{◌∙◌, arith}
use Rattle.fv_bits.proofs.Counts.{ones_of_all, ones_within}
use Rattle.fv_bits.proofs.Rows.{words_from}
use Rattle.fv_bits.proofs.map.count.Goals as goal

pub overflow_cast-result : goal.overflow_cast-result
overflow_cast-result c =
    omega (arith, c.ones.ensures.value, ones_within c.args.len c.args.words.now c.requires (words_from c.args.words.now c.type_inv.words))

pub returns : goal.returns
returns c =
    c.ones.ensures.value ∙ ones_of_all c.args.len c.args.words.now c.requires (words_from c.args.words.now c.type_inv.words)
