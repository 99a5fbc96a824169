use Rattle.std.proofs.Common.{get_or, arith}
use Rattle.std.specs.Int.Count.{ones-le}
use Rattle.std.proofs.lemmas.Grind.{common_steps}
use Rattle.fv_bits.proofs.Rows.{words_from}
use Rattle.fv_bits.proofs.words.ones.Goals as goal

pub loop-word-preserved : goal.loop-word-preserved
loop-word-preserved c =
    let words = words_from c.args.words.now c.type_inv.words in
    let few = ones-le 64 (get_or c.args.words.now c.loop-word.word-index 0) (words.fits c.loop-word.word-index) in
    record { value = grind (arith, common_steps); bound = omega arith }
