use Rattle.std.proofs.Common.{arith}
use Rattle.fv_bits.proofs.Rows.{unite_words}
use Rattle.fv_bits.proofs.words.unite.Goals as goal

pub returns : goal.returns
returns c =
    unite_words c.args.words.now c.args.others.now c.loop-at.words (omega arith) c.requires (λ k inside. c.loop-at.invariant.done k (omega arith))
