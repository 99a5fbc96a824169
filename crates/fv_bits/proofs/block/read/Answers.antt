use Rattle.std.proofs.Common.{arith, ◌∙◌, length-set}
use Rattle.fv_bits.proofs.Bytes.{read_more}
use Rattle.fv_bits.proofs.block.read.Goals as goal

pub loop-at-preserved : goal.loop-at-preserved
loop-at-preserved c = record {
  len = length-set c.loop-at.words c.loop-at.at c.word_of.result ∙ c.loop-at.invariant.len;
  bits = read_more c.args.block.now c.loop-at.words c.loop-at.at c.word_of.result (omega arith) c.loop-at.invariant.bits c.word_of.ensures;
}
