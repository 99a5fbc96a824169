use Rattle.std.proofs.Common.{arith}
use Rattle.fv_bits.proofs.Bytes.{write_more}
use Rattle.fv_bits.proofs.block.write.Goals as goal

pub loop-at-preserved : goal.loop-at-preserved
loop-at-preserved c = record {
  len = omega (arith, c.put_word.ensures.len);
  bits = write_more c.args.words.now c.loop-at.into c.put_word.new.into c.args.first c.loop-at.at c.word_at.result c.loop-at.invariant.bits c.put_word.ensures c.word_at.ensures;
}
