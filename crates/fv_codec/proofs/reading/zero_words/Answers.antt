use Rattle.std.proofs.Common.{◌∙◌, sym, arith}
use Rattle.fv_codec.proofs.Runs.{all_zero_word}
use Rattle.fv_codec.proofs.reading.zero_words.Goals as goal

pub loop-at-preserved : goal.loop-at-preserved
loop-at-preserved c = record {
  within = omega arith;
  rest = c.loop-at.invariant.rest ∙ all_zero_word c.args.bytes.now c.loop-at.at (omega arith) (sym c.word_at.ensures ∙ c.if-word_at-eq0.true);
}
