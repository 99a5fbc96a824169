use Rattle.std.proofs.Common.{◌∙◌, arith}
use Rattle.fv_bits.proofs.Bytes.{word_put}
use Rattle.fv_bits.proofs.block.put_word.Goals as goal

pub returns : goal.returns
returns c =
    word_put c.args.into.now c.copy_from_slice.new.self c.args.at c.args.word _ (omega arith) (omega arith) (c.copy_from_slice.ensures.after ∙ c.to_le_bytes.ensures)
