use Rattle.std.proofs.Common.{◌≡◌, ◌-◌, ◌+◌, ◌*◌, take, drop, ap, ◌∙◌, arith}
use Rattle.fv_bits.proofs.Bytes.{word_read}
use Rattle.fv_bits.proofs.block.word_of.Goals as goal

pub returns : goal.returns
returns c =
    let size : 8 * c.args.at + 8 - 8 * c.args.at ≡ 8 = omega arith in
    word_read c.args.block.now c.copy_from_slice.new.self c.args.at c.from_le_bytes.result (omega arith) c.fits-block (c.copy_from_slice.ensures.after ∙ ap (λ n. take n (drop (8 * c.args.at) c.args.block.now)) size) c.from_le_bytes.ensures
