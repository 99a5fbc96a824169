use Rattle.std.proofs.Common.{◌≡◌, ℕ, ◌*◌, ◌<◌, length}
use Rattle.fv_bits.specs.Bits.{bit_of_bytes}
use Rattle.fv_bits.specs.Stored.{bit_of_words}
use Rattle.fv_bits.proofs.block.read.Given as goal

abbrev pub invariant-loop-at : goal.invariant-loop-at
invariant-loop-at l = record {
  len : length l.words ≡ 512;
  bits : (b : ℕ) → b < 64 * l.at → bit_of_bytes l.block b ≡ bit_of_words l.words b;
}
