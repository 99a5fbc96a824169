-- A superblock that was written is read again.
use Rattle.std.proofs.Common.{◌≡◌, ℕ, ◌++◌, lit<, lit≤, Ok, refl, arith}
use Rattle.fv_codec.specs.declared.superblock.Super.{Super}
use Rattle.fv_codec.specs.Bytes.{word, zeros}
use Rattle.fv_codec.specs.Blocks.{super_at, super_fields, IsSuper}
use Rattle.fv_codec.specs.Spelling.{super_bytes}
use Rattle.fv_codec.proofs.Numbers.{word_said, word_there, zeros_last, past_word, all_said}

pub super_again : (s : Super) → IsSuper s → super_at (super_bytes s) ≡ Ok s
unfolding super_at
super_again s is =
    let b = super_bytes s in
    let mark : ℕ = 0x4656414747523031 in
    let d8 = past_word 0 mark b (word s.blocks ++ zeros 4080) refl in
    let d16 = past_word 8 s.blocks b (zeros 4080) d8 in
    let all = all_said super_fields b (
      word_said 0 mark mark mark b _ refl (lit< tt) (lit≤ tt) (lit≤ tt),
      (
        word_said 8 512 1048576 s.blocks b _ d8 (omega (arith, is.greatest)) is.least is.greatest,
        (zeros_last 16 4080 b d16, tt),
      ),
    ) in
    rw (all, word_there 8 s.blocks b _ d8 (omega (arith, is.greatest))) refl
