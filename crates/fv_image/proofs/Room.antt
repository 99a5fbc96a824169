-- How many blocks of a sound layout aren't held: the space rule leaves room for all overheads once more, and for what the
-- event adds.
use Rattle.std.proofs.Common.{◌≡◌, ℕ, ◌+◌, ◌-◌, ◌*◌, ◌<◌, ◌≤◌, Bool, true, false, not, length, refl, arith}
use Rattle.std.specs.Prelude.{count_by, max}
use Rattle.std.specs.List.{range_with_len}
use Rattle.std.proofs.lemmas.Bool.Decides.{nat_tests}
use Rattle.fv_bits.proofs.Counts.{passing_same}
use Rattle.fv_model.specs.Machines.{first_block}
use Rattle.fv_image.specs.Maps.{area_bits}
use Rattle.fv_image.specs.Views.{own, delayed, overheads, leaves_room}
use Rattle.fv_image.specs.Held.{Layout, held, is_held}
use Rattle.fv_image.specs.BlockRules.{agree, has_true_map}
use Rattle.fv_image.specs.Soundness.{AreBlocks, IsSound}
use Rattle.fv_image.proofs.Kept.{at_number}
use Rattle.fv_image.proofs.Counts.{others, listed_within}
use Rattle.fv_image.proofs.Counted.{HasHeads, held_within}

-- the numbers of the blocks that can be allocated and have no bit
abbrev pub clear_count : Layout → ℕ
clear_count y = count_by (λ b. not (y.bit b)) (range_with_len (first_block y.view.blocks) (y.view.blocks - first_block y.view.blocks))

agreed : (x z : Bool) → agree x z ≡ true → x ≡ z
agreed true true e = refl
agreed true false e = absurd cc
agreed false true e = absurd cc
agreed false false e = refl

pub bit_is_held : (y : Layout) (b : ℕ) → has_true_map y ≡ true → b < area_bits y.view.blocks → y.bit b ≡ is_held y b
unfolding has_true_map
bit_is_held y b true-map within = agreed (y.bit b) (is_held y b) (at_number (λ n. agree (y.bit n) (is_held y n)) 0 (area_bits y.view.blocks) b true-map (omega arith) (omega (arith, within)))

-- a block without a bit isn't held, so there are as many as aren't held at least
pub clear_or_held : (y : Layout) → has_true_map y ≡ true → y.view.blocks - first_block y.view.blocks ≤ clear_count y + length (held y)
clear_or_held y true-map =
    let first = first_block y.view.blocks in
    let n = y.view.blocks - first in
    let same = passing_same y.bit (is_held y) first first n (λ j lt. bit_is_held y (first + j) true-map (omega (arith, lt))) in
    omega (arith, others y.bit first n, same, listed_within (held y) first n)

-- Where the space rule holds with so much room, as many blocks are clear beside all overheads.
pub clear_room : (y : Layout) (room : ℕ) → HasHeads y → AreBlocks y → leaves_room y.view room ≡ true → overheads y.view + max 256 room ≤ clear_count y
clear_room y room heads is rule =
    let enough : 2 * overheads y.view + max 256 room ≤ y.view.blocks - first_block y.view.blocks - own y.view - delayed y.view = grind (arith, nat_tests, rule) in
    omega (arith, enough, held_within y heads is, clear_or_held y is.map)

-- A sound layout has room for all overheads and 256 blocks.
pub sound_room : (y : Layout) → HasHeads y → IsSound y → overheads y.view + 256 ≤ clear_count y
sound_room y heads is = clear_room y 0 heads is.blocks is.room
