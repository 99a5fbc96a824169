-- Zero blocks: their numbers and bits.
use Rattle.std.proofs.Common.{◌≡◌, ℕ, ◌/◌, ◌%◌, ◌<◌, ◌≤◌, false, length, replicate, refl, arith, ⊎_elim, get_or}
use Rattle.std.proofs.lemmas.List.{get_or-replicate, get_or_past, length-replicate}
use Rattle.std.proofs.lemmas.Bool.{cases_lt, and_right}
use Rattle.std.proofs.lemmas.Bool.Decides.{nat_tests}
use Rattle.std.proofs.lemmas.Nat.Bits.{bit_at-zero}
use Rattle.std.specs.Prelude.{nat_lt}
use Rattle.fv_disk.specs.Shown.{Image}
use Rattle.fv_bits.specs.Bits.{bit_of_number, bit_of_bytes, bit_of_area}
use Rattle.fv_image.specs.Layout.{area_blocks, area_place}
use Rattle.fv_image.specs.NewerRoot.{Taken}
use Rattle.fv_image.specs.Maps.{area_bits, map_bit}

pub zero_in : (n k : ℕ) → ◌≡◌ {A = ℕ} (get_or (replicate n 0) k 0) 0
zero_in n k = ⊎_elim
    (λ inside. get_or-replicate n k 0 0 inside)
    (λ past. get_or_past (replicate n 0) k 0 (let e : length (replicate {A = ℕ} n 0) ≡ n = length-replicate {A = ℕ} n 0 in omega (arith, past, e)))
    (cases_lt k n)

pub bit_of_zero_block : (b : ℕ) → bit_of_bytes (replicate 4096 0) b ≡ false
unfolding bit_of_bytes bit_of_number
bit_of_zero_block b = rw (zero_in 4096 (b / 8), bit_at-zero (b % 8)) refl

-- a map area of zero blocks has no bit
pub clear_bits : (t : Taken) (i : Image) → ((k : ℕ) → k < area_blocks t.blocks → i (area_place t.blocks t.slot k) ≡ replicate 4096 0) → (b : ℕ) → map_bit t i b ≡ false
unfolding map_bit bit_of_area
clear_bits t i area b = ⊎_elim
    (λ (inside : b < area_bits t.blocks). let block : b / 32768 < area_blocks t.blocks = omega arith in
    rw (area (b / 32768) block, bit_of_zero_block (b % 32768)) (and_right (nat_lt b (area_bits t.blocks)) false refl))
    (λ (past : area_bits t.blocks ≤ b). let test : nat_lt b (area_bits t.blocks) ≡ false = grind (arith, nat_tests) in rw test refl)
    (cases_lt b (area_bits t.blocks))
