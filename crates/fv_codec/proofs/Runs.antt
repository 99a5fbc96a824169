-- Runs of bytes, read one byte after the other.
use Rattle.std.proofs.Common.{◌≡◌, ℕ, zero, suc, ◌+◌, ◌*◌, ◌^◌, ◌<◌, ◌≤◌, cond, refl, ap, ◌∙◌, arith, drop-drop, length-drop, eqb, List, length, get_or, drop, Err}
use Rattle.std.proofs.Math.Nat.{pow-succ'}
use Rattle.std.proofs.lemmas.List.{at_drop_more}
use Rattle.byteorder.specs.Endian.{big_from}
use Rattle.fv_codec.specs.Bytes.{word_at}
use Rattle.fv_codec.specs.Fields.{all_zero, all_name, is_name_byte}

pub all_zero_drop : (xs : List ℕ) (i : ℕ) → i < length xs → all_zero (drop i xs) ≡ cond (eqb (get_or xs i 0) 0) (all_zero (drop (i + 1) xs)) (Err (record { want = 0; found = get_or xs i 0 }))
unfolding all_zero
all_zero_drop xs i lt = at_drop_more all_zero xs i 0 lt

pub all_name_drop : (xs : List ℕ) (i : ℕ) → i < length xs → all_name (drop i xs) ≡ cond (is_name_byte (get_or xs i 0)) (all_name (drop (i + 1) xs)) (Err (record { want = 97; found = get_or xs i 0 }))
unfolding all_name
all_name_drop xs i lt = at_drop_more all_name xs i 0 lt

-- a product that is 0 by its first factor
no_product : (n x : ℕ) → x * 256 ^ n ≡ 0 → x ≡ 0
no_product zero x none = omega (arith, none)
no_product (suc n) x none =
    let more : x * (256 * 256 ^ n) ≡ 0 = rw (pow-succ' 256 n) at none in
    no_product n x (omega (arith, more))

-- a number of bytes that is 0 has only bytes that are 0
zero_run : (n i : ℕ) (xs : List ℕ) → i + n ≤ length xs → big_from i n xs ≡ 0 → all_zero (drop i xs) ≡ all_zero (drop (i + n) xs)
zero_run zero i xs room none =
    let e : i + 0 ≡ i = omega arith in
    rw e refl
zero_run (suc n) i xs room none =
    let step : suc i + n ≡ i + suc n = omega arith in
    let next : i + 1 ≡ suc i = omega arith in
    let high : get_or xs i 0 * 256 ^ n ≡ 0 = omega (arith, none) in
    let rest : big_from (suc i) n xs ≡ 0 = omega (arith, none) in
    let first : get_or xs i 0 ≡ 0 = no_product n (get_or xs i 0) high in
    let here : all_zero (drop i xs) ≡ all_zero (drop (suc i) xs) = all_zero_drop xs i (omega (arith, room)) ∙ rw (first, next) refl in
    here ∙ zero_run n (suc i) xs (omega (arith, room)) rest ∙ ap (λ (k : ℕ). all_zero (drop k xs)) step

-- a word of zeros is passed over
pub all_zero_word : (xs : List ℕ) (at : ℕ) → at + 8 ≤ length xs → word_at at xs ≡ 0 → all_zero (drop at xs) ≡ all_zero (drop (at + 8) xs)
unfolding word_at
all_zero_word xs at room none = zero_run 8 0 (drop at xs) (omega (arith, room, length-drop at xs)) none ∙ ap all_zero (drop-drop 8 at xs)
