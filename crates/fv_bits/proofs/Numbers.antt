-- The bits of a number after the steps that a word of a map takes.
use Rattle.std.proofs.Common.{◌≡◌, ℕ, ◌+◌, ◌-◌, ◌*◌, ◌/◌, ◌%◌, ◌^◌, ◌<◌, min, zero, suc, true, false, not, ◌==◌, bit_and, bit_or, sym, ap, ◌∙◌, inl, inr, arith}
use Rattle.std.specs.Int.{w64, trailing_zeros}
use Rattle.std.specs.Int.Count.{count_trailing_zeros}
use Rattle.std.proofs.lemmas.Bool.{cases_eq, not-true, not-false}
use Rattle.std.proofs.lemmas.Bool.Decides.{nat_tests}
use Rattle.std.proofs.lemmas.Nat.{shr-shr, one_shl, and_mask, shr_le}
use Rattle.std.proofs.lemmas.Nat.Bits.{bit_at_set_same, bit_at_set_other, bit_at_clear_same, bit_at_clear_other, bit_at-zero, bit_at-trailing_zeros, bit_at-lt, bit_at_not, same_from_bits_below}
use Rattle.fv_bits.specs.Bits.{bit_of_number}
use Rattle.fv_bits.specs.Stored.{IsFirstBit, PutsBit}

-- `n | 1 << k`
pub set_bit : (n k : ℕ) → k < 64 → PutsBit n k true (bit_or n (1 * 2 ^ k % 18446744073709551616))
unfolding bit_of_number
set_bit n k within = record {
  bits = λ j inside. elim (cases_eq j k) [
    | inl same ↦ grind (arith, nat_tests, bit_at_set_same w64 n k within)
    | inr other ↦ grind (arith, nat_tests, bit_at_set_other w64 n k within j other)
  ];
}

-- `n & !(1 << k)`
pub clear_bit : (n k : ℕ) → k < 64 → PutsBit n k false (bit_and n (18446744073709551615 - 1 * 2 ^ k % 18446744073709551616))
unfolding bit_of_number
clear_bit n k within = record {
  bits = λ j inside. elim (cases_eq j k) [
    | inl same ↦ grind (arith, nat_tests, bit_at_clear_same w64 n k within)
    | inr other ↦ grind (arith, nat_tests, bit_at_clear_other w64 n k within j inside other)
  ];
}

-- `n & ((1 << k) - 1)`
pub low_part : (n k : ℕ) → k < 64 → bit_and n (1 * 2 ^ k % 18446744073709551616 - 1) ≡ n % 2 ^ k
low_part n k within = ap (λ m. bit_and n (m - 1)) (one_shl k 64 within) ∙ and_mask n k

-- `n >> k` has the bits from k on
pub bit_shr : (n k i : ℕ) → bit_of_number (n / 2 ^ k) i ≡ bit_of_number n (k + i)
unfolding bit_of_number
bit_shr n k i = ap (λ m. (m % 2) == 1) (shr-shr n k i)

pub bit_zero : (i : ℕ) → bit_of_number 0 i ≡ false
unfolding bit_of_number
bit_zero i = ap (λ m. m == 1) (bit_at-zero i)

pub bit_not_number : (n i : ℕ) → n < 2 ^ 64 → i < 64 → bit_of_number (18446744073709551615 - n) i ≡ not (bit_of_number n i)
unfolding bit_of_number
bit_not_number n i fits within = grind (arith, nat_tests, bit_at_not w64 n i fits within, bit_at-lt n i)

pub bit_full : (i : ℕ) → i < 64 → bit_of_number 18446744073709551615 i ≡ true
bit_full i within = bit_not_number 0 i (omega arith) within ∙ ap not (bit_zero i)

-- the first set bit of a number of 64 bits, or 64
trailing : (n : ℕ) → n < 2 ^ 64 → (trailing_zeros w64 n < 64 → bit_of_number n (trailing_zeros w64 n) ≡ true) × ((i : ℕ) → i < trailing_zeros w64 n → bit_of_number n i ≡ false)
unfolding bit_of_number count_trailing_zeros
trailing zero below = (λ lt. absurd (omega (arith, lt)), λ i lt. bit_zero i)
trailing (suc n) below =
    let t = bit_at-trailing_zeros w64 (suc n) (omega arith) below in
    (λ lt. ap (λ m. m == 1) t.1, λ i lt. ap (λ m. m == 1) (t.2 i lt))

-- `(k + (n >> k).trailing_zeros()).min(64)`
pub first_set_bit : (n k : ℕ) → k < 64 → n < 2 ^ 64 → IsFirstBit n true k (min (k + trailing_zeros w64 (n / 2 ^ k)) 64)
first_set_bit n k within fits =
    let high : n / 2 ^ k < 2 ^ 64 = omega (arith, shr_le n k) in
    let found = trailing (n / 2 ^ k) high in
    record {
      after = omega arith;
      within = omega arith;
      here = λ inside.
          let lt : trailing_zeros w64 (n / 2 ^ k) < 64 = omega arith in
          let at : min (k + trailing_zeros w64 (n / 2 ^ k)) 64 ≡ k + trailing_zeros w64 (n / 2 ^ k) = omega arith in
          ap (bit_of_number n) at ∙ sym (bit_shr n k (trailing_zeros w64 (n / 2 ^ k))) ∙ found.0 lt;
      before = λ j from to.
          let lt : j - k < trailing_zeros w64 (n / 2 ^ k) = omega arith in
          let at : j ≡ k + (j - k) = omega arith in
          ap (bit_of_number n) at ∙ sym (bit_shr n k (j - k)) ∙ found.1 (j - k) lt;
    }

-- the first clear bit is the first set one of the complement
pub first_clear_bit : (n k at : ℕ) → n < 2 ^ 64 → IsFirstBit (18446744073709551615 - n) true k at → IsFirstBit n false k at
first_clear_bit n k at fits found = record {
  after = found.after;
  within = found.within;
  here = λ inside. not-true _ (sym (bit_not_number n at fits inside) ∙ found.here inside);
  before = λ j from to. not-false _ (sym (bit_not_number n j fits (omega (arith, found.within))) ∙ found.before j from to);
}

-- a word that has no bit of a value is 0 or full
pub none_set : (n : ℕ) → n < 2 ^ 64 → ((j : ℕ) → j < 64 → bit_of_number n j ≡ false) → n ≡ 0
unfolding bit_of_number
none_set n fits none = same_from_bits_below 64 n 0 fits (omega arith) (λ j inside. grind (arith, nat_tests, none j inside, bit_at-lt n j, bit_at-zero j))

pub all_set : (n : ℕ) → n < 2 ^ 64 → ((j : ℕ) → j < 64 → bit_of_number n j ≡ true) → n ≡ 18446744073709551615
all_set n fits all =
    let other : 18446744073709551615 - n ≡ 0 = none_set (18446744073709551615 - n) (omega arith) (λ j inside. bit_not_number n j fits inside ∙ ap not (all j inside)) in
    omega arith
