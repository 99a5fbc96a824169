-- Bits that are set in one row of words and clear in another, by words.
use Rattle.std.proofs.Common.{◌≡◌, ℕ, ◌+◌, ◌-◌, ◌*◌, ◌/◌, ◌%◌, ◌^◌, ◌<◌, ◌≤◌, List, get_or, not, ◌&&◌, bit_and, sym, ap, ap₂, ◌∙◌, arith, mod-eq_of_lt}
use Rattle.std.specs.Int.Count.{ones}
use Rattle.std.proofs.lemmas.Bool.Decides.{nat_tests}
use Rattle.std.proofs.lemmas.Nat.Bits.{bit_at_and, bit_at-lt}
use Rattle.fv_bits.specs.Bits.{bit_of_number}
use Rattle.fv_bits.specs.Stored.{is_apart, IsApart}
use Rattle.fv_bits.proofs.Counts.{ones_below, passing, passing-add, passing_same}
use Rattle.fv_bits.proofs.Numbers.{bit_not_number}
use Rattle.fv_bits.proofs.Rows.{bit_at_place}

-- `a & b`
bit_and_number : (a b k : ℕ) → bit_of_number (bit_and a b) k ≡ (bit_of_number a k && bit_of_number b k)
unfolding bit_of_number
bit_and_number a b k = grind (arith, nat_tests, bit_at_and a b k, bit_at-lt a k, bit_at-lt b k)

-- `words[at] & !others[at]`
pub apart_word : (ws os : List ℕ) (at x y : ℕ) → x ≡ get_or ws at 0 → y ≡ get_or os at 0 → y < 2 ^ 64 → IsApart ws os at (bit_and x (18446744073709551615 - y))
unfolding is_apart
apart_word ws os at x y is_word is_other fits = record {
  bits = λ k within.
      let place : (64 * at + k) / 64 ≡ at = omega arith in
      let rest : (64 * at + k) % 64 ≡ k = omega arith in
      bit_and_number x (18446744073709551615 - y) k
      ∙ ap (λ t. bit_of_number x k && t) (bit_not_number y k fits within)
      ∙ ap₂ (λ m n. bit_of_number m k && not (bit_of_number n k)) is_word is_other
      ∙ sym (ap₂ (λ s t. s && not t) (bit_at_place ws (64 * at + k) at k place rest) (bit_at_place os (64 * at + k) at k place rest));
}

-- the lowest bits of one word
pub apart_low : (ws os : List ℕ) (at x k : ℕ) → IsApart ws os at x → k ≤ 64 → passing (is_apart ws os) (64 * at) k ≡ ones (x % 2 ^ k)
apart_low ws os at x k is short =
    passing_same (is_apart ws os) (bit_of_number x) (64 * at) 0 k (λ j lt.
    let start : 0 + j ≡ j = omega arith in
    sym (is.bits j (omega arith)) ∙ ap (bit_of_number x) (sym start)) ∙ ones_below x k

-- one more word
pub apart_more : (ws os : List ℕ) (first at x total : ℕ) → first ≤ at → IsApart ws os at x → x < 2 ^ 64 → total ≡ passing (is_apart ws os) (64 * first) (64 * (at - first)) → total + ones x ≡ passing (is_apart ws os) (64 * first) (64 * (at + 1 - first))
apart_more ws os first at x total from is fits so_far =
    let p = is_apart ws os in
    let size : 64 * (at - first) + 64 ≡ 64 * (at + 1 - first) = omega arith in
    let start : 64 * first + 64 * (at - first) ≡ 64 * at = omega arith in
    let last = ap (λ m. passing p m 64) start ∙ apart_low ws os at x 64 is (omega arith) ∙ ap ones (mod-eq_of_lt fits) in
    let split = passing-add p (64 * first) (64 * (at - first)) 64 in
    let joined = ap (passing p (64 * first)) size in
    omega (arith, so_far, last, split, joined)

-- a range: whole words from that of `from` to that of `to`, more by the bits below `to`, less by the bits below `from`
pub apart_by_words : (ws os : List ℕ) (from to whole high low : ℕ) → from ≤ to → whole ≡ passing (is_apart ws os) (64 * (from / 64)) (64 * (to / 64 - from / 64)) → IsApart ws os (to / 64) high → IsApart ws os (from / 64) low → passing (is_apart ws os) from (to - from) + ones (low % 2 ^ (from % 64)) ≡ whole + ones (high % 2 ^ (to % 64))
apart_by_words ws os from to whole high low ordered middle above below =
    let p = is_apart ws os in
    let first = from / 64 in
    let last = to / 64 in
    let of_above = apart_low ws os last high (to % 64) above (omega arith) in
    let of_below = apart_low ws os first low (from % 64) below (omega arith) in
    let start : 64 * first + from % 64 ≡ from = omega arith in
    let split_from = passing-add p (64 * first) (from % 64) (to - from) ∙ ap (λ m. passing p (64 * first) (from % 64) + passing p m (to - from)) start in
    let reach : 64 * first + 64 * (last - first) ≡ 64 * last = omega arith in
    let split_to = passing-add p (64 * first) (64 * (last - first)) (to % 64) ∙ ap (λ m. passing p (64 * first) (64 * (last - first)) + passing p m (to % 64)) reach in
    let same : from % 64 + (to - from) ≡ 64 * (last - first) + to % 64 = omega arith in
    let joined = ap (passing p (64 * first)) same in
    omega (arith, middle, of_above, of_below, split_from, split_to, joined)
