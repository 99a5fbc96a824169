-- How many numbers of a range pass a test, and the same by words.
use Rattle.std.proofs.Common.{◌≡◌, ℕ, zero, suc, ◌+◌, ◌-◌, ◌*◌, ◌/◌, ◌%◌, ◌^◌, ◌<◌, ◌≤◌, List, length, get_or, take, drop, Bool, true, false, cond, ◌==◌, count_by, sum_by, sym, refl, ap, ap₂, ◌∙◌, inl, inr, arith, add-zero, add_assoc, length-drop, get_or-drop, mod-eq_of_lt}
use Rattle.std.specs.List.{range_with_len}
use Rattle.std.specs.Int.{bit_at}
use Rattle.std.specs.Int.Count.{ones_cat, ones}
use Rattle.std.proofs.lemmas.Bool.{cases_eq}
use Rattle.std.proofs.lemmas.List.{take_all}
use Rattle.std.proofs.lemmas.List.Sums.{sum_by-cons, sum_by_more}
use Rattle.std.proofs.lemmas.Nat.{mod-pow-add, pow_pos, mod_below}
use Rattle.std.proofs.lemmas.Nat.Bits.{bit_at-lt}
use Rattle.fv_bits.specs.Bits.{bit_of_number}
use Rattle.fv_bits.specs.Stored.{bit_of_words, AreWords, IsStored}
use Rattle.fv_bits.proofs.Rows.{bit_at_place}

-- how many numbers pass, of n numbers from a on
abbrev pub passing : (ℕ → Bool) → ℕ → ℕ → ℕ
passing p a n = count_by p (range_with_len a n)

pub passing-suc : (p : ℕ → Bool) (a n : ℕ) → passing p a (suc n) ≡ cond (p a) 1 0 + passing p (a + 1) n
passing-suc p a n = sum_by-cons (λ k. cond (p k) 1 0) a (range_with_len (a + 1) n)

-- ranges that meet
pub passing-add : (p : ℕ → Bool) (a m n : ℕ) → passing p a (m + n) ≡ passing p a m + passing p (a + m) n
passing-add p a zero n =
    let start : a ≡ a + 0 = omega arith in
    let none : 0 + n ≡ n = omega arith in
    let before : 0 + passing p (a + 0) n ≡ passing p (a + 0) n = omega arith in
    ap (passing p a) none ∙ ap (λ m. passing p m n) start ∙ sym before
passing-add p a (suc m) n =
    let all : suc m + n ≡ suc (m + n) = omega arith in
    let next : (a + 1) + m ≡ a + suc m = omega arith in
    ap (passing p a) all ∙ passing-suc p a (m + n)
    ∙ ap (λ x. cond (p a) 1 0 + x) (passing-add p (a + 1) m n)
    ∙ sym (add_assoc (cond (p a) 1 0) (passing p (a + 1) m) (passing p ((a + 1) + m) n))
    ∙ ap₂ (λ x y. x + passing p y n) (sym (passing-suc p a m)) next

-- a test that answers the same
pub passing_same : (p q : ℕ → Bool) (a b n : ℕ) → ((j : ℕ) → j < n → p (a + j) ≡ q (b + j)) → passing p a n ≡ passing q b n
passing_same p q a b zero same = refl
passing_same p q a b (suc n) same =
    let first : p a ≡ q b = ap p (sym (add-zero a)) ∙ same 0 (omega arith) ∙ ap q (add-zero b) in
    let left : (j : ℕ) → (a + 1) + j ≡ a + suc j = λ j. omega arith in
    let right : (j : ℕ) → b + suc j ≡ (b + 1) + j = λ j. omega arith in
    let rest = passing_same p q (a + 1) (b + 1) n (λ j lt. ap p (left j) ∙ same (suc j) (omega arith) ∙ ap q (right j)) in
    passing-suc p a n ∙ ap₂ (λ t x. cond t 1 0 + x) first rest ∙ sym (passing-suc q b n)

at_most_one : (t : Bool) → cond t 1 0 ≤ 1
at_most_one true = omega arith
at_most_one false = omega arith

pub passing_le : (p : ℕ → Bool) (a n : ℕ) → passing p a n ≤ n
passing_le p a zero = omega arith
passing_le p a (suc n) = omega (arith, passing-suc p a n, at_most_one (p a), passing_le p (a + 1) n)

-- one bit of a number
ones_of_bit : (n k : ℕ) → ones (bit_at n k) ≡ cond (bit_of_number n k) 1 0
unfolding bit_of_number ones
ones_of_bit n k = elim (cases_eq (bit_at n k) 1) [
  | inl set ↦ ap ones set ∙ sym (ap (λ m. cond (m == 1) 1 0) set)
  | inr clear ↦
      let zero_bit : bit_at n k ≡ 0 = omega (arith, bit_at-lt n k) in
      ap ones zero_bit ∙ sym (ap (λ m. cond (m == 1) 1 0) zero_bit)
]

ones_of_zero : 0 ≡ ones 0
unfolding ones
ones_of_zero = refl

-- the lowest bits of a number
pub ones_below : (n k : ℕ) → passing (bit_of_number n) 0 k ≡ ones (n % 2 ^ k)
ones_below n zero =
    let nothing : 0 ≡ n % 2 ^ 0 = omega arith in
    ones_of_zero ∙ ap ones nothing
ones_below n (suc k) =
    let length_is : suc k ≡ k + 1 = omega arith in
    let longer : suc k ≡ 1 + k = omega arith in
    let start : 0 + k ≡ k = omega arith in
    let value : n % 2 ^ suc k ≡ bit_at n k * 2 ^ k + n % 2 ^ k = ap (λ m. n % 2 ^ m) longer ∙ mod-pow-add n 1 k in
    let split = ones_cat k (bit_at n k) (n % 2 ^ k) (mod_below n (2 ^ k) (pow_pos k)) in
    let last = passing-suc (bit_of_number n) (0 + k) 0 ∙ add-zero (cond (bit_of_number n (0 + k)) 1 0) ∙ ap (λ m. cond (bit_of_number n m) 1 0) start ∙ sym (ones_of_bit n k) in
    let added = passing-add (bit_of_number n) 0 k 1 in
    let shown : passing (bit_of_number n) 0 (k + 1) ≡ ones (bit_at n k * 2 ^ k + n % 2 ^ k) = omega (arith, added, last, split, ones_below n k) in
    ap (passing (bit_of_number n) 0) length_is ∙ shown ∙ sym (ap ones value)

-- the lowest bits of one word of a row
pub ones_of_word : (ws : List ℕ) (i k : ℕ) → k ≤ 64 → passing (bit_of_words ws) (64 * i) k ≡ ones (get_or ws i 0 % 2 ^ k)
ones_of_word ws i k short =
    passing_same (bit_of_words ws) (bit_of_number (get_or ws i 0)) (64 * i) 0 k (λ j lt. bit_at_place ws (64 * i + j) i (0 + j) (omega arith) (omega arith))
    ∙ ones_below (get_or ws i 0) k

-- whole words of a row
pub ones_of_words : (ws : List ℕ) → AreWords ws → (a n : ℕ) → a + n ≤ length ws → passing (bit_of_words ws) (64 * a) (64 * n) ≡ sum_by ones (take n (drop a ws))
ones_of_words ws words a zero within = refl
ones_of_words ws words a (suc n) within =
    let size : 64 * suc n ≡ 64 * n + 64 = omega arith in
    let start : 64 * a + 64 * n ≡ 64 * (a + n) = omega arith in
    let inside : n < length (drop a ws) = omega (arith, length-drop a ws) in
    let whole : get_or ws (a + n) 0 % 2 ^ 64 ≡ get_or (drop a ws) n 0 = mod-eq_of_lt (words.fits (a + n)) ∙ sym (get_or-drop a ws n 0) in
    let next : suc n ≡ n + 1 = omega arith in
    let more : take (suc n) (drop a ws) ≡ take (n + 1) (drop a ws) = ap (λ m. take m (drop a ws)) next in
    ap (passing (bit_of_words ws) (64 * a)) size ∙ passing-add (bit_of_words ws) (64 * a) (64 * n) 64
    ∙ ap₂ ◌+◌ (ones_of_words ws words a n (omega arith)) (ap (λ m. passing (bit_of_words ws) m 64) start ∙ ones_of_word ws (a + n) 64 (omega arith) ∙ ap ones whole)
    ∙ sym (ap (sum_by ones) more ∙ sum_by_more ones (drop a ws) n 0 inside)

-- a range: whole words from that of `from` to that of `to`, more by the bits below `to`, less by the bits below `from`
pub count_by_words : (ws : List ℕ) (from to : ℕ) → AreWords ws → from ≤ to → to ≤ 64 * length ws → passing (bit_of_words ws) from (to - from) + ones (get_or ws (from / 64) 0 % 2 ^ (from % 64)) ≡ sum_by ones (take (to / 64 - from / 64) (drop (from / 64) ws)) + ones (get_or ws (to / 64) 0 % 2 ^ (to % 64))
count_by_words ws from to words ordered within =
    let p = bit_of_words ws in
    let first = from / 64 in
    let last = to / 64 in
    let below = ones_of_word ws first (from % 64) (omega arith) in
    let above = ones_of_word ws last (to % 64) (omega arith) in
    let whole = ones_of_words ws words first (last - first) (omega arith) in
    let start : 64 * first + from % 64 ≡ from = omega arith in
    let split_from = passing-add p (64 * first) (from % 64) (to - from) ∙ ap (λ m. passing p (64 * first) (from % 64) + passing p m (to - from)) start in
    let middle : 64 * first + 64 * (last - first) ≡ 64 * last = omega arith in
    let split_to = passing-add p (64 * first) (64 * (last - first)) (to % 64) ∙ ap (λ m. passing p (64 * first) (64 * (last - first)) + passing p m (to % 64)) middle in
    let same : from % 64 + (to - from) ≡ 64 * (last - first) + to % 64 = omega arith in
    let joined = ap (passing p (64 * first)) same in
    omega (arith, below, above, whole, split_from, split_to, joined)

-- a test that none passes
pub none_pass : (p : ℕ → Bool) (a n : ℕ) → ((k : ℕ) → a ≤ k → p k ≡ false) → passing p a n ≡ 0
none_pass p a zero none = refl
none_pass p a (suc n) none =
    omega (arith, passing-suc p a n, ap {B = ℕ} (λ t. cond t 1 0) (none a (omega arith)), none_pass p (a + 1) n (λ k from. none k (omega arith)))

-- all words of a map
pub ones_of_all : (len : ℕ) (ws : List ℕ) → IsStored len ws → AreWords ws → sum_by ones ws ≡ passing (bit_of_words ws) 0 len
ones_of_all len ws stored words =
    let p = bit_of_words ws in
    let whole = ones_of_words ws words 0 (length ws) (omega arith) in
    let same : take (length ws) (drop 0 ws) ≡ ws = take_all (length ws) ws (omega arith) in
    let start : 64 * 0 ≡ 0 = omega arith in
    let size : len + (64 * length ws - len) ≡ 64 * length ws = omega (arith, stored.enough) in
    let past = none_pass p (0 + len) (64 * length ws - len) (λ k from. stored.clear k (omega arith)) in
    let split = passing-add p 0 len (64 * length ws - len) in
    let joined = ap (passing p 0) size in
    let moved = ap (λ a. passing p a (64 * length ws)) start in
    let sums = ap (sum_by ones) same in
    omega (arith, whole, past, split, joined, moved, sums)

pub ones_within : (len : ℕ) (ws : List ℕ) → IsStored len ws → AreWords ws → sum_by ones ws ≤ len
ones_within len ws stored words = omega (arith, ones_of_all len ws stored words, passing_le (bit_of_words ws) 0 len)
