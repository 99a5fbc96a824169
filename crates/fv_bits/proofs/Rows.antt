-- Words in a row: a write of one bit, the union, and the first bit of a value.
use Rattle.std.proofs.Common.{◌≡◌, ◌≢◌, ℕ, ◌+◌, ◌*◌, ◌/◌, ◌%◌, ◌<◌, ◌≤◌, List, length, get_or, set, Fits, Bool, true, false, not, cond, ◌==◌, ◌||◌, bit_or, sym, refl, ap, ◌∙◌, inl, inr, arith, length-set, get_or-set_same, get_or-set_other}
use Rattle.std.specs.Int.{w64}
use Rattle.std.proofs.lemmas.Bool.{cases_eq, cases_lt}
use Rattle.std.proofs.lemmas.Bool.Decides.{nat_tests}
use Rattle.std.proofs.lemmas.List.{get_or_past}
use Rattle.std.proofs.lemmas.Nat.Bits.{bit_at_or, bit_at-lt}
use Rattle.fv_bits.specs.Bits.{bit_of_number}
use Rattle.fv_bits.specs.Stored.{bit_of_words, IsFirstBit, IsFirst, PutsBit, PutsBitOf, Unites, AreAll, AreClearFrom, AreWords}
use Rattle.fv_bits.proofs.Numbers.{bit_zero, bit_full, none_set, all_set}

-- bit b stands in word b / 64
pub bit_at_place : (ws : List ℕ) (b p r : ℕ) → b / 64 ≡ p → b % 64 ≡ r → bit_of_words ws b ≡ bit_of_number (get_or ws p 0) r
unfolding bit_of_words
bit_at_place ws b p r place rest = ap (λ q. bit_of_number (get_or ws q 0) (b % 64)) place ∙ ap (bit_of_number (get_or ws p 0)) rest

-- past the words no bit is set
pub bit_past : (ws : List ℕ) (b : ℕ) → 64 * length ws ≤ b → bit_of_words ws b ≡ false
unfolding bit_of_words
bit_past ws b past = ap (λ n. bit_of_number n (b % 64)) (get_or_past ws (b / 64) 0 (omega arith)) ∙ bit_zero (b % 64)

-- a write of one word that puts one bit
pub put_word_bit : (ws : List ℕ) (b : ℕ) (v : Bool) (x : ℕ) → b < 64 * length ws → PutsBit (get_or ws (b / 64) 0) (b % 64) v x → PutsBitOf ws b v (set ws (b / 64) x)
put_word_bit ws b v x within puts = record {
  len = length-set ws (b / 64) x;
  bits = λ k. elim (cases_eq (k / 64) (b / 64)) [
    | inl same ↦
        let inside : b / 64 < length ws = omega arith in
        let test : (k == b) ≡ (k % 64 == b % 64) = grind (arith, nat_tests) in
        bit_at_place (set ws (b / 64) x) k (b / 64) (k % 64) same refl
        ∙ ap (λ n. bit_of_number n (k % 64)) (get_or-set_same ws (b / 64) x 0 inside)
        ∙ puts.bits (k % 64) (omega arith)
        ∙ ap (λ n. cond (k % 64 == b % 64) v n) (sym (bit_at_place ws k (b / 64) (k % 64) same refl))
        ∙ ap (λ t. cond t v (bit_of_words ws k)) (sym test)
    | inr other ↦
        let test : (k == b) ≡ false = grind (arith, nat_tests) in
        bit_at_place (set ws (b / 64) x) k (k / 64) (k % 64) refl refl
        ∙ ap (λ n. bit_of_number n (k % 64)) (get_or-set_other ws (b / 64) (k / 64) x 0 other)
        ∙ sym (bit_at_place ws k (k / 64) (k % 64) refl refl)
        ∙ ap (λ t. cond t v (bit_of_words ws k)) (sym test)
  ];
}

-- `a | b`
bit_or_number : (a b k : ℕ) → bit_of_number (bit_or a b) k ≡ (bit_of_number a k || bit_of_number b k)
unfolding bit_of_number
bit_or_number a b k = grind (arith, nat_tests, bit_at_or a b k, bit_at-lt a k, bit_at-lt b k)

-- words that are united one by one
pub unite_words : (ws os new : List ℕ) → length new ≡ length ws → length os ≡ length ws → ((k : ℕ) → k < length ws → get_or new k 0 ≡ bit_or (get_or ws k 0) (get_or os k 0)) → Unites ws os new
unite_words ws os new len others each = record {
  len = len;
  bits = λ k. elim (cases_lt (k / 64) (length ws)) [
    | inl inside ↦
        bit_at_place new k (k / 64) (k % 64) refl refl
        ∙ ap (λ n. bit_of_number n (k % 64)) (each (k / 64) inside)
        ∙ bit_or_number (get_or ws (k / 64) 0) (get_or os (k / 64) 0) (k % 64)
        ∙ ap (λ t. t || bit_of_number (get_or os (k / 64) 0) (k % 64)) (sym (bit_at_place ws k (k / 64) (k % 64) refl refl))
        ∙ ap (λ t. bit_of_words ws k || t) (sym (bit_at_place os k (k / 64) (k % 64) refl refl))
    | inr past ↦
        let new_clear = bit_past new k (omega arith) in
        let left_clear = bit_past ws k (omega arith) in
        let right_clear = bit_past os k (omega arith) in
        new_clear ∙ sym (ap (λ t. t || bit_of_words os k) left_clear ∙ right_clear)
  ];
}

-- the first bit of a value, where the word that holds `from` has it
pub in_first_word : (ws : List ℕ) (w : Bool) (from h : ℕ) → IsFirstBit (get_or ws (from / 64) 0) w (from % 64) h → h < 64 → IsFirst ws w from (from / 64 * 64 + h)
in_first_word ws w from h first inside = record {
  after = omega (arith, first.after);
  here = bit_at_place ws (from / 64 * 64 + h) (from / 64) h (omega arith) (omega arith) ∙ first.here inside;
  before = λ k after to.
      bit_at_place ws k (from / 64) (k % 64) (omega arith) refl ∙ first.before (k % 64) (omega arith) (omega arith);
}

-- the same, where a later word is the first that has it
in_later_word : (ws : List ℕ) (w : Bool) (from skipped h next at : ℕ) → ((j : ℕ) → j < 64 → bit_of_number skipped j ≡ not w) → IsFirstBit (get_or ws (from / 64) 0) w (from % 64) h → 64 ≤ h → AreAll ws skipped (from / 64 + 1) next → from / 64 + 1 ≤ next → IsFirstBit (get_or ws next 0) w 0 at → at < 64 → IsFirst ws w from (next * 64 + at)
in_later_word ws w from skipped h next at empty first none all later found inside = record {
  after = omega arith;
  here = bit_at_place ws (next * 64 + at) next at (omega arith) (omega arith) ∙ found.here inside;
  before = λ k after to. elim (cases_lt (k / 64) (from / 64 + 1)) [
    | inl low ↦ bit_at_place ws k (from / 64) (k % 64) (omega arith) refl ∙ first.before (k % 64) (omega arith) (omega arith)
    | inr past ↦ elim (cases_lt (k / 64) next) [
      | inl between ↦
          bit_at_place ws k (k / 64) (k % 64) refl refl
          ∙ ap (λ n. bit_of_number n (k % 64)) (all.each (k / 64) past between) ∙ empty (k % 64) (omega arith)
      | inr high ↦ bit_at_place ws k next (k % 64) (omega arith) refl ∙ found.before (k % 64) (omega arith) (omega arith)
    ]
  ];
}

-- the first clear bit: a word past the end has one too
pub clear_in_later_word : (ws : List ℕ) (from h next at : ℕ) → AreWords ws → IsFirstBit (get_or ws (from / 64) 0) false (from % 64) h → 64 ≤ h → AreAll ws 18446744073709551615 (from / 64 + 1) next → from / 64 + 1 ≤ next → (next < length ws → get_or ws next 0 ≢ 18446744073709551615) → IsFirstBit (get_or ws next 0) false 0 at → IsFirst ws false from (next * 64 + at)
clear_in_later_word ws from h next at words first none all later other found =
    let inside : at < 64 = elim (cases_lt at 64) [
      | inl low ↦ low
      | inr high ↦
          let full = all_set (get_or ws next 0) (words.fits next) (λ j low. found.before j (omega arith) (omega arith)) in
          elim (cases_lt next (length ws)) [
            | inl there ↦ absurd (other there full)
            | inr gone ↦ absurd (omega (arith, get_or_past ws next 0 gone, full))
          ]
    ] in
    in_later_word ws false from 18446744073709551615 h next at bit_full first none all later found inside

-- the first set bit
pub set_in_later_word : (ws : List ℕ) (from h next at : ℕ) → AreWords ws → IsFirstBit (get_or ws (from / 64) 0) true (from % 64) h → 64 ≤ h → AreAll ws 0 (from / 64 + 1) next → from / 64 + 1 ≤ next → get_or ws next 0 ≢ 0 → IsFirstBit (get_or ws next 0) true 0 at → IsFirst ws true from (next * 64 + at)
set_in_later_word ws from h next at words first none all later other found =
    let inside : at < 64 = elim (cases_lt at 64) [
      | inl low ↦ low
      | inr high ↦ absurd (other (none_set (get_or ws next 0) (words.fits next) (λ j low. found.before j (omega arith) (omega arith))))
    ] in
    in_later_word ws true from 0 h next at (λ j _. bit_zero j) first none all later found inside

-- no bit is set, where no word has one
pub in_no_word : (ws : List ℕ) (from h next : ℕ) → IsFirstBit (get_or ws (from / 64) 0) true (from % 64) h → 64 ≤ h → AreAll ws 0 (from / 64 + 1) next → length ws ≤ next → AreClearFrom ws from
in_no_word ws from h next first none all past = record {
  bits = λ k after. elim (cases_lt (k / 64) (from / 64 + 1)) [
    | inl low ↦ bit_at_place ws k (from / 64) (k % 64) (omega arith) refl ∙ first.before (k % 64) (omega arith) (omega arith)
    | inr later ↦ elim (cases_lt (k / 64) next) [
      | inl between ↦ bit_at_place ws k (k / 64) (k % 64) refl refl ∙ ap (λ n. bit_of_number n (k % 64)) (all.each (k / 64) later between) ∙ bit_zero (k % 64)
      | inr high ↦ bit_past ws k (omega arith)
    ]
  ];
}

-- words are kept as such by their type
pub words_from : (ws : List ℕ) → ((k : ℕ) → Fits w64 (get_or ws k 0)) → AreWords ws
words_from ws fit = record { fits = λ k. let fits = fit k in omega arith }

-- the forms that the functions over words leave
pub head_found : (ws : List ℕ) (w : Bool) (from h x : ℕ) → IsFirstBit x w (from % 64) h → x ≡ get_or ws (from / 64) 0 → h < 64 → IsFirst ws w from (from / 64 * 64 + h)
head_found ws w from h x first is inside = in_first_word ws w from h (rw is at first) inside

pub later_clear : (ws : List ℕ) (from h next at x y : ℕ) → IsFirstBit y false 0 at → y ≡ get_or ws next 0 → IsFirstBit x false (from % 64) h → x ≡ get_or ws (from / 64) 0 → AreAll ws 18446744073709551615 (from / 64 + 1) next → 64 ≤ h → from / 64 + 1 ≤ next → (next < length ws → get_or ws next 0 ≢ 18446744073709551615) → AreWords ws → IsFirst ws false from (next * 64 + at)
later_clear ws from h next at x y found at_next first at_head all none later other words = clear_in_later_word ws from h next at words (rw at_head at first) none all later other (rw at_next at found)

pub later_set : (ws : List ℕ) (from h next at x y : ℕ) → IsFirstBit y true 0 at → y ≡ get_or ws next 0 → IsFirstBit x true (from % 64) h → x ≡ get_or ws (from / 64) 0 → AreAll ws 0 (from / 64 + 1) next → 64 ≤ h → from / 64 + 1 ≤ next → next < length ws → (next < length ws → get_or ws next 0 ≢ 0) → AreWords ws → IsFirst ws true from (next * 64 + at)
later_set ws from h next at x y found at_next first at_head all none later inside other words = set_in_later_word ws from h next at words (rw at_head at first) none all later (other inside) (rw at_next at found)
