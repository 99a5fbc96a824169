-- The eight bytes of a word, and the words of a block.
use Rattle.std.proofs.Common.{◌≡◌, ℕ, zero, suc, ◌+◌, ◌-◌, ◌*◌, ◌/◌, ◌%◌, ◌^◌, ◌<◌, ◌≤◌, List, ◌++◌, length, get_or, set, take, drop, true, false, cond, ◌==◌, sym, refl, ap, ◌∙◌, inl, inr, arith, length-append, length-take-le, length-drop, get_or-take, get_or-drop, get_or-set_same, get_or-set_other}
use Rattle.std.specs.Int.{bit_at, w64, to_le_bytes, from_le_bytes}
use Rattle.std.proofs.lemmas.Bool.{cases_eq, cases_lt}
use Rattle.std.proofs.lemmas.Bool.Decides.{nat_tests}
use Rattle.std.proofs.lemmas.List.{get_or_past, get_or_append_left, get_or-append_right}
use Rattle.std.proofs.lemmas.Nat.{le_bytes_8}
use Rattle.std.proofs.lemmas.Nat.Bits.{bit_at_cat_low}
use Rattle.fv_bits.specs.Bits.{bit_of_number, bit_of_bytes}
use Rattle.fv_bits.specs.Stored.{bit_of_words, IsWordOf, PutsWord}
use Rattle.fv_bits.proofs.Numbers.{bit_shr}
use Rattle.fv_bits.proofs.Rows.{bit_at_place}

-- bit b stands in byte b / 8
pub bit_in_byte : (bytes : List ℕ) (b p r : ℕ) → b / 8 ≡ p → b % 8 ≡ r → bit_of_bytes bytes b ≡ bit_of_number (get_or bytes p 0) r
unfolding bit_of_bytes
bit_in_byte bytes b p r place rest = ap (λ q. bit_of_number (get_or bytes q 0) (b % 8)) place ∙ ap (bit_of_number (get_or bytes p 0)) rest

-- byte j of a word
byte_of_word : (n j : ℕ) → j < 8 → get_or (to_le_bytes w64 n) j 0 ≡ n / 2 ^ (8 * j) % 2 ^ 8
byte_of_word n zero lt = omega arith
byte_of_word n (suc zero) lt = refl
byte_of_word n (suc (suc zero)) lt = refl
byte_of_word n (suc (suc (suc zero))) lt = refl
byte_of_word n (suc (suc (suc (suc zero)))) lt = refl
byte_of_word n (suc (suc (suc (suc (suc zero))))) lt = refl
byte_of_word n (suc (suc (suc (suc (suc (suc zero)))))) lt = refl
byte_of_word n (suc (suc (suc (suc (suc (suc (suc zero))))))) lt = refl
byte_of_word n (suc (suc (suc (suc (suc (suc (suc (suc j)))))))) lt = absurd (omega arith)

-- the lowest byte keeps the lowest bits
bit_of_low_byte : (n k : ℕ) → k < 8 → bit_of_number (n % 2 ^ 8) k ≡ bit_of_number n k
unfolding bit_of_number
bit_of_low_byte n k low =
    let split : n / 256 * 2 ^ 8 + n % 2 ^ 8 ≡ n = omega arith in
    ap (λ m. m == 1) (sym (bit_at_cat_low (n / 256) 8 (n % 2 ^ 8) k low) ∙ ap (λ m. bit_at m k) split)

-- bit b of a word stands in its byte b / 8
bit_of_le_bytes : (n b : ℕ) → b < 64 → bit_of_bytes (to_le_bytes w64 n) b ≡ bit_of_number n b
bit_of_le_bytes n b within =
    let at : 8 * (b / 8) + b % 8 ≡ b = omega arith in
    bit_in_byte (to_le_bytes w64 n) b (b / 8) (b % 8) refl refl
    ∙ ap (λ m. bit_of_number m (b % 8)) (byte_of_word n (b / 8) (omega arith))
    ∙ bit_of_low_byte (n / 2 ^ (8 * (b / 8))) (b % 8) (omega arith)
    ∙ bit_shr n (8 * (b / 8)) (b % 8) ∙ ap (bit_of_number n) at

-- a word that is read from eight bytes
pub read_word : (bytes bs : List ℕ) (at n : ℕ) → ((k : ℕ) → get_or bs k 0 < 256) → length bs ≡ 8 → ((j : ℕ) → j < 8 → get_or bs j 0 ≡ get_or bytes (8 * at + j) 0) → n ≡ from_le_bytes w64 bs → IsWordOf bytes at n
read_word bytes bs at n small len same is = record {
  bits = λ k within.
      let whole = le_bytes_8 bs n len small is in
      sym (bit_of_le_bytes n k within) ∙ ap (λ l. bit_of_bytes l k) whole
      ∙ bit_in_byte bs k (k / 8) (k % 8) refl refl
      ∙ ap (λ m. bit_of_number m (k % 8)) (same (k / 8) (omega arith))
      ∙ sym (bit_in_byte bytes (64 * at + k) (8 * at + k / 8) (k % 8) (omega arith) (omega arith));
}

-- eight bytes of a list
pub word_read : (bytes bs : List ℕ) (at n : ℕ) → 8 * at + 8 ≤ length bytes → ((k : ℕ) → get_or bytes k 0 < 256) → bs ≡ take 8 (drop (8 * at) bytes) → n ≡ from_le_bytes w64 bs → IsWordOf bytes at n
word_read bytes bs at n within small part is =
    let len : length (take 8 (drop (8 * at) bytes)) ≡ 8 = length-take-le 8 (drop (8 * at) bytes) (simp length-drop (omega arith)) in
    let same : (j : ℕ) → j < 8 → get_or (take 8 (drop (8 * at) bytes)) j 0 ≡ get_or bytes (8 * at + j) 0 = λ j lt. get_or-take 8 (drop (8 * at) bytes) j 0 lt ∙ get_or-drop (8 * at) bytes j 0 in
    let fit : (k : ℕ) → get_or (take 8 (drop (8 * at) bytes)) k 0 < 256 = λ k. elim (cases_lt k 8) [
      | inl low ↦ rw (same k low) (small (8 * at + k))
      | inr high ↦ rw (get_or_past (take 8 (drop (8 * at) bytes)) k 0 (omega arith)) (omega arith)
    ] in
    read_word bytes (take 8 (drop (8 * at) bytes)) at n fit len same (is ∙ ap (from_le_bytes w64) part)

-- eight bytes put over a list's bytes from a on
module _ (xs ys : List ℕ) (a : ℕ) (within : a + 8 ≤ length xs) (eight : length ys ≡ 8) where
  length-put : length (take a xs ++ (ys ++ drop 8 (drop a xs))) ≡ length xs
  length-put =
      let front = length-take-le a xs (omega arith) in
      let back = length-drop 8 (drop a xs) in
      let tail = length-drop a xs in
      length-append (take a xs) (ys ++ drop 8 (drop a xs)) ∙ omega (arith, front, back, tail, length-append ys (drop 8 (drop a xs)))

  put_below : (p : ℕ) → p < a → get_or (take a xs ++ (ys ++ drop 8 (drop a xs))) p 0 ≡ get_or xs p 0
  put_below p low =
      let front = length-take-le a xs (omega arith) in
      get_or_append_left (take a xs) (ys ++ drop 8 (drop a xs)) 0 p (omega arith) ∙ get_or-take a xs p 0 low

  put_at : (p : ℕ) → a ≤ p → p < a + 8 → get_or (take a xs ++ (ys ++ drop 8 (drop a xs))) p 0 ≡ get_or ys (p - a) 0
  put_at p from to =
      let front = length-take-le a xs (omega arith) in
      get_or-append_right (take a xs) (ys ++ drop 8 (drop a xs)) a p 0 front from
      ∙ get_or_append_left ys (drop 8 (drop a xs)) 0 (p - a) (omega arith)

  put_behind : (p : ℕ) → a + 8 ≤ p → get_or (take a xs ++ (ys ++ drop 8 (drop a xs))) p 0 ≡ get_or xs p 0
  put_behind p high =
      let front = length-take-le a xs (omega arith) in
      let place : a + (8 + (p - a - 8)) ≡ p = omega arith in
      get_or-append_right (take a xs) (ys ++ drop 8 (drop a xs)) a p 0 front (omega arith)
      ∙ get_or-append_right ys (drop 8 (drop a xs)) 8 (p - a) 0 eight (omega arith)
      ∙ get_or-drop 8 (drop a xs) (p - a - 8) 0 ∙ get_or-drop a xs (8 + (p - a - 8)) 0
      ∙ ap (λ q. get_or xs q 0) place

-- a word that is written as eight bytes
pub word_put : (old ys : List ℕ) (at n k : ℕ) → 8 * at + 8 ≤ length old → k ≡ 8 → ys ≡ to_le_bytes w64 n → PutsWord old at n (take (8 * at) old ++ (ys ++ drop k (drop (8 * at) old)))
word_put old ys at n k within size is =
    let eight : length ys ≡ 8 = ap length is in
    let shown : PutsWord old at n (take (8 * at) old ++ (ys ++ drop 8 (drop (8 * at) old))) = record {
      len = length-put old ys (8 * at) within eight;
      bits = λ b.
          let new = take (8 * at) old ++ (ys ++ drop 8 (drop (8 * at) old)) in
          let here = bit_in_byte new b (b / 8) (b % 8) refl refl in
          let there = bit_in_byte old b (b / 8) (b % 8) refl refl in
          elim (cases_lt (b / 8) (8 * at)) [
            | inl low ↦
                let test : (b / 64 == at) ≡ false = grind (arith, nat_tests) in
                here ∙ ap (λ m. bit_of_number m (b % 8)) (put_below old ys (8 * at) within eight (b / 8) low) ∙ sym there
                ∙ ap (λ t. cond t (bit_of_number n (b % 64)) (bit_of_bytes old b)) (sym test)
            | inr from ↦ elim (cases_lt (b / 8) (8 * at + 8)) [
              | inl to ↦
                  let test : (b / 64 == at) ≡ true = grind (arith, nat_tests) in
                  here ∙ ap (λ m. bit_of_number m (b % 8)) (put_at old ys (8 * at) within eight (b / 8) from to)
                  ∙ sym (bit_in_byte ys (b % 64) (b / 8 - 8 * at) (b % 8) (omega arith) (omega arith))
                  ∙ ap (λ l. bit_of_bytes l (b % 64)) is ∙ bit_of_le_bytes n (b % 64) (omega arith)
                  ∙ ap (λ t. cond t (bit_of_number n (b % 64)) (bit_of_bytes old b)) (sym test)
              | inr high ↦
                  let test : (b / 64 == at) ≡ false = grind (arith, nat_tests) in
                  here ∙ ap (λ m. bit_of_number m (b % 8)) (put_behind old ys (8 * at) within eight (b / 8) high) ∙ sym there
                  ∙ ap (λ t. cond t (bit_of_number n (b % 64)) (bit_of_bytes old b)) (sym test)
            ]
          ];
    } in
    rw size shown

-- one more word of a block written
pub write_more : (ws old new : List ℕ) (first at n : ℕ) → ((b : ℕ) → b < 64 * at → bit_of_bytes old b ≡ bit_of_words ws (64 * first + b)) → PutsWord old at n new → n ≡ get_or ws (first + at) 0 → (b : ℕ) → b < 64 * (at + 1) → bit_of_bytes new b ≡ bit_of_words ws (64 * first + b)
write_more ws old new first at n done puts is b within = elim (cases_eq (b / 64) at) [
  | inl here ↦
      let test : (b / 64 == at) ≡ true = grind (arith, nat_tests) in
      puts.bits b ∙ ap (λ t. cond t (bit_of_number n (b % 64)) (bit_of_bytes old b)) test
      ∙ ap (λ m. bit_of_number m (b % 64)) is
      ∙ sym (bit_at_place ws (64 * first + b) (first + at) (b % 64) (omega arith) (omega arith))
  | inr other ↦
      let test : (b / 64 == at) ≡ false = grind (arith, nat_tests) in
      puts.bits b ∙ ap (λ t. cond t (bit_of_number n (b % 64)) (bit_of_bytes old b)) test ∙ done b (omega arith)
]

-- one more word of a block read
pub read_more : (bytes ws : List ℕ) (at n : ℕ) → at < length ws → ((b : ℕ) → b < 64 * at → bit_of_bytes bytes b ≡ bit_of_words ws b) → IsWordOf bytes at n → (b : ℕ) → b < 64 * (at + 1) → bit_of_bytes bytes b ≡ bit_of_words (set ws at n) b
read_more bytes ws at n inside done word b within =
    let there = bit_at_place (set ws at n) b (b / 64) (b % 64) refl refl in
    elim (cases_eq (b / 64) at) [
      | inl here ↦
          let place : 64 * at + b % 64 ≡ b = omega arith in
          ap (bit_of_bytes bytes) (sym place) ∙ sym (word.bits (b % 64) (omega arith))
          ∙ ap (λ m. bit_of_number m (b % 64)) (sym (get_or-set_same ws at n 0 inside))
          ∙ sym (bit_at_place (set ws at n) b at (b % 64) here refl)
      | inr other ↦
          done b (omega arith) ∙ bit_at_place ws b (b / 64) (b % 64) refl refl
          ∙ ap (λ m. bit_of_number m (b % 64)) (sym (get_or-set_other ws at (b / 64) n 0 other)) ∙ sym there
    ]
