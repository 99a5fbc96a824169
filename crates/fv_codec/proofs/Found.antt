-- What was read is spelled by the bytes that it was read from: every byte counts.
use Rattle.std.proofs.Common.{◌≡◌, ℕ, zero, suc, ◌+◌, ◌*◌, ◌<◌, ◌≤◌, List, [], ◌∷◌, ◌++◌, length, get_or, take, drop, replicate, Ok, refl, sym, ap, ◌∙◌, arith, inl, inr, length-drop, length-take, drop-drop, drop-cons, append_assoc, append-nil, eq-eqb, ne_eqb}
use Rattle.std.specs.Int.{w32, w64, from_be_bytes}
use Rattle.std.specs.List.{flat_map}
use Rattle.std.proofs.lemmas.Bool.{cases_lt, cases_eq}
use Rattle.std.proofs.lemmas.List.{take-append-drop, get_or-take, get_or-drop, get_or_past, drop_all}
use Rattle.std.proofs.lemmas.List.Concat.{flat_map-cons}
use Rattle.std.proofs.lemmas.Nat.{be_bytes_4, be_bytes_8}
use Rattle.byteorder.specs.Endian.{big_number}
use Rattle.byteorder.specs.Numbers.{big_from-take}
use Rattle.fv_codec.specs.Bytes.{word_at, half_at, byte_at, word, half, zeros}
use Rattle.fv_codec.specs.Fields.{Verdict, all_zero, each, items}
use Rattle.fv_codec.proofs.Ranges.{then_ok}

-- each of them is a byte
abbrev pub IsBytes : List ℕ → Type 0
IsBytes bytes = (i : ℕ) → get_or bytes i 0 < 256

IsBytes-drop : (n : ℕ) (bytes : List ℕ) → IsBytes bytes → IsBytes (drop n bytes)
IsBytes-drop n bytes are i = rw get_or-drop (are (n + i))

IsBytes-take : (n : ℕ) (bytes : List ℕ) → IsBytes bytes → IsBytes (take n bytes)
IsBytes-take n bytes are i =
    elim (cases_lt i n) [
      | inl lt ↦ rw (get_or-take n bytes i 0 lt) (are i)
      | inr le ↦ rw (get_or_past (take n bytes) i 0 (omega (arith, length-take n bytes))) (omega arith)
    ]

-- a run where it stands, and what follows
pub run_back : (at n : ℕ) (bytes : List ℕ) → drop at bytes ≡ take n (drop at bytes) ++ drop (at + n) bytes
run_back at n bytes = sym (take-append-drop n (drop at bytes)) ∙ ap (λ (xs : List ℕ). take n (drop at bytes) ++ xs) (drop-drop n at bytes)

eight : (bytes : List ℕ) → length bytes ≡ 8 → big_number 8 bytes ≡ from_be_bytes w64 bytes
eight bytes long = grind arith

four : (bytes : List ℕ) → length bytes ≡ 4 → big_number 4 bytes ≡ from_be_bytes w32 bytes
four bytes long = grind arith

-- a number where it stands, where so many bytes are spelled by their number
number_back : (n : ℕ) (spell : ℕ → List ℕ) → ((own : List ℕ) → length own ≡ n → IsBytes own → spell (big_number n own) ≡ own)
    → (at : ℕ) (bytes : List ℕ) → IsBytes bytes → at + n ≤ length bytes → drop at bytes ≡ spell (big_number n (drop at bytes)) ++ drop (at + n) bytes
number_back n spell back at bytes are room =
    let own = drop at bytes in
    let long : length (take n own) ≡ n = omega (arith, length-take n own, length-drop at bytes) in
    let front : spell (big_number n own) ≡ take n own = ap spell (sym (big_from-take 0 n n own (omega arith))) ∙ back (take n own) long (IsBytes-take n own (IsBytes-drop at bytes are)) in
    run_back at n bytes ∙ ap (λ (xs : List ℕ). xs ++ drop (at + n) bytes) (sym front)

pub word_back : (at : ℕ) (bytes : List ℕ) → IsBytes bytes → at + 8 ≤ length bytes → drop at bytes ≡ word (word_at at bytes) ++ drop (at + 8) bytes
unfolding word word_at
word_back = number_back 8 word (λ own long are. be_bytes_8 own (big_number 8 own) long are (eight own long))

pub half_back : (at : ℕ) (bytes : List ℕ) → IsBytes bytes → at + 4 ≤ length bytes → drop at bytes ≡ half (half_at at bytes) ++ drop (at + 4) bytes
unfolding half half_at
half_back = number_back 4 half (λ own long are. be_bytes_4 own (big_number 4 own) long are (four own long))

pub byte_back : (at : ℕ) (bytes : List ℕ) → at < length bytes → drop at bytes ≡ (byte_at at bytes ∷ []) ++ drop (at + 1) bytes
unfolding byte_at
byte_back at bytes room =
    let e : suc at ≡ at + 1 = omega arith in
    drop-cons bytes at 0 room ∙ ap (λ (k : ℕ). get_or bytes at 0 ∷ drop k bytes) e

-- a word that can be one number alone
pub fixed : (want x : ℕ) → (want ≤ x) × (x ≤ want) → x ≡ want
fixed want x is = omega (arith, is.0, is.1)

zeros_only : (xs : List ℕ) → all_zero xs ≡ Ok tt → xs ≡ replicate (length xs) 0
unfolding all_zero
zeros_only [] is = refl
zeros_only (x ∷ xs) is =
    elim (cases_eq x 0) [
      | inl e ↦ let t = eq-eqb x 0 e in let rest = rw t at is in rw (e, ← zeros_only xs rest) refl
      | inr other ↦ let f = ne_eqb x 0 other in let bad = rw f at is in absurd cc
    ]

pub zeros_back : (at n : ℕ) (bytes : List ℕ) → at + n ≤ length bytes → all_zero (take n (drop at bytes)) ≡ Ok tt → drop at bytes ≡ zeros n ++ drop (at + n) bytes
unfolding zeros
zeros_back at n bytes room is =
    let long : length (take n (drop at bytes)) ≡ n = omega (arith, length-take n (drop at bytes), length-drop at bytes) in
    run_back at n bytes ∙ ap (λ (xs : List ℕ). xs ++ drop (at + n) bytes) (zeros_only (take n (drop at bytes)) is ∙ ap (λ (k : ℕ). replicate k 0) long)

-- nothing is left behind the last field
pub at_end : (n : ℕ) (front bytes : List ℕ) → length bytes ≤ n → front ++ drop n bytes ≡ front
at_end n front bytes long = ap (λ (xs : List ℕ). front ++ xs) (drop_all n bytes long) ∙ append-nil front

module _ {X : Type 0} (size : ℕ) (spell : X → List ℕ) (asks : List ℕ → Verdict) (value : List ℕ → X) (item : (bytes : List ℕ) → IsBytes bytes → size ≤ length bytes → asks bytes ≡ Ok tt → bytes ≡ spell (value bytes) ++ drop size bytes) where
  each_back : (n : ℕ) (bytes : List ℕ) → IsBytes bytes → n * size ≤ length bytes → each n size asks bytes ≡ Ok tt → bytes ≡ flat_map spell (items n size value bytes) ++ drop (n * size) bytes
  unfolding each items
  each_back zero bytes are room is =
      let e : 0 * size ≡ 0 = omega arith in
      rw e refl
  each_back (suc n) bytes are room is =
      let p = then_ok (asks bytes) (each n size asks (drop size bytes)) is in
      let less : n * size ≤ length (drop size bytes) = omega (arith, length-drop size bytes) in
      let others = flat_map spell (items n size value (drop size bytes)) in
      let e : size + n * size ≡ suc n * size = omega arith in
      let rest = each_back n (drop size bytes) (IsBytes-drop size bytes are) less p.1 ∙ ap (λ (xs : List ℕ). others ++ xs) (drop-drop (n * size) size bytes ∙ ap (λ (k : ℕ). drop k bytes) e) in
      item bytes are (omega arith) p.0
      ∙ ap (λ (xs : List ℕ). spell (value bytes) ++ xs) rest
      ∙ sym (append_assoc (spell (value bytes)) others (drop (suc n * size) bytes))
      ∙ ap (λ (xs : List ℕ). xs ++ drop (suc n * size) bytes) (sym (flat_map-cons spell (value bytes) (items n size value (drop size bytes))))

  -- so many items from an offset on
  pub items_back : (at n : ℕ) (bytes : List ℕ) → IsBytes bytes → at + n * size ≤ length bytes → each n size asks (drop at bytes) ≡ Ok tt → drop at bytes ≡ flat_map spell (items n size value (drop at bytes)) ++ drop (at + n * size) bytes
  items_back at n bytes are room is =
      let less : n * size ≤ length (drop at bytes) = omega (arith, length-drop at bytes) in
      each_back n (drop at bytes) (IsBytes-drop at bytes are) less is ∙ ap (λ (xs : List ℕ). flat_map spell (items n size value (drop at bytes)) ++ xs) (drop-drop (n * size) at bytes)

-- one item from an offset on
pub part_back : {X : Type 0} (size : ℕ) (spell : X → List ℕ) (asks : List ℕ → Verdict) (value : List ℕ → X) (item : (bytes : List ℕ) → IsBytes bytes → size ≤ length bytes → asks bytes ≡ Ok tt → bytes ≡ spell (value bytes) ++ drop size bytes) (at : ℕ) (bytes : List ℕ) → IsBytes bytes → at + size ≤ length bytes → asks (drop at bytes) ≡ Ok tt → drop at bytes ≡ spell (value (drop at bytes)) ++ drop (at + size) bytes
part_back size spell asks value item at bytes are room is = item (drop at bytes) (IsBytes-drop at bytes are) (omega (arith, length-drop at bytes)) is ∙ ap (λ (xs : List ℕ). spell (value (drop at bytes)) ++ xs) (drop-drop size at bytes)

-- a run in front of what is spelled behind it
pub before : (run : List ℕ) {xs ys zs : List ℕ} → xs ≡ run ++ ys → ys ≡ zs → xs ≡ run ++ zs
before run first rest = first ∙ ap (λ (ys : List ℕ). run ++ ys) rest
