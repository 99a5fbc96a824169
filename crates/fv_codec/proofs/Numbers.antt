-- What was written is read again.
use Rattle.std.proofs.Common.{◌≡◌, ℕ, zero, suc, ◌+◌, ◌%◌, ◌^◌, ◌<◌, ◌≤◌, Bool, true, false, List, [], ◌∷◌, ◌++◌, length, get_or, take, drop, replicate, Ok, refl, ap, sym, ◌∙◌, arith, drop-drop}
use Rattle.std.proofs.lemmas.Bool.Decides.{nat_tests}
use Rattle.std.proofs.lemmas.List.{get_or-drop, take_at, drop_at, take-replicate, length-replicate}
use Rattle.byteorder.specs.Numbers.{big_number-reads_back, length-bytes_high_first}
use Rattle.fv_codec.specs.Bytes.{word_at, half_at, byte_at, word, half, zeros}
use Rattle.fv_codec.specs.Fields.{up_to, half_in, byte_in, name_in, name_filled, Field, word_in, step_in, zeros_in, verdict, verdicts, in_range, all_zero}

pub length-word : (x : ℕ) → length (word x) ≡ 8
unfolding word
length-word x = length-bytes_high_first 8 x

pub length-zeros : (n : ℕ) → length (zeros n) ≡ n
unfolding zeros
length-zeros n = length-replicate n 0

-- the offset behind a run
pub past : (at n : ℕ) (run bytes rest : List ℕ) → length run ≡ n → drop at bytes ≡ run ++ rest → drop (at + n) bytes ≡ rest
past at n run bytes rest long there = sym (drop-drop n at bytes) ∙ ap (drop n) there ∙ drop_at run rest n long

pub past_word : (at x : ℕ) (bytes rest : List ℕ) → drop at bytes ≡ word x ++ rest → drop (at + 8) bytes ≡ rest
past_word at x bytes rest there = past at 8 (word x) bytes rest (length-word x) there

pub past_zeros : (at n : ℕ) (bytes rest : List ℕ) → drop at bytes ≡ zeros n ++ rest → drop (at + n) bytes ≡ rest
past_zeros at n bytes rest there = past at n (zeros n) bytes rest (length-zeros n) there

-- a word where it stands
pub word_there : (at x : ℕ) (bytes rest : List ℕ) → drop at bytes ≡ word x ++ rest → x < 2 ^ 64 → word_at at bytes ≡ x
unfolding word_at word
word_there at x bytes rest there small = rw there (big_number-reads_back 8 x rest small)

-- a word that stands at an offset: what it is read as, and what follows it
pub record Standing (at x : ℕ) (bytes rest : List ℕ) : Type 0 where
  pub here : drop at bytes ≡ word x ++ rest
  pub small : x < 2 ^ 64
  pub there : word_at at bytes ≡ x
  pub next : drop (at + 8) bytes ≡ rest

pub standing : (at x : ℕ) (bytes rest : List ℕ) → drop at bytes ≡ word x ++ rest → x < 2 ^ 64 → Standing at x bytes rest
standing at x bytes rest here small = record { here = here; small = small; there = word_there at x bytes rest here small; next = past_word at x bytes rest here }

in_range_ok : (least greatest x : ℕ) → least ≤ x → x ≤ greatest → in_range least greatest x ≡ Ok tt
in_range_ok least greatest x low high = grind (arith, nat_tests)

pub word_said : (at least greatest x : ℕ) (bytes rest : List ℕ) → drop at bytes ≡ word x ++ rest → x < 2 ^ 64 → least ≤ x → x ≤ greatest → verdict (word_in at least greatest) bytes ≡ Ok tt
word_said at least greatest x bytes rest there small low high = rw (word_there at x bytes rest there small) (in_range_ok least greatest x low high)

pub up_to-le : (allowed : Bool) (greatest : ℕ) → up_to allowed greatest ≤ greatest
up_to-le true greatest = omega arith
up_to-le false greatest = omega arith

pub step_said : (at step least greatest x : ℕ) (bytes rest : List ℕ) → drop at bytes ≡ word x ++ rest → x < 2 ^ 64 → least ≤ x → x ≤ greatest → x % step ≡ 0 → verdict (step_in at step least greatest) bytes ≡ Ok tt
step_said at step least greatest x bytes rest there small low high even = rw (word_there at x bytes rest there small, in_range_ok least greatest x low high, even) refl

zeros_are : (n : ℕ) → all_zero (replicate n 0) ≡ Ok tt
unfolding all_zero
zeros_are zero = refl
zeros_are (suc n) = zeros_are n

pub zeros_said : (at n : ℕ) (bytes rest : List ℕ) → drop at bytes ≡ zeros n ++ rest → verdict (zeros_in at n) bytes ≡ Ok tt
unfolding zeros
zeros_said at n bytes rest there = rw (there, take_at (replicate n 0) rest n (length-replicate n 0)) (zeros_are n)

pub zeros_last : (at n : ℕ) (bytes : List ℕ) → drop at bytes ≡ zeros n → verdict (zeros_in at n) bytes ≡ Ok tt
unfolding zeros
zeros_last at n bytes there = rw (there, take-replicate {X = ℕ} n n 0 (omega arith)) (zeros_are n)

-- all of the fields are as said
abbrev pub AllAsSaid : List Field → List ℕ → Type 0
AllAsSaid [] bytes = Unit {0}
AllAsSaid (field ∷ fields) bytes = (verdict field bytes ≡ Ok tt) × AllAsSaid fields bytes

pub all_said : (fields : List Field) (bytes : List ℕ) → AllAsSaid fields bytes → verdicts fields bytes ≡ Ok tt
all_said [] bytes are = refl
all_said (field ∷ fields) bytes are = rw (are.0, all_said fields bytes are.1) refl

-- ---- halves, bytes and names

pub length-half : (x : ℕ) → length (half x) ≡ 4
unfolding half
length-half x = length-bytes_high_first 4 x

pub half_there : (at x : ℕ) (bytes rest : List ℕ) → drop at bytes ≡ half x ++ rest → x < 2 ^ 32 → half_at at bytes ≡ x
unfolding half_at half
half_there at x bytes rest there small = rw there (big_number-reads_back 4 x rest small)

pub half_said : (at least greatest x : ℕ) (bytes rest : List ℕ) → drop at bytes ≡ half x ++ rest → x < 2 ^ 32 → least ≤ x → x ≤ greatest → verdict (half_in at least greatest) bytes ≡ Ok tt
half_said at least greatest x bytes rest there small low high = rw (half_there at x bytes rest there small) (in_range_ok least greatest x low high)

get_or-drop_first : (at : ℕ) (bytes : List ℕ) → get_or bytes at 0 ≡ get_or (drop at bytes) 0 0
get_or-drop_first at bytes =
    let e : at + 0 ≡ at = omega arith in
    sym (get_or-drop at bytes 0 0 ∙ ap (λ (k : ℕ). get_or bytes k 0) e)

pub byte_there : (at x : ℕ) (bytes rest : List ℕ) → drop at bytes ≡ (x ∷ []) ++ rest → byte_at at bytes ≡ x
unfolding byte_at
byte_there at x bytes rest there = get_or-drop_first at bytes ∙ ap (λ (xs : List ℕ). get_or xs 0 0) there

pub byte_said : (at least greatest x : ℕ) (bytes rest : List ℕ) → drop at bytes ≡ (x ∷ []) ++ rest → least ≤ x → x ≤ greatest → verdict (byte_in at least greatest) bytes ≡ Ok tt
byte_said at least greatest x bytes rest there low high = rw (byte_there at x bytes rest there) (in_range_ok least greatest x low high)

pub run_there : (at n : ℕ) (run bytes rest : List ℕ) → drop at bytes ≡ run ++ rest → length run ≡ n → take n (drop at bytes) ≡ run
run_there at n run bytes rest there long = ap (take n) there ∙ take_at run rest n long

pub name_said : (at len : ℕ) (name bytes rest : List ℕ) → drop at bytes ≡ name ++ rest → length name ≡ 64 → name_filled len name ≡ Ok tt → verdict (name_in at len) bytes ≡ Ok tt
name_said at len name bytes rest there long is = rw (run_there at 64 name bytes rest there long) is
