-- Hexadecimal digits, two for a byte.
use Rattle.std.proofs.Common.{◌≡◌, ℕ, ◌+◌, ◌-◌, ◌*◌, ◌/◌, ◌<◌, ◌≤◌, Bool, true, false, List, [], ◌∷◌, ◌++◌, length, take, drop, get_or, set, replicate, refl, ap, sym, ◌∙◌, arith, add-one, drop-cons, append_assoc, append-nil, length-set}
use Rattle.std.specs.Char.{is_ascii_hexdigit}
use Rattle.std.specs.List.{list_all}
use Rattle.std.proofs.lemmas.List.{drop-drop, drop-replicate, drop-set-lt, length-drop, take-append-drop, take_more_set}
use Rattle.std.proofs.lemmas.List.Folds.{list_all_at}
use Rattle.fv_model.specs.Words.{bytes_of, nibble, padded}

pub is_digit : (digits : List ℕ) (k : ℕ) → list_all is_ascii_hexdigit digits ≡ true → k < length digits → is_ascii_hexdigit (get_or digits k 0) ≡ true
is_digit digits k all inside = by_test (is_ascii_hexdigit (get_or digits k 0)) refl
  where
    by_test : (t : Bool) → is_ascii_hexdigit (get_or digits k 0) ≡ t → is_ascii_hexdigit (get_or digits k 0) ≡ true
    by_test true e = e
    by_test false e = let no = list_all_at is_ascii_hexdigit digits k 0 inside e in cc

-- the first bytes of the block are those of the digits read
pub record Filled (block digits : List ℕ) (i : ℕ) : Type 0 where
  pub done : take i block ++ bytes_of (drop (2 * i) digits) ≡ bytes_of digits
  pub rest : drop i block ≡ replicate (4096 - i) 0
  pub long : length block ≡ 4096

pub begins : (block digits : List ℕ) → block ≡ replicate 4096 0 → Filled block digits 0
begins block digits e = record { done = refl; rest = e; long = ap length e }

next_digit : (digits : List ℕ) (k : ℕ) → k < length digits → drop k digits ≡ get_or digits k 0 ∷ drop (k + 1) digits
next_digit digits k inside = rw (add-one, drop-cons digits k 0) refl

two_more : (digits : List ℕ) (k : ℕ) → k + 1 < length digits → bytes_of (drop k digits) ≡ (16 * nibble (get_or digits k 0) + nibble (get_or digits (k + 1) 0)) ∷ bytes_of (drop (k + 2) digits)
two_more digits k inside =
    let two : k + 1 + 1 ≡ k + 2 = omega arith in
    rw (next_digit digits k (omega arith), next_digit digits (k + 1) inside, two) refl

pub turn : (block digits : List ℕ) (i byte : ℕ) → Filled block digits i → i < length digits / 2 → length digits ≤ 8192 → byte ≡ 16 * nibble (get_or digits (2 * i) 0) + nibble (get_or digits (2 * i + 1) 0) → Filled (set block i byte) digits (i + 1)
turn block digits i byte so_far room short is =
    let inside : 2 * i + 1 < length digits = omega arith in
    let within : i < length block = omega (arith, so_far.long) in
    let next : 2 * (i + 1) ≡ 2 * i + 2 = omega arith in
    record {
      done = ap (λ (l : List ℕ). l ++ bytes_of (drop (2 * (i + 1)) digits)) (take_more_set block i byte within)
          ∙ append_assoc (take i block) (byte ∷ []) (bytes_of (drop (2 * (i + 1)) digits))
          ∙ ap (λ (l : List ℕ). take i block ++ l) (rw (is, next) (sym (two_more digits (2 * i) inside)))
          ∙ so_far.done;
      rest = drop-set-lt (i + 1) block i byte (omega arith) ∙ sym (drop-drop 1 i block) ∙ ap (drop 1) so_far.rest ∙ drop-replicate 1 (4096 - i) 0 ∙ ap (λ n. replicate n 0) (omega arith);
      long = length-set block i byte ∙ so_far.long;
    }

few : (digits : List ℕ) → length digits ≤ 1 → bytes_of digits ≡ []
few [] short = refl
few (high ∷ []) short = refl
few (high ∷ low ∷ digits) short = absurd (omega arith)

bytes_length : (digits : List ℕ) → length (bytes_of digits) ≡ length digits / 2
bytes_length [] = refl
bytes_length (high ∷ []) = refl
bytes_length (high ∷ low ∷ digits) = omega (arith, bytes_length digits)

pub ended : (block digits : List ℕ) (i : ℕ) → Filled block digits i → i ≡ length digits / 2 → block ≡ padded (bytes_of digits)
unfolding padded
ended block digits i so_far is =
    let short : length (drop (2 * i) digits) ≤ 1 = omega (arith, length-drop (2 * i) digits) in
    let front : take i block ++ [] ≡ bytes_of digits = rw (← few (drop (2 * i) digits) short) so_far.done in
    rw (bytes_length digits, ← is, ← so_far.rest, ← front, append-nil) (sym (take-append-drop i block))
