-- Spelling bytes in hexadecimal digits, and passing over zeros at the end.
use Rattle.std.proofs.Common.{◌≡◌, ℕ, ◌+◌, ◌-◌, ◌*◌, ◌/◌, ◌%◌, ◌<◌, ◌≤◌, Bool, true, false, List, [], ◌∷◌, ◌++◌, length, take, drop, set, get_or, reverse, refl, ap, sym, ◌∙◌, arith, append_assoc, length-append, length-set, length-take-le}
use Rattle.std.proofs.lemmas.List.{length-reverse, reverse-append, take_all, take_more, take_more_set, take-append-drop, take-append-le}
use Rattle.std.proofs.lemmas.List.Folds.{list_all-append}
use Rattle.std.proofs.lemmas.List.Sums.{suffix_len-le-length}
use Rattle.std.proofs.lemmas.Grind.{flat_map-append}
use Rattle.std.specs.Prelude.{◌&&◌, flat_map}
use Rattle.std.specs.List.{list_all, prefix_len, suffix_len}
use Rattle.fv_model.specs.Texts.{hex, hex_digit, or_dash, trimmed}
use Rattle.fv_script.specs.Parts.{is_zero}
use Rattle.fv_script.proofs.Befores.{passed}

pub zeros_within : (bytes : List ℕ) → suffix_len is_zero bytes ≤ length bytes
zeros_within bytes = suffix_len-le-length is_zero bytes

-- the digits of the first i bytes
pub record Spelled (line : List ℕ) (size : ℕ) (bytes : List ℕ) (i : ℕ) : Type 0 where
  pub done : take (2 * i) line ≡ flat_map hex (take i bytes)
  pub long : length line ≡ size

pub begins : (line bytes : List ℕ) → Spelled line (length line) bytes 0
begins line bytes = record { done = refl; long = refl }

pub turn : (line : List ℕ) (size : ℕ) (bytes : List ℕ) (i byte : ℕ) → Spelled line size bytes i → i < length bytes → 2 * length bytes ≤ size → get_or bytes i 0 ≡ byte
    → Spelled (set (set line (2 * i) (hex_digit (byte / 16))) (2 * i + 1) (hex_digit (byte % 16))) size bytes (i + 1)
turn line size bytes i byte so_far inside room is =
    let high = hex_digit (byte / 16) in
    let low = hex_digit (byte % 16) in
    let first : 2 * i < length line = omega (arith, so_far.long) in
    let second : 2 * i + 1 < length (set line (2 * i) high) = omega (arith, so_far.long, length-set line (2 * i) high) in
    let next : 2 * (i + 1) ≡ 2 * i + 1 + 1 = omega arith in
    record {
      done = ap (λ n. take n (set (set line (2 * i) high) (2 * i + 1) low)) next ∙ take_more_set (set line (2 * i) high) (2 * i + 1) low second
          ∙ ap (λ (d : List ℕ). d ++ low ∷ []) (take_more_set line (2 * i) high first)
          ∙ append_assoc (take (2 * i) line) (high ∷ []) (low ∷ []) ∙ ap (λ (d : List ℕ). d ++ hex byte) so_far.done
          ∙ sym (ap (flat_map hex) (take_more bytes i 0 inside ∙ ap (λ (b : ℕ). take i bytes ++ b ∷ []) is) ∙ flat_map-append hex (take i bytes) (byte ∷ []));
      long = length-set (set line (2 * i) high) (2 * i + 1) low ∙ length-set line (2 * i) high ∙ so_far.long;
    }

pub ended : (line : List ℕ) (size : ℕ) (bytes : List ℕ) (i : ℕ) → Spelled line size bytes i → i ≡ length bytes → take (2 * length bytes) line ≡ flat_map hex bytes
ended line size bytes i so_far is = ap (λ n. take (2 * n) line) (sym is) ∙ so_far.done ∙ ap (flat_map hex) (take_all i bytes (omega (arith, is)))

pub a_dash : (line bytes : List ℕ) → 0 < length line → length bytes ≡ 0 → take 1 (set line 0 45) ≡ or_dash (flat_map hex bytes)
a_dash line [] room none = take_more_set line 0 45 room
a_dash line (byte ∷ bytes) room none = absurd (omega arith)

pub no_dash : (digits bytes : List ℕ) → 0 < length bytes → digits ≡ flat_map hex bytes → digits ≡ or_dash (flat_map hex bytes)
no_dash digits [] some is = absurd (omega arith)
no_dash digits (byte ∷ bytes) some is = is

pub one_more : (line word : List ℕ) (end : ℕ) → end < length line → take end line ≡ word → take (end + 1) (set line end 10) ≡ word ++ 10 ∷ []
one_more line word end within is = take_more_set line end 10 within ∙ ap (λ (l : List ℕ). l ++ 10 ∷ []) is

-- the whole pieces of zeros at the end are passed over
pub record Passed (front bytes : List ℕ) : Type 0 where
  pub same : trimmed front ≡ trimmed bytes
  pub short : length front ≤ length bytes

pub zeros_begin : (bytes : List ℕ) → Passed bytes bytes
zeros_begin bytes = record { same = refl; short = omega arith }

also_first : (t : Bool) (xs : List ℕ) → (t && list_all is_zero xs) ≡ true → (list_all is_zero xs ≡ true → list_all is_zero (reverse xs) ≡ true) → (list_all is_zero (reverse xs) && (t && true)) ≡ true
also_first true xs all so_far = rw (so_far all) refl
also_first false xs all so_far = cc

backwards : (xs : List ℕ) → list_all is_zero xs ≡ true → list_all is_zero (reverse xs) ≡ true
backwards [] all = refl
backwards (x ∷ xs) all = ap (list_all is_zero) (reverse-append (x ∷ []) xs) ∙ list_all-append is_zero (reverse xs) (x ∷ []) ∙ also_first (is_zero x) xs all (backwards xs)

without : (left last : List ℕ) → list_all is_zero last ≡ true → trimmed (left ++ last) ≡ trimmed left
without left last all =
    let zeros : suffix_len is_zero (left ++ last) ≡ length last + suffix_len is_zero left = ap (λ (l : List ℕ). prefix_len is_zero l) (reverse-append left last)
    ∙ passed is_zero (reverse last) (reverse left) (backwards last all) ∙ ap (λ n. n + suffix_len is_zero left) (length-reverse last) in
    let same : length (left ++ last) - suffix_len is_zero (left ++ last) ≡ length left - suffix_len is_zero left = omega (arith, zeros, length-append left last) in
    ap (λ n. take n (left ++ last)) same ∙ take-append-le (length left - suffix_len is_zero left) left last (omega arith)

pub zeros_passed : (front bytes : List ℕ) (n : ℕ) → Passed front bytes → n ≤ length front → list_all is_zero (drop n front) ≡ true → Passed (take n front) bytes
zeros_passed front bytes n so_far within all = record {
  same = sym (without (take n front) (drop n front) all) ∙ ap trimmed (take-append-drop n front) ∙ so_far.same;
  short = omega (arith, length-take-le n front within, so_far.short);
}
