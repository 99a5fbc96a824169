-- No byte of a line ends it.
use Rattle.std.proofs.Common.{◌≡◌, ℕ, ◌<◌, ◌^◌, Bool, true, List, [], ◌∷◌, refl, arith}
use Rattle.std.specs.Prelude.{nat_eq, not, decimal, flat_map}
use Rattle.std.specs.Char.{is_ascii_digit, is_ascii_hexdigit}
use Rattle.std.specs.List.{list_all, join_with_byte}
use Rattle.std.proofs.lemmas.Bool.{and_parts}
use Rattle.std.proofs.lemmas.Bool.Decides.{nat_tests}
use Rattle.std.proofs.lemmas.Fmt.{decimal_is_IsNumeral}
use Rattle.std.proofs.lemmas.List.Folds.{list_all-append}
use Rattle.fv_disk.specs.Shown.{IsBlock}
use Rattle.fv_model.specs.Texts.{or_dash, hex, trimmed}
use Rattle.fv_model.specs.Words.{Words}
use Rattle.fv_script_laws.specs.Show.{Named, block_word}
use Rattle.fv_script_laws.proofs.Hexes.{block_digits}
use Rattle.fv_script_laws.proofs.Written.{digits_all, implied, without}

abbrev pub is_clear : List ℕ → Bool
is_clear line = list_all (λ b. not (nat_eq b 10)) line

pub joined : (words : Words) → list_all is_clear words ≡ true → is_clear (join_with_byte 32 words) ≡ true
joined [] all = refl
joined (word ∷ []) all = (and_parts (is_clear word) true all).0
joined (word ∷ next ∷ words) all =
    let both = and_parts (is_clear word) (list_all is_clear (next ∷ words)) all in
    rw (list_all-append (λ b. not (nat_eq b 10)) word (32 ∷ join_with_byte 32 (next ∷ words)), both.0, joined (next ∷ words) both.1) refl

pub name_clear : (v : List ℕ) → Named v → is_clear v ≡ true
name_clear v named = without 10 refl v named

digit_clear : (c : ℕ) → is_ascii_digit c ≡ true → not (nat_eq c 10) ≡ true
digit_clear c digit = grind (arith, nat_tests)

pub number_clear : (n : ℕ) → n < 2 ^ 64 → is_clear (decimal n) ≡ true
number_clear n small = implied is_ascii_digit (λ b. not (nat_eq b 10)) digit_clear (decimal n) (digits_all (decimal n) (decimal_is_IsNumeral n small).0.1)

hex_clear : (c : ℕ) → is_ascii_hexdigit c ≡ true → not (nat_eq c 10) ≡ true
hex_clear c digit = grind (arith, nat_tests)

dash_or : (digits : List ℕ) → is_clear digits ≡ true → is_clear (or_dash digits) ≡ true
dash_or [] clear = refl
dash_or (c ∷ digits) clear = clear

pub block_clear : (block : List ℕ) → IsBlock block → is_clear (block_word block) ≡ true
block_clear block is = dash_or (flat_map hex (trimmed block)) (implied is_ascii_hexdigit (λ b. not (nat_eq b 10)) hex_clear (flat_map hex (trimmed block)) (block_digits block is))
