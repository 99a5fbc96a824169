-- Hexadecimal digits that are written of bytes.
use Rattle.std.proofs.Common.{◌≡◌, ℕ, zero, suc, ◌+◌, ◌-◌, ◌*◌, ◌/◌, ◌%◌, ◌<◌, ◌≤◌, ◌++◌, Bool, true, false, List, [], ◌∷◌, length, take, replicate, refl, sym, ap, ◌∙◌, arith}
use Rattle.std.specs.Prelude.{flat_map, nat_eq, nat_le, bytes_eq, codes, slice_index, Some}
use Rattle.std.specs.Char.{is_ascii_hexdigit}
use Rattle.std.specs.List.{list_all}
use Rattle.std.proofs.lemmas.Bool.Decides.{nat_tests}
use Rattle.fv_disk.specs.Shown.{IsBlock}
use Rattle.fv_model.specs.Texts.{hex, hex_digit, or_dash, trimmed}
use Rattle.fv_model.specs.Words.{nibble, bytes_of, is_hex, padded, block_of}
use Rattle.fv_script_laws.specs.Show.{block_word}
use Rattle.fv_script_laws.proofs.Zeros.{short, ends_in_zeros}

digit_reads : (d : ℕ) → d < 16 → nibble (hex_digit d) ≡ d
digit_reads d below = grind (arith, nat_tests)

pub digit_is : (d : ℕ) → d < 16 → is_ascii_hexdigit (hex_digit d) ≡ true
digit_is d below = grind (arith, nat_tests)

byte_reads : (b : ℕ) → b < 256 → 16 * nibble (hex_digit (b / 16)) + nibble (hex_digit (b % 16)) ≡ b
byte_reads b below = rw (digit_reads (b / 16) (omega arith), digit_reads (b % 16) (omega arith)) (omega arith)

abbrev pub IsBytes : List ℕ → Type 0
IsBytes bytes = (k : ℕ) → slice_index bytes k < 256

reads : (n : ℕ) (bytes : List ℕ) → IsBytes bytes → bytes_of (flat_map hex (take n bytes)) ≡ take n bytes
reads zero bytes small = refl
reads (suc n) [] small = refl
reads (suc n) (b ∷ bytes) small = rw (byte_reads b (small 0), reads n bytes (λ k. small (suc k))) refl

digits : (n : ℕ) (bytes : List ℕ) → IsBytes bytes → list_all is_ascii_hexdigit (flat_map hex (take n bytes)) ≡ true
digits zero bytes small = refl
digits (suc n) [] small = refl
digits (suc n) (b ∷ bytes) small =
    let one : b < 256 = small 0 in
    rw (digit_is (b / 16) (omega (arith, one)), digit_is (b % 16) (omega arith), digits n bytes (λ k. small (suc k))) refl

pub long : (bytes : List ℕ) → length (flat_map hex bytes) ≡ 2 * length bytes
long [] = refl
long (b ∷ bytes) = omega (arith, long bytes)

no_dash : (a b : ℕ) (digits : List ℕ) (t : Bool) → nat_eq a 45 ≡ t → bytes_eq (a ∷ b ∷ digits) (codes "-") ≡ false
no_dash a b digits true e = rw e refl
no_dash a b digits false e = rw e refl

is_hex_word : (word : List ℕ) → 2 ≤ length word → length word ≤ 8192 → length word % 2 ≡ 0 → list_all is_ascii_hexdigit word ≡ true → is_hex word ≡ true
is_hex_word word some few even all =
    let least : nat_le 2 (length word) ≡ true = grind (arith, nat_tests) in
    let most : nat_le (length word) 8192 ≡ true = grind (arith, nat_tests) in
    let pairs : nat_eq (length word % 2) 0 ≡ true = rw even refl in
    rw (least, most, pairs, all) refl

by_digits : (word : List ℕ) → bytes_eq word (codes "-") ≡ false → is_hex word ≡ true → block_of word ≡ Some (padded (bytes_of word))
unfolding block_of
by_digits word no_dash hexes = rw (no_dash, hexes) refl

abbrev blanks : ℕ → List ℕ
blanks n = replicate n 0

by_front : (front block : List ℕ) → front ++ replicate (length block - length front) 0 ≡ block → length block ≡ 4096 → length front ≤ 4096 → bytes_of (flat_map hex front) ≡ front → list_all is_ascii_hexdigit (flat_map hex front) ≡ true
    → block_of (or_dash (flat_map hex front)) ≡ Some block
unfolding block_of padded
by_front [] block is count within read all =
    let all_of_it : length block - 0 ≡ 4096 = omega (arith, count) in
    ap Some (ap (λ (n : ℕ). blanks n) (sym all_of_it) ∙ is)
by_front (b ∷ front) block is count within read all =
    let twice : length (flat_map hex (b ∷ front)) ≡ 2 * length (b ∷ front) = long (b ∷ front) in
    let hexes : is_hex (flat_map hex (b ∷ front)) ≡ true = is_hex_word (flat_map hex (b ∷ front)) (omega (arith, twice)) (omega (arith, twice, within)) (omega (arith, twice)) all in
    by_digits (flat_map hex (b ∷ front)) (no_dash (hex_digit (b / 16)) (hex_digit (b % 16)) (flat_map hex front) (nat_eq (hex_digit (b / 16)) 45) refl) hexes
    ∙ ap (λ (l : List ℕ). Some (padded l)) read ∙ ap Some (ap (λ (n : ℕ). (b ∷ front) ++ blanks (n - length (b ∷ front))) (sym count) ∙ is)

pub block_reads : (block : List ℕ) → IsBlock block → block_of (block_word block) ≡ Some block
block_reads block is = by_front (trimmed block) block (ends_in_zeros block) is.long (omega (arith, short block, is.long)) (reads _ block is.bytes) (digits _ block is.bytes)

pub block_digits : (block : List ℕ) → IsBlock block → list_all is_ascii_hexdigit (flat_map hex (trimmed block)) ≡ true
block_digits block is = digits _ block is.bytes

pub block_short : (block : List ℕ) → IsBlock block → length (flat_map hex (trimmed block)) ≤ 8192
block_short block is = omega (arith, long (trimmed block), short block, is.long)
