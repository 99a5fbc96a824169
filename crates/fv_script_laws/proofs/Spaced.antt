-- Words with a space between are the words of their line.
use Rattle.std.proofs.Common.{◌≡◌, ℕ, ◌+◌, ◌<◌, ◌≤◌, ◌^◌, ◌++◌, Bool, true, List, [], ◌∷◌, length, refl, ap, ◌∙◌, arith, length-append}
use Rattle.std.specs.Prelude.{nat_eq, nat_le, nat_lt, not, ◌&&◌, filter, decimal, flat_map, Option, Some, None}
use Rattle.std.specs.Char.{is_ascii_digit, is_ascii_hexdigit}
use Rattle.std.specs.List.{list_all, join_with_byte}
use Rattle.std.proofs.lemmas.Bool.{and_parts}
use Rattle.std.proofs.lemmas.Bool.Decides.{nat_tests}
use Rattle.std.proofs.lemmas.Fmt.{decimal_is_IsNumeral, length-decimal-le}
use Rattle.std.proofs.lemmas.List.Folds.{list_all-append}
use Rattle.std.proofs.lemmas.List.Splits.{slice_split_at, slice_split_none}
use Rattle.fv_disk.specs.Shown.{IsBlock}
use Rattle.fv_model.specs.declared.commands.Kind.{Kind}
use Rattle.fv_model.specs.declared.commands.Kind.TheVariants.{Volume as Whole, File as ByFile, Thin}
use Rattle.fv_model.specs.Spelling.{is_name, is_name_byte}
use Rattle.fv_model.specs.declared.answers.Reply.TheVariants.{Names}
use Rattle.fv_model.specs.Texts.{kind_text, or_dash, hex, trimmed, words}
use Rattle.fv_model.specs.Words.{Words, line_words}
use Rattle.fv_script_laws.specs.Show.{Named, NamedOrNone, table_word, block_word}
use Rattle.fv_script_laws.proofs.Hexes.{block_digits, block_short}
use Rattle.fv_script_laws.proofs.Written.{digits_all, implied, none_of, without}

-- some bytes, and no space among them
abbrev pub is_word : List ℕ → Bool
is_word word = nat_lt 0 (length word) && list_all (λ b. not (nat_eq b 32)) word

abbrev pub are_words : Words → Bool
are_words words = list_all is_word words

parts : (word : List ℕ) → is_word word ≡ true → (nat_lt 0 (length word) ≡ true) × (list_all (λ b. not (nat_eq b 32)) word ≡ true)
parts word is = and_parts (nat_lt 0 (length word)) (list_all (λ b. not (nat_eq b 32)) word) is

pub words_of : (words : Words) → are_words words ≡ true → line_words (join_with_byte 32 words) ≡ words
unfolding line_words
words_of [] are = refl
words_of (word ∷ []) are =
    let is = parts word (and_parts (is_word word) true are).0 in
    ap (filter (λ w. nat_lt 0 (length w))) (slice_split_none (λ b. nat_eq b 32) word (none_of 32 word is.1)) ∙ rw (is.0) refl
words_of (word ∷ next ∷ words) are =
    let both = and_parts (is_word word) (are_words (next ∷ words)) are in
    let is = parts word both.0 in
    ap (filter (λ w. nat_lt 0 (length w))) (slice_split_at (λ b. nat_eq b 32) word 32 (join_with_byte 32 (next ∷ words)) (none_of 32 word is.1) refl)
    ∙ rw (is.0) (ap (λ (l : Words). word ∷ l) (words_of (next ∷ words) both.1))

-- how many bytes a line has at most
abbrev pub room : Words → ℕ
room [] = 0
room (word ∷ words) = length word + (1 + room words)

pub within : (words : Words) → length (join_with_byte 32 words) ≤ room words
within [] = omega arith
within (word ∷ []) = omega arith
within (word ∷ next ∷ words) = omega (arith, within (next ∷ words), length-append word (32 ∷ join_with_byte 32 (next ∷ words)))

-- the words of the language are words

some : (n : ℕ) → 0 < n → nat_lt 0 n ≡ true
some n above = grind (arith, nat_tests)

at_most : (n m : ℕ) → nat_le n m ≡ true → n ≤ m
at_most n m test = grind (arith, nat_tests)

pub name_word : (v : List ℕ) → Named v → is_word v ≡ true
name_word v named =
    let sizes = and_parts (nat_le 1 (length v)) (nat_le (length v) 64) (and_parts (nat_le 1 (length v) && nat_le (length v) 64) (list_all is_name_byte v) named).0 in
    rw (some (length v) (at_most 1 (length v) sizes.0), without 32 refl v named) refl

pub name_short : (v : List ℕ) → Named v → length v ≤ 64
name_short v named =
    at_most (length v) 64 (and_parts (nat_le 1 (length v)) (nat_le (length v) 64) (and_parts (nat_le 1 (length v) && nat_le (length v) 64) (list_all is_name_byte v) named).0).1

pub kind_word : (k : Kind) → is_word (kind_text k) ≡ true
kind_word Whole = refl
kind_word ByFile = refl
kind_word Thin = refl

pub kind_short : (k : Kind) → length (kind_text k) ≤ 6
kind_short Whole = omega arith
kind_short ByFile = omega arith
kind_short Thin = omega arith

digit_no_space : (c : ℕ) → is_ascii_digit c ≡ true → not (nat_eq c 32) ≡ true
digit_no_space c digit = grind (arith, nat_tests)

pub number_word : (n : ℕ) → n < 2 ^ 64 → is_word (decimal n) ≡ true
number_word n small =
    let is = decimal_is_IsNumeral n small in
    rw (some (length (decimal n)) is.0.0, implied is_ascii_digit (λ b. not (nat_eq b 32)) digit_no_space (decimal n) (digits_all (decimal n) is.0.1)) refl

pub number_short : (n : ℕ) → n ≤ 2097152 → length (decimal n) ≤ 7
number_short n small = length-decimal-le 7 n (omega arith) (omega (arith, small)) (omega (arith, small))

pub table_is_word : (v : List ℕ) (s : Option (List ℕ)) → Named v → NamedOrNone s → is_word (table_word v s) ≡ true
table_is_word v None named none = name_word v named
table_is_word v (Some s) named also =
    let long : length (v ++ 64 ∷ s) ≡ length v + length (64 ∷ s) = length-append v (64 ∷ s) in
    rw (some (length (v ++ 64 ∷ s)) (omega (arith, long)), list_all-append (λ b. not (nat_eq b 32)) v (64 ∷ s), without 32 refl v named, without 32 refl s also) refl

pub table_short : (v : List ℕ) (s : Option (List ℕ)) → Named v → NamedOrNone s → length (table_word v s) ≤ 129
table_short v None named none = omega (arith, name_short v named)
table_short v (Some s) named also = omega (arith, name_short v named, name_short s also, length-append v (64 ∷ s))

hex_no_space : (c : ℕ) → is_ascii_hexdigit c ≡ true → not (nat_eq c 32) ≡ true
hex_no_space c digit = grind (arith, nat_tests)

or_dash_word : (digits : List ℕ) → list_all is_ascii_hexdigit digits ≡ true → is_word (or_dash digits) ≡ true
or_dash_word [] all = refl
or_dash_word (c ∷ digits) all =
    rw (some (length (c ∷ digits)) (omega arith), implied is_ascii_hexdigit (λ b. not (nat_eq b 32)) hex_no_space (c ∷ digits) all) refl

or_dash_short : (digits : List ℕ) → length digits ≤ 8192 → length (or_dash digits) ≤ 8192
or_dash_short [] short = omega arith
or_dash_short (c ∷ digits) short = short

pub block_is_word : (block : List ℕ) → IsBlock block → is_word (block_word block) ≡ true
block_is_word block is = or_dash_word (flat_map hex (trimmed block)) (block_digits block is)

pub block_word_short : (block : List ℕ) → IsBlock block → length (block_word block) ≤ 8192
block_word_short block is = or_dash_short (flat_map hex (trimmed block)) (block_short block is)

-- the line of some names

all_words : (names : List (List ℕ)) → list_all is_name names ≡ true → are_words names ≡ true
all_words [] all = refl
all_words (name ∷ names) all =
    let both = and_parts (is_name name) (list_all is_name names) all in
    rw (name_word name both.0, all_words names both.1) refl

no_dash : (name : List ℕ) (names : List (List ℕ)) → is_name name ≡ true → or_dash (join_with_byte 32 (name ∷ names)) ≡ join_with_byte 32 (name ∷ names)
no_dash [] names named = absurd cc
no_dash (b ∷ name) [] named = refl
no_dash (b ∷ name) (next ∷ names) named = refl

pub names_read : (name : List ℕ) (names : List (List ℕ)) → list_all is_name (name ∷ names) ≡ true → line_words (words (Names (name ∷ names))) ≡ name ∷ names
unfolding words
names_read name names all =
    ap line_words (no_dash name names (and_parts (is_name name) (list_all is_name names) all).0) ∙ words_of (name ∷ names) (all_words (name ∷ names) all)
