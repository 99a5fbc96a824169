-- The words of a line, found by its spaces.
use Rattle.std.proofs.Common.{◌≡◌, ℕ, ◌+◌, ◌<◌, ◌≤◌, Bool, true, false, cond, List, [], ◌∷◌, length, take, drop, refl, ap, sym, ◌∙◌, arith, length-take-le}
use Rattle.std.specs.Prelude.{filter, nat_eq, nat_lt, not, Some}
use Rattle.std.proofs.lemmas.List.Splits.{slice_split-cons_yes}
use Rattle.std.proofs.lemmas.List.Sums.{prefix_len-le-length}
use Rattle.std.proofs.lemmas.Bool.Decides.{nat_tests}
use Rattle.fv_model.specs.Words.{line_words, text_of}
use Rattle.fv_model.specs.Grammar.{first, is_end}
use Rattle.fv_script.specs.Parts.{is_space, spaces, letters}
use Rattle.fv_script.proofs.Cuts.{behind, cut, drop_one}

abbrev has_bytes : List ℕ → Bool
has_bytes word = nat_lt 0 (length word)

skip : (b : ℕ) (line : List ℕ) → is_space b ≡ true → line_words (b ∷ line) ≡ line_words line
unfolding line_words
skip b line e = rw (slice_split-cons_yes is_space b line e) refl

-- spaces at the front change nothing
skipped : (b : ℕ) (line : List ℕ) (t : Bool) → is_space b ≡ t → line_words line ≡ line_words (drop (spaces line) line) → line_words (b ∷ line) ≡ line_words (drop (spaces (b ∷ line)) (b ∷ line))
skipped b line true e so_far = skip b line e ∙ so_far ∙ ap line_words (rw e (sym (drop_one (spaces line) b line)))
skipped b line false e so_far = ap line_words (rw e refl)

spaced : (line : List ℕ) → line_words line ≡ line_words (drop (spaces line) line)
spaced [] = refl
spaced (b ∷ line) = skipped b line (is_space b) refl (spaced line)

-- behind them stands no space
no_space_by : (b : ℕ) (line : List ℕ) (t : Bool) → is_space b ≡ t → spaces (drop (spaces line) line) ≡ 0 → spaces (drop (spaces (b ∷ line)) (b ∷ line)) ≡ 0
no_space_by b line true e so_far = rw (e, drop_one (spaces line) b line) so_far
no_space_by b line false e so_far = rw (e, e) refl

no_space : (line : List ℕ) → spaces (drop (spaces line) line) ≡ 0
no_space [] = refl
no_space (b ∷ line) = no_space_by b line (is_space b) refl (no_space line)

-- the words behind the first are those of what stands behind its bytes
abbrev Left : List ℕ → Type 0
Left line = filter has_bytes (behind is_space (drop (letters line) line)) ≡ line_words (drop (letters line) line)

left_by : (b : ℕ) (line : List ℕ) (t : Bool) → is_space b ≡ t → Left line → Left (b ∷ line)
unfolding line_words
left_by b line true e so_far = rw e (sym (skip b line e))
left_by b line false e so_far = rw (e, drop_one (letters line) b line) so_far

left : (line : List ℕ) → Left line
unfolding line_words
left [] = refl
left (b ∷ line) = left_by b line (is_space b) refl (left line)

first_word : (line : List ℕ) → 0 < letters line → line_words line ≡ take (letters line) line ∷ line_words (drop (letters line) line)
unfolding line_words
first_word line some =
    let long : length (take (letters line) line) ≡ letters line = length-take-le (letters line) line (prefix_len-le-length (λ b. not (is_space b)) line) in
    let kept : has_bytes (take (letters line) line) ≡ true = rw long (grind (arith, nat_tests)) in
    ap (filter has_bytes) (cut is_space line) ∙ rw kept (ap (λ words. take (letters line) line ∷ words) (left line))

empty_not : (t : Bool) (n m : ℕ) → cond t (1 + n) 0 ≡ 0 → cond (not t) (1 + m) 0 ≡ 0 → ⊥
empty_not true n m none no_letter = omega arith
empty_not false n m none no_letter = omega arith

-- what begins with no space and has no letter is empty
empty : (rest : List ℕ) → spaces rest ≡ 0 → letters rest ≡ 0 → line_words rest ≡ []
unfolding line_words
empty [] none no_letter = refl
empty (b ∷ rest) none no_letter = absurd (empty_not (is_space b) (spaces rest) (letters rest) none no_letter)

pub next_word : (line rest word : List ℕ) → rest ≡ drop (spaces line) line → word ≡ take (letters rest) rest → 0 < length word → first text_of (line_words line) ≡ Some (word, line_words (drop (letters rest) rest))
unfolding first text_of
next_word line rest word rest_is word_is some =
    let long : length (take (letters rest) rest) ≡ letters rest = length-take-le (letters rest) rest (prefix_len-le-length (λ b. not (is_space b)) rest) in
    let same : length word ≡ length (take (letters rest) rest) = ap length word_is in
    let letters_are : 0 < letters rest = omega arith in
    rw (spaced line, ← rest_is, first_word rest letters_are, ← word_is) refl

pub no_word : (line rest word : List ℕ) → rest ≡ drop (spaces line) line → word ≡ take (letters rest) rest → length word ≡ 0 → line_words line ≡ []
no_word line rest word rest_is word_is none =
    let long : length (take (letters rest) rest) ≡ letters rest = length-take-le (letters rest) rest (prefix_len-le-length (λ b. not (is_space b)) rest) in
    let same : length word ≡ length (take (letters rest) rest) = ap length word_is in
    let no_letter : letters rest ≡ 0 = omega arith in
    let no_space_left : spaces rest ≡ 0 = rw rest_is (no_space line) in
    rw (spaced line, ← rest_is) (empty rest no_space_left no_letter)

pub spaces_within : (line : List ℕ) → spaces line ≤ length line
spaces_within line = prefix_len-le-length is_space line

pub letters_within : (line : List ℕ) → letters line ≤ length line
letters_within line = prefix_len-le-length (λ b. not (is_space b)) line

one_or_more : (t : Bool) (n : ℕ) → cond t (1 + n) 0 ≡ 0 → t ≡ false
one_or_more true n e = absurd (omega arith)
one_or_more false n e = refl

-- no word is left where spaces alone are left
pub ends : (line rest : List ℕ) → rest ≡ drop (spaces line) line → is_end (line_words line) ≡ nat_eq (length rest) 0
unfolding is_end line_words
ends line [] rest_is = rw (spaced line, ← rest_is) refl
ends line (b ∷ rest) rest_is =
    let no_space_left : spaces (b ∷ rest) ≡ 0 = ap spaces rest_is ∙ no_space line in
    let test : nat_eq (length (b ∷ rest)) 0 ≡ false = grind (arith, nat_tests) in
    let letter : is_space b ≡ false = one_or_more (is_space b) (spaces rest) no_space_left in
    let some : 0 < letters (b ∷ rest) = rw letter (omega arith) in
    ap is_end (spaced line ∙ ap line_words (sym rest_is) ∙ first_word (b ∷ rest) some) ∙ sym test
