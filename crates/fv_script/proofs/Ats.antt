-- A word cut at its first @.
use Rattle.std.proofs.Common.{◌≡◌, ◌≢◌, ℕ, ◌+◌, ◌<◌, ◌≤◌, Bool, true, false, cond, List, [], ◌∷◌, length, take, drop, get_or, refl, ap, sym, ◌∙◌, arith}
use Rattle.std.specs.Prelude.{nat_eq, not, Option, Some, None, ◌&&◌, if◌then◌else◌}
use Rattle.std.specs.List.{slice_split, list_all}
use Rattle.std.proofs.lemmas.Bool.Decides.{nat_tests}
use Rattle.std.proofs.lemmas.List.{drop-drop, length-drop, take_all}
use Rattle.std.proofs.lemmas.List.Folds.{list_all_at}
use Rattle.std.proofs.lemmas.List.Sums.{passes_at_first, prefix_len-le-length}
use Rattle.fv_model.specs.Spelling.{is_name, is_name_byte}
use Rattle.fv_model.specs.Words.{table_of, table_in}
use Rattle.fv_script.specs.Parts.{is_at, before_at, table_at}
use Rattle.fv_script.proofs.Cuts.{behind, cut}

pub at_within : (word : List ℕ) → before_at word ≤ length word
at_within word = prefix_len-le-length (λ b. not (is_at b)) word

no_letter : (b : ℕ) → is_at b ≡ true → is_name_byte b ≡ false
no_letter b e = grind (arith, nat_tests)

and_false : (a b : Bool) → b ≡ false → (a && b) ≡ false
and_false true b e = e
and_false false b e = refl

-- what has an @ is no name
no_name : (word : List ℕ) → before_at word < length word → is_name word ≡ false
no_name word inside =
    let here : is_at (get_or word (before_at word) 0) ≡ true = passes_at_first is_at word 0 inside in
    let letters : list_all is_name_byte word ≡ false = list_all_at is_name_byte word (before_at word) 0 inside (no_letter (get_or word (before_at word) 0) here) in
    and_false _ _ letters

abbrev two_names : List ℕ → List ℕ → Option (List ℕ × Option (List ℕ))
two_names v s = if is_name v && is_name s then Some (v, Some s) else None

two_or_none : (v s : List ℕ) → is_name s ≡ false → None ≡ two_names v s
two_or_none v s e = rw (and_false (is_name v) (is_name s) e) refl

-- the words behind the first @
two_by : (v s rest : List ℕ) → rest ≡ drop (before_at s) s → table_in (v ∷ take (before_at s) s ∷ behind is_at rest) ≡ two_names v s
two_by v s [] rest_is =
    let none : length (drop (before_at s) s) ≡ 0 = ap length (sym rest_is) in
    let all : length s ≤ before_at s = omega (arith, length-drop (before_at s) s) in
    rw (take_all (before_at s) s all) refl
two_by v s (b ∷ rest) rest_is =
    let some : length (drop (before_at s) s) ≡ length (b ∷ rest) = ap length (sym rest_is) in
    let inside : before_at s < length s = omega (arith, length-drop (before_at s) s) in
    rw (cut is_at rest) (two_or_none v s (no_name s inside))

two : (v s : List ℕ) → table_in (v ∷ slice_split is_at s) ≡ two_names v s
two v s = rw (cut is_at s) (two_by v s (drop (before_at s) s) refl)

nested : (a b : Bool) {X : Type 0} (x : Option X) → cond (a && b) x None ≡ cond a (cond b x None) None
nested true b x = refl
nested false b x = refl

one_by : (word rest : List ℕ) → rest ≡ drop (before_at word) word → table_in (take (before_at word) word ∷ behind is_at rest) ≡ table_at word
one_by word [] rest_is =
    let none : length (drop (before_at word) word) ≡ 0 = ap length (sym rest_is) in
    let all : before_at word ≡ length word = omega (arith, length-drop (before_at word) word, at_within word) in
    let test : nat_eq (before_at word) (length word) ≡ true = grind (arith, nat_tests) in
    rw test refl
one_by word (b ∷ rest) rest_is =
    let some : length (drop (before_at word) word) ≡ length (b ∷ rest) = ap length (sym rest_is) in
    let inside : before_at word < length word = omega (arith, length-drop (before_at word) word) in
    let test : nat_eq (before_at word) (length word) ≡ false = grind (arith, nat_tests) in
    let left : rest ≡ drop (before_at word + 1) word = ap (drop 1) rest_is ∙ drop-drop 1 (before_at word) word in
    rw (two (take (before_at word) word) rest, test, left) (nested (is_name (take (before_at word) word)) (is_name (drop (before_at word + 1) word)) (Some (take (before_at word) word, Some (drop (before_at word + 1) word))))

-- the names around the first @, if there is one, are the table
pub table_cut : (word : List ℕ) → table_of word ≡ table_at word
unfolding table_of
table_cut word = rw (cut is_at word) (one_by word (drop (before_at word) word) refl)

pub table_pair : (word : List ℕ) → before_at word ≢ length word → table_of word ≡ (if is_name (take (before_at word) word) then (if is_name (drop (before_at word + 1) word) then Some (take (before_at word) word, Some (drop (before_at word + 1) word)) else None) else None)
table_pair word inside =
    let test : nat_eq (before_at word) (length word) ≡ false = grind (arith, nat_tests) in
    table_cut word ∙ rw test refl

pub table_alone : (word : List ℕ) → before_at word ≡ length word → table_of word ≡ (if is_name (take (before_at word) word) then Some (take (before_at word) word, None) else None)
table_alone word all =
    let test : nat_eq (before_at word) (length word) ≡ true = grind (arith, nat_tests) in
    table_cut word ∙ rw test refl
