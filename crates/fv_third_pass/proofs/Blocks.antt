-- Blocks that are counted after others, part by part.
use Rattle.std.proofs.Common.{◌≡◌, ℕ, zero, suc, ◌+◌, ◌/◌, ◌%◌, ◌<◌, ◌≤◌, true, false, Bool, List, [], ◌∷◌, ◌++◌, get_or, take, length, refl, sym, ap, subst, ◌∙◌, arith}
use Rattle.std.specs.Prelude.{flat_map, ◌==◌, if◌then◌else◌}
use Rattle.std.specs.List.{range_with_len}
use Rattle.std.proofs.lemmas.Bool.Decides.{nat_tests}
use Rattle.std.proofs.lemmas.List.{append_assoc, append-nil, take_more, take_all}
use Rattle.std.proofs.lemmas.Grind.{flat_map-append}
use Rattle.fv_third_pass.specs.declared.holders.Holders.{Holders}
use Rattle.fv_third_pass.specs.Tallied.{Tallies}
use Rattle.fv_third_pass.specs.Words.{at_place, at_word}
use Rattle.fv_third_pass.specs.Nodes.{at_places}
use Rattle.fv_first_pass.proofs.Ranges.{parts_more}

-- nothing more
pub tallies_none : (list more : List ℕ) (h : Holders) → Tallies list h → more ≡ [] → Tallies (list ++ more) h
tallies_none list more h tallies none = subst (λ xs. Tallies xs h) (sym (ap (λ ys. list ++ ys) none ∙ append-nil list)) tallies

-- blocks, and then others
pub tallies_then : (list one two : List ℕ) (h : Holders) → Tallies ((list ++ one) ++ two) h → Tallies (list ++ (one ++ two)) h
tallies_then list one two h tallies = subst (λ xs. Tallies xs h) (append_assoc list one two) tallies

pub no_place : (list : List ℕ) (at : ℕ) (h : Holders) → at ≡ 0 → Tallies list h → Tallies (list ++ at_place at) h
no_place list at h none tallies = tallies_none list (at_place at) h tallies (ap at_place none)

pub some_place : (list : List ℕ) (at : ℕ) (h : Holders) → 0 < at → Tallies (list ++ at ∷ []) h → Tallies (list ++ at_place at) h
some_place list zero h some tallies = absurd (omega (arith, some))
some_place list (suc p) h some tallies = tallies

pub no_word : (list : List ℕ) (word : ℕ) (h : Holders) → word / 16777216 ≡ 0 → Tallies list h → Tallies (list ++ at_word word) h
no_word list word h none tallies =
    let test : (word / 16777216 == 0) ≡ true = grind (arith, nat_tests, none) in
    tallies_none list (at_word word) h tallies (ap (λ (t : Bool). if t then [] else word % 16777216 ∷ []) test)

pub some_word : (list : List ℕ) (word : ℕ) (h : Holders) → 0 < word / 16777216 → Tallies (list ++ word % 16777216 ∷ []) h → Tallies (list ++ at_word word) h
some_word list word h some tallies =
    let test : (word / 16777216 == 0) ≡ false = grind (arith, nat_tests, some) in
    subst (λ xs. Tallies (list ++ xs) h) (sym (ap (λ (t : Bool). if t then [] else word % 16777216 ∷ []) test)) tallies

-- the parts for numbers in a row, and one more
pub parts_first : (f : ℕ → List ℕ) (list : List ℕ) (h : Holders) → Tallies list h → Tallies (list ++ flat_map f (range_with_len 0 0)) h
parts_first f list h tallies = tallies_none list [] h tallies refl

pub parts_next : (f : ℕ → List ℕ) (n : ℕ) (list : List ℕ) (h : Holders) → Tallies ((list ++ flat_map f (range_with_len 0 n)) ++ f n) h → Tallies (list ++ flat_map f (range_with_len 0 (n + 1))) h
parts_next f n list h tallies = subst (λ xs. Tallies xs h)
    (append_assoc list (flat_map f (range_with_len 0 n)) (f n) ∙ ap (λ ys. list ++ ys) (sym (parts_more f 0 n n (omega arith)))) tallies

-- places one by one
pub places_next : (places : List ℕ) (k : ℕ) (list : List ℕ) (h : Holders) → k < length places → Tallies ((list ++ at_places (take k places)) ++ at_place (get_or places k 0)) h → Tallies (list ++ at_places (take (k + 1) places)) h
places_next places k list h low tallies = subst (λ xs. Tallies xs h)
    (append_assoc list (at_places (take k places)) (at_place (get_or places k 0))
    ∙ ap (λ ys. list ++ (at_places (take k places) ++ ys)) (sym (append-nil (at_place (get_or places k 0))))
    ∙ ap (λ ys. list ++ ys) (sym (flat_map-append at_place (take k places) (get_or places k 0 ∷ [])) ∙ ap at_places (sym (take_more places k 0 low)))) tallies

pub places_all : (places : List ℕ) (k : ℕ) (list : List ℕ) (h : Holders) → length places ≤ k → Tallies (list ++ at_places (take k places)) h → Tallies (list ++ at_places places) h
places_all places k list h long tallies = subst (λ xs. Tallies (list ++ at_places xs) h) (take_all k places long) tallies
