-- Counts of a row, taken one after another.
use Rattle.std.proofs.Common.{◌≡◌, ℕ, ◌+◌, ◌-◌, ◌<◌, ◌≤◌, Bool, true, cond, List, [], ◌∷◌, ◌++◌, length, get_or, drop, filter, refl, sym, ap, ◌∙◌, arith}
use Rattle.std.specs.Prelude.{nat_lt}
use Rattle.std.proofs.lemmas.Bool.Decides.{nat_tests}
use Rattle.std.proofs.lemmas.List.{append-nil, append_assoc, at_drop_all, at_drop_more, map-append}
use Rattle.fv_delay.specs.declared.counts.Count.{Count}
use Rattle.fv_delay.specs.declared.regions.Region.{Region}
use Rattle.fv_delay.specs.Choice.{chosen, is_full, partial, region_counted, regions_counted, total, while_short}

-- ---- those that are taken while something is missing

-- what matters is how much is missing still
pub same_short : (a m b n : ℕ) (cs : List Count) → m - a ≡ n - b → while_short a m cs ≡ while_short b n cs
unfolding while_short
same_short a m b n [] e = refl
same_short a m b n (c ∷ cs) e =
    let test : nat_lt a m ≡ nat_lt b n = grind (arith, nat_tests, e) in
    let step : m - (a + c.count) ≡ n - (b + c.count) = omega (arith, e) in
    let rest = same_short (a + c.count) m (b + c.count) n cs step in
    λ i. cond (test i) (c ∷ rest i) []

pub short_cons : (left : ℕ) (c : Count) (cs : List Count) → 1 ≤ left → while_short 0 left (c ∷ cs) ≡ c ∷ while_short 0 (left - c.count) cs
unfolding while_short
short_cons left c cs some =
    let test : nat_lt 0 left ≡ true = grind (arith, nat_tests, some) in
    ap (λ (t : Bool). cond t (c ∷ while_short (0 + c.count) left cs) []) test
    ∙ ap (λ (rest : List Count). c ∷ rest) (same_short (0 + c.count) left 0 (left - c.count) cs (omega arith))

pub nothing_short : (cs : List Count) → while_short 0 0 cs ≡ []
unfolding while_short
nothing_short [] = refl
nothing_short (c ∷ cs) = refl

-- nothing is missing any more
pub short_enough : (row all : List Region) (left : ℕ) (cs : List Count) → left ≡ 0 → row ++ regions_counted (while_short 0 left cs) ≡ all → row ≡ all
short_enough row all left cs none so_far =
    sym (append-nil row) ∙ ap (λ (rest : List Count). row ++ regions_counted rest) (sym (nothing_short cs))
    ∙ ap (λ (n : ℕ). row ++ regions_counted (while_short 0 n cs)) (sym none) ∙ so_far

short_none : (left : ℕ) → while_short 0 left [] ≡ []
unfolding while_short
short_none left = refl

-- the row ends
pub row_done : {Y : Type 0} (F : List Count → List Y) → F [] ≡ [] → (cs : List Count) (i : ℕ) → length cs ≤ i → (row all : List Y) → row ++ F (drop i cs) ≡ all → row ≡ all
row_done F none cs i past row all so_far =
    sym (append-nil row) ∙ ap (λ rest. row ++ rest) (sym (at_drop_all F cs i past ∙ none)) ∙ so_far

pub short_done : (cs : List Count) (i : ℕ) → length cs ≤ i → (row all : List Region) (left : ℕ) → row ++ regions_counted (while_short 0 left (drop i cs)) ≡ all → row ≡ all
short_done cs i past row all left so_far = row_done (λ rest. regions_counted (while_short 0 left rest)) (ap regions_counted (short_none left)) cs i past row all so_far

-- the full ones, and then those that are taken while something is missing
pub whole_chosen : (counts : List Count) (missing left : ℕ) → left ≡ missing - total (filter is_full counts)
    → regions_counted (filter is_full counts) ++ regions_counted (while_short 0 left (partial counts)) ≡ regions_counted (chosen counts missing)
unfolding chosen
whole_chosen counts missing left is =
    ap (λ (rest : List Count). regions_counted (filter is_full counts) ++ regions_counted rest)
    (same_short 0 left (total (filter is_full counts)) missing (partial counts) (omega (arith, is)))
    ∙ sym (map-append region_counted (filter is_full counts) (while_short (total (filter is_full counts)) missing (partial counts)))

-- one more is taken
pub short_more : (cs : List Count) (i : ℕ) (d : Count) → i < length cs → (row all : List Region) (left : ℕ) → 1 ≤ left
    → row ++ regions_counted (while_short 0 left (drop i cs)) ≡ all
    → (row ++ region_counted (get_or cs i d) ∷ []) ++ regions_counted (while_short 0 (left - (get_or cs i d).count) (drop (i + 1) cs)) ≡ all
short_more cs i d within row all left some so_far =
    let c : Count = get_or cs i d in
    append_assoc row (region_counted c ∷ []) (regions_counted (while_short 0 (left - c.count) (drop (i + 1) cs)))
    ∙ ap (λ (rest : List Count). row ++ regions_counted rest) (sym (at_drop_more (while_short 0 left) cs i d within ∙ short_cons left c (drop (i + 1) cs) some))
    ∙ so_far
