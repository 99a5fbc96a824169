-- A threshold takes the regions that are chosen.
use Rattle.std.proofs.Common.{◌≡◌, ℕ, zero, suc, ◌+◌, ◌-◌, ◌<◌, ◌≤◌, Bool, true, false, cond, not, ◌&&◌, ◌||◌, ◌==◌, List, [], ◌∷◌, ◌++◌, filter, min, sum_by, refl, sym, ap, ap₂, ◌∙◌, arith}
use Rattle.std.specs.Prelude.{nat_lt, nat_le}
use Rattle.std.specs.List.{list_all, list_any}
use Rattle.std.proofs.lemmas.Bool.{and_from, and_parts, or_from, or_left, true≢false}
use Rattle.std.proofs.lemmas.Bool.Decides.{nat_tests}
use Rattle.std.proofs.lemmas.List.Folds.{list_all-append}
use Rattle.std.proofs.lemmas.List.Sums.{sum_by-append, sum_by-cons}
use Rattle.fv_delay.specs.declared.counts.Count.{Count}
use Rattle.fv_delay.specs.declared.regions.Region.{Region}
use Rattle.fv_delay.specs.declared.threshold.Threshold.{Threshold}
use Rattle.fv_delay.specs.Choice.{chosen, is_full, partial, region_counted, regions_counted, total, while_short}
use Rattle.fv_delay.specs.Holding.{has_region}
use Rattle.fv_delay.specs.ByThreshold.{ascends, behind, is_before, level, most_blocks, passed, taken_by, takes, threshold_below, threshold_for}
use Rattle.fv_delay.proofs.Ascending.{other_place}
use Rattle.fv_delay.proofs.Levels.{levels, partial_levels}
use Rattle.fv_delay.proofs.Taking.{nothing_short, same_short, short_cons}

-- ---- rows in two parts

-- where the first part has what is missing, the second adds nothing
short_within : (taken missing : ℕ) (es xs : List Count) → missing ≤ taken + total es → while_short taken missing (es ++ xs) ≡ while_short taken missing es
unfolding while_short
short_within taken missing [] [] le = refl
short_within taken missing [] (x ∷ xs) le =
    let test : nat_lt taken missing ≡ false = grind (arith, nat_tests, le) in
    ap (λ (t : Bool). cond t (x ∷ while_short (taken + x.count) missing xs) []) test
short_within taken missing (e ∷ es) xs le =
    let sums = sum_by-cons (λ (c : Count). c.count) e es in
    ap (λ (rest : List Count). cond (nat_lt taken missing) (e ∷ rest) []) (short_within (taken + e.count) missing es xs (omega (arith, le, sums)))

-- where it hasn't, all of it is taken
short_past : (taken missing : ℕ) (es xs : List Count) → taken + total es < missing → while_short taken missing (es ++ xs) ≡ es ++ while_short (taken + total es) missing xs
unfolding while_short
short_past taken missing [] xs lt = ap (λ (n : ℕ). while_short n missing xs) (omega arith)
short_past taken missing (e ∷ es) xs lt =
    let sums = sum_by-cons (λ (c : Count). c.count) e es in
    let test : nat_lt taken missing ≡ true = (let low : taken < missing = omega (arith, lt) in grind (arith, nat_tests, low)) in
    ap (λ (t : Bool). cond t (e ∷ while_short (taken + e.count) missing (es ++ xs)) []) test
    ∙ ap (λ (rest : List Count). e ∷ rest) (short_past (taken + e.count) missing es xs (omega (arith, lt, sums)))
    ∙ ap (λ (n : ℕ). e ∷ (es ++ while_short n missing xs)) (omega (arith, sums))

-- ---- those with more

-- those with more
abbrev above : ℕ → List Count → List Count
above n cs = filter (λ c. nat_lt n c.count) cs

-- those with more than `n` are those with more than the next, and those with just that
above_parts : (f : Count → ℕ) (n : ℕ) (cs : List Count) → sum_by f (above n cs) ≡ sum_by f (above (suc n) cs) + sum_by f (level (suc n) cs)
above_parts f n [] = refl
above_parts f n (c ∷ cs) = so (nat_lt n c.count) (nat_lt (suc n) c.count) (c.count == suc n) refl refl refl (above_parts f n cs)
  where
    so : (r s t : Bool) → nat_lt n c.count ≡ r → nat_lt (suc n) c.count ≡ s → (c.count == suc n) ≡ t → sum_by f (above n cs) ≡ sum_by f (above (suc n) cs) + sum_by f (level (suc n) cs)
        → sum_by f (cond r (c ∷ above n cs) (above n cs)) ≡ sum_by f (cond s (c ∷ above (suc n) cs) (above (suc n) cs)) + sum_by f (cond t (c ∷ level (suc n) cs) (level (suc n) cs))
    so true true true e g h rest = absurd (let more : suc n < c.count = grind (arith, nat_tests, g) in let same : c.count ≡ suc n = grind (arith, nat_tests, h) in omega (arith, more, same))
    so true true false e g h rest = omega (arith, sum_by-cons f c (above n cs), sum_by-cons f c (above (suc n) cs), rest)
    so true false true e g h rest = omega (arith, sum_by-cons f c (above n cs), sum_by-cons f c (level (suc n) cs), rest)
    so true false false e g h rest = absurd (
        let more : n < c.count = grind (arith, nat_tests, e) in
        let most : c.count ≤ suc n = grind (arith, nat_tests, g) in
        let other : c.count ≡ suc n = omega (arith, more, most) in
        let is : (c.count == suc n) ≡ true = grind (arith, nat_tests, other) in
        true≢false (sym is ∙ h))
    so false true t e g h rest = absurd (let more : suc n < c.count = grind (arith, nat_tests, g) in let most : c.count ≤ n = grind (arith, nat_tests, e) in omega (arith, more, most))
    so false false true e g h rest = absurd (let same : c.count ≡ suc n = grind (arith, nat_tests, h) in let most : c.count ≤ n = grind (arith, nat_tests, e) in omega (arith, same, most))
    so false false false e g h rest = rest

-- ---- what the threshold takes by the levels

-- all with more, and of those with just so many the first ones while something of them is missing
taken_parts : (f : Count → ℕ) (count left : ℕ) (cs : List Count) → sum_by f (taken_by (record { count = count; left = left }) cs) ≡ sum_by f (above count cs) + sum_by f (while_short 0 left (level count cs))
unfolding taken_by while_short
taken_parts f count left [] = refl
taken_parts f count left (c ∷ cs) = so (nat_lt count c.count) (c.count == count) (nat_lt 0 left) refl refl refl (λ k. taken_parts f count k cs)
  where
    at : ℕ → Threshold
    at k = record { count = count; left = k }

    more : List Count
    more = above count cs

    same : List Count
    same = level count cs

    so : (r s u : Bool) → nat_lt count c.count ≡ r → (c.count == count) ≡ s → nat_lt 0 left ≡ u
        → ((k : ℕ) → sum_by f (taken_by (at k) cs) ≡ sum_by f more + sum_by f (while_short 0 k same))
        → sum_by f (cond (r || (s && u)) (c ∷ taken_by (cond s (at (left - c.count)) (at left)) cs) (taken_by (cond s (at (left - c.count)) (at left)) cs))
        ≡ sum_by f (cond r (c ∷ more) more) + sum_by f (while_short 0 left (cond s (c ∷ same) same))
    so true true u e g h rest = absurd (let lt : count < c.count = grind (arith, nat_tests, e) in let is : c.count ≡ count = grind (arith, nat_tests, g) in omega (arith, lt, is))
    so true false u e g h rest = omega (arith, sum_by-cons f c (taken_by (at left) cs), sum_by-cons f c more, rest left)
    so false true true e g h rest =
        let some : 1 ≤ left = grind (arith, nat_tests, h) in
        let row = ap (sum_by f) (short_cons left c same some) in
        omega (arith, sum_by-cons f c (taken_by (at (left - c.count)) cs), row, sum_by-cons f c (while_short 0 (left - c.count) same), rest (left - c.count))
    so false true false e g h rest =
        let none : left ≡ 0 = grind (arith, nat_tests, h) in
        let here = ap (sum_by f) (ap (λ (k : ℕ). while_short 0 k (c ∷ same)) none ∙ nothing_short (c ∷ same)) in
        let less : left - c.count ≡ 0 = omega (arith, none) in
        let there = ap (sum_by f) (ap (λ (k : ℕ). while_short 0 k same) less ∙ nothing_short same) in
        omega (arith, here, there, rest (left - c.count))
    so false false u e g h rest = rest left

-- the levels, each while something is missing, are what the threshold takes of them
levels_taken : (f : Count → ℕ) (n missing : ℕ) (cs : List Count)
    → sum_by f (above n cs) + sum_by f (while_short 0 missing (levels n cs)) ≡ sum_by f (taken_by (threshold_below n missing cs) cs)
unfolding levels threshold_below while_short
levels_taken f zero missing cs = ap (λ (row : List Count). sum_by f (above 0 cs) + sum_by f row) (sym (nothing_short (level 0 cs))) ∙ sym (taken_parts f 0 0 cs)
levels_taken f (suc n) missing cs = so (nat_le missing (total (level (suc n) cs))) refl (levels_taken f n (missing - total (level (suc n) cs)) cs)
  where
    here : List Count
    here = level (suc n) cs

    so : (t : Bool) → nat_le missing (total here) ≡ t
        → sum_by f (above n cs) + sum_by f (while_short 0 (missing - total here) (levels n cs)) ≡ sum_by f (taken_by (threshold_below n (missing - total here) cs) cs)
        → sum_by f (above (suc n) cs) + sum_by f (while_short 0 missing (here ++ levels n cs)) ≡ sum_by f (taken_by (cond t (record { count = suc n; left = missing }) (threshold_below n (missing - total here) cs)) cs)
    so true e rest =
        let le : missing ≤ 0 + total here = grind (arith, nat_tests, e) in
        ap (λ (row : List Count). sum_by f (above (suc n) cs) + sum_by f row) (short_within 0 missing here (levels n cs) le) ∙ sym (taken_parts f (suc n) missing cs)
    so false e rest =
        let lt : 0 + total here < missing = grind (arith, nat_tests, e) in
        let row : while_short 0 missing (here ++ levels n cs) ≡ here ++ while_short 0 (missing - total here) (levels n cs) =
        short_past 0 missing here (levels n cs) lt ∙ ap (λ (xs : List Count). here ++ xs) (same_short (0 + total here) missing 0 (missing - total here) (levels n cs) (omega arith)) in
        let sums = ap (sum_by f) row in
        omega (arith, sums, sum_by-append f here (while_short 0 (missing - total here) (levels n cs)), above_parts f n cs, rest)

-- ---- the law

-- Of a row in the order of slots and numbers the threshold takes what is chosen: each number of each region sums to the same over both.
pub taken_sum : (f : Count → ℕ) (counts : List Count) (missing : ℕ) → ascends counts ≡ true → sum_by f (taken_by (threshold_for counts missing) counts) ≡ sum_by f (chosen counts missing)
unfolding chosen
taken_sum f counts missing up =
    let full : List Count = filter is_full counts in
    let left : ℕ = missing - total full in
    let row : while_short (total full) missing (partial counts) ≡ while_short 0 left (levels 63 counts) =
    same_short (total full) missing 0 left (partial counts) (omega arith) ∙ ap (while_short 0 left) (partial_levels counts up) in
    let sums = ap (sum_by f) row in
    let all : sum_by f full + sum_by f (while_short 0 left (levels 63 counts)) ≡ sum_by f (taken_by (threshold_for counts missing) counts) = levels_taken f 63 left counts in
    omega (arith, sums, all, sum_by-append f full (while_short (total full) missing (partial counts)))

-- one where a test holds
abbrev one_if : Bool → ℕ
one_if t = cond t 1 0

-- one more than some is some
positive : (n : ℕ) → true ≡ nat_lt 0 (1 + n)
positive n = let some : 0 < 1 + n = omega arith in grind (arith, nat_tests, some)

-- whether a row has one that passes a test is told by how many do
any_by_sum : (p : Count → Bool) (cs : List Count) → list_any p cs ≡ nat_lt 0 (sum_by (λ c. one_if (p c)) cs)
any_by_sum p [] = refl
any_by_sum p (c ∷ cs) = so (p c) (any_by_sum p cs) ∙ ap (nat_lt 0) (sym (sum_by-cons (λ c. one_if (p c)) c cs))
  where
    so : (t : Bool) → list_any p cs ≡ nat_lt 0 (sum_by (λ c. one_if (p c)) cs) → (t || list_any p cs) ≡ nat_lt 0 (one_if t + sum_by (λ c. one_if (p c)) cs)
    so true rest = positive (sum_by (λ c. one_if (p c)) cs)
    so false rest = rest ∙ ap (nat_lt 0) (omega arith)

-- a test of regions is one of their counts
pub any_counted : (p : Region → Bool) (cs : List Count) → list_any p (regions_counted cs) ≡ list_any (λ c. p (region_counted c)) cs
any_counted p [] = refl
any_counted p (c ∷ cs) = ap (λ (t : Bool). p (region_counted c) || t) (any_counted p cs)

-- So it takes just the regions that are chosen: one with something of its own is among the ones where it is among the others.
pub any_taken : (p : Region → Bool) (counts : List Count) (missing : ℕ) → ascends counts ≡ true
    → list_any p (regions_counted (taken_by (threshold_for counts missing) counts)) ≡ list_any p (regions_counted (chosen counts missing))
any_taken p counts missing up =
    let q : Count → Bool = λ c. p (region_counted c) in
    let taken : List Count = taken_by (threshold_for counts missing) counts in
    any_counted p taken ∙ any_by_sum q taken
    ∙ ap (nat_lt 0) (taken_sum (λ c. one_if (q c)) counts missing up)
    ∙ sym (any_counted p (chosen counts missing) ∙ any_by_sum q (chosen counts missing))

pub taken_regions : (counts : List Count) (missing slot region : ℕ) → ascends counts ≡ true
    → has_region (regions_counted (taken_by (threshold_for counts missing) counts)) slot region ≡ has_region (regions_counted (chosen counts missing)) slot region
unfolding has_region
taken_regions counts missing slot region up = any_taken (λ r. (r.slot == slot) && (r.region == region)) counts missing up

-- A row in two parts: the second is asked behind the first.
pub taken_append : (t : Threshold) (xs ys : List Count) → taken_by t (xs ++ ys) ≡ taken_by t xs ++ taken_by (behind t xs) ys
unfolding taken_by behind
taken_append t [] ys = refl
taken_append t (x ∷ xs) ys = so (takes t x.count) (taken_append (passed t x.count) xs ys)
  where
    so : (s : Bool) → taken_by (passed t x.count) (xs ++ ys) ≡ taken_by (passed t x.count) xs ++ taken_by (behind (passed t x.count) xs) ys
        → cond s (x ∷ taken_by (passed t x.count) (xs ++ ys)) (taken_by (passed t x.count) (xs ++ ys))
        ≡ cond s (x ∷ taken_by (passed t x.count) xs) (taken_by (passed t x.count) xs) ++ taken_by (behind (passed t x.count) xs) ys
    so true rest = ap (λ (row : List Count). x ∷ row) rest
    so false rest = rest

-- ---- one region of a row

-- of a row of which none passes a test nothing is taken that does
pub taken_none : (p : Count → Bool) (t : Threshold) (cs : List Count) → list_all (λ c. not (p c)) cs ≡ true → list_any p (taken_by t cs) ≡ false
unfolding taken_by
taken_none p t [] none = refl
taken_none p t (c ∷ cs) none = so (takes t c.count) (taken_none p (passed t c.count) cs parts.1)
  where
    parts : (not (p c) ≡ true) × (list_all (λ c. not (p c)) cs ≡ true)
    parts = and_parts (not (p c)) (list_all (λ c. not (p c)) cs) none

    off : (t : Bool) → not t ≡ true → t ≡ false
    off true e = sym e
    off false e = refl

    rest_is : List Count
    rest_is = taken_by (passed t c.count) cs

    so : (s : Bool) → list_any p rest_is ≡ false → list_any p (cond s (c ∷ rest_is) rest_is) ≡ false
    so true rest = or_from (p c) (list_any p rest_is) (off (p c) parts.0) rest
    so false rest = rest

-- whether a count is that of a region
abbrev is_at : Count → Count → Bool
is_at c d = (d.slot == c.slot) && (d.region == c.region)

-- none behind a count is at its place
none_behind : (c : Count) (ds : List Count) → list_all (λ d. is_before c d) ds ≡ true → list_all (λ d. not (is_at c d)) ds ≡ true
none_behind c [] all = refl
none_behind c (d ∷ ds) all =
    let parts = and_parts (is_before c d) (list_all (λ d. is_before c d) ds) all in
    and_from (not (is_at c d)) (list_all (λ d. not (is_at c d)) ds)
    (ap not (ap₂ (λ (s t : Bool). s && t) (swapped d.slot c.slot) (swapped d.region c.region) ∙ other_place c d parts.0)) (none_behind c ds parts.1)
  where
    swapped : (a b : ℕ) → (a == b) ≡ (b == a)
    swapped a b = grind (arith, nat_tests)

-- a count is at its place
at_itself : (c : Count) → is_at c c ≡ true
at_itself c =
    let slot : (c.slot == c.slot) ≡ true = grind (arith, nat_tests) in
    let region : (c.region == c.region) ≡ true = grind (arith, nat_tests) in
    and_from (c.slot == c.slot) (c.region == c.region) slot region

-- what is asked of a region settles whether it is taken
asked_at : (t : Threshold) (xs : List Count) (c : Count) (ys : List Count) → ascends (xs ++ c ∷ ys) ≡ true → list_any (is_at c) (taken_by t (xs ++ c ∷ ys)) ≡ takes (behind t xs) c.count
unfolding taken_by behind
asked_at t [] c ys up = so (takes t c.count) (taken_none (is_at c) (passed t c.count) ys (none_behind c ys (and_parts (list_all (λ d. is_before c d) ys) (ascends ys) up).0))
  where
    row : List Count
    row = taken_by (passed t c.count) ys

    so : (s : Bool) → list_any (is_at c) row ≡ false → list_any (is_at c) (cond s (c ∷ row) row) ≡ s
    so true rest = or_left (is_at c c) (list_any (is_at c) row) (at_itself c)
    so false rest = rest
asked_at t (x ∷ xs) c ys up = so (takes t x.count) (asked_at (passed t x.count) xs c ys parts.1)
  where
    parts : (list_all (λ d. is_before x d) (xs ++ c ∷ ys) ≡ true) × (ascends (xs ++ c ∷ ys) ≡ true)
    parts = and_parts (list_all (λ d. is_before x d) (xs ++ c ∷ ys)) (ascends (xs ++ c ∷ ys)) up

    ahead : is_before x c ≡ true
    ahead =
        (and_parts (is_before x c) (list_all (λ d. is_before x d) ys)
        (and_parts (list_all (λ d. is_before x d) xs) (list_all (λ d. is_before x d) (c ∷ ys)) (sym (list_all-append (λ d. is_before x d) xs (c ∷ ys)) ∙ parts.0)).1).0

    row : List Count
    row = taken_by (passed t x.count) (xs ++ c ∷ ys)

    so : (s : Bool) → list_any (is_at c) row ≡ takes (behind (passed t x.count) xs) c.count → list_any (is_at c) (cond s (x ∷ row) row) ≡ takes (behind (passed t x.count) xs) c.count
    so true rest = ap (λ (t : Bool). t || list_any (is_at c) row) (other_place x c ahead) ∙ rest
    so false rest = rest

-- The threshold, asked of all regions in front of one and then of that one, takes it just where it is chosen.
pub chosen_at : (counts : List Count) (missing : ℕ) (xs : List Count) (c : Count) (ys : List Count) → counts ≡ xs ++ c ∷ ys → ascends counts ≡ true
    → takes (behind (threshold_for counts missing) xs) c.count ≡ has_region (regions_counted (chosen counts missing)) c.slot c.region
unfolding has_region
chosen_at counts missing xs c ys is up =
    let t : Threshold = threshold_for counts missing in
    sym (asked_at t xs c ys (ap ascends (sym is) ∙ up))
    ∙ ap (λ (row : List Count). list_any (is_at c) (taken_by t row)) (sym is)
    ∙ sym (any_counted (λ r. (r.slot == c.slot) && (r.region == c.region)) (taken_by t counts))
    ∙ taken_regions counts missing c.slot c.region up

-- A place that no count has isn't chosen.
pub chosen_none : (counts : List Count) (missing slot region : ℕ) → ascends counts ≡ true → list_all (λ c. not ((c.slot == slot) && (c.region == region))) counts ≡ true
    → has_region (regions_counted (chosen counts missing)) slot region ≡ false
unfolding has_region
chosen_none counts missing slot region up none =
    let t : Threshold = threshold_for counts missing in
    sym (taken_regions counts missing slot region up)
    ∙ any_counted (λ r. (r.slot == slot) && (r.region == region)) (taken_by t counts)
    ∙ taken_none (λ c. (c.slot == slot) && (c.region == region)) t counts none

-- ---- one part of a row behind the other

-- The threshold behind a row in two parts.
pub behind_append : (t : Threshold) (xs ys : List Count) → behind t (xs ++ ys) ≡ behind (behind t xs) ys
unfolding behind
behind_append t [] ys = refl
behind_append t (x ∷ xs) ys = behind_append (passed t x.count) xs ys

-- ---- the steps of the search for the threshold

-- the level has what is missing
pub found_here : (n missing blocks : ℕ) (cs : List Count) → 1 ≤ n → missing ≤ most_blocks → blocks ≡ min (total (level n cs)) most_blocks → missing ≤ blocks
    → record { count = n; left = missing } ≡ threshold_below n missing cs
unfolding threshold_below
found_here zero missing blocks cs some most is le = absurd (omega (arith, some))
found_here (suc n) missing blocks cs some most is le =
    let within : missing ≤ total (level (suc n) cs) = omega (arith, is, le) in
    let test : nat_le missing (total (level (suc n) cs)) ≡ true = grind (arith, nat_tests, within) in
    let at : Threshold = record { count = suc n; left = missing } in
    ap (λ (t : Bool). cond t at (threshold_below n (missing - total (level (suc n) cs)) cs)) (sym test)

-- it hasn't
pub further_down : (n missing blocks : ℕ) (cs : List Count) → 1 ≤ n → missing ≤ most_blocks → blocks ≡ min (total (level n cs)) most_blocks → blocks < missing
    → threshold_below (n - 1) (missing - blocks) cs ≡ threshold_below n missing cs
unfolding threshold_below
further_down zero missing blocks cs some most is lt = absurd (omega (arith, some))
further_down (suc n) missing blocks cs some most is lt =
    let all : blocks ≡ total (level (suc n) cs) = omega (arith, is, lt, most) in
    let past : total (level (suc n) cs) < missing = omega (arith, all, lt) in
    let test : nat_le missing (total (level (suc n) cs)) ≡ false = grind (arith, nat_tests, past) in
    let at : Threshold = record { count = suc n; left = missing } in
    ap₂ (λ (k m : ℕ). threshold_below k m cs) (omega arith) (omega (arith, all))
    ∙ ap (λ (t : Bool). cond t at (threshold_below n (missing - total (level (suc n) cs)) cs)) (sym test)

-- no level is left
pub found_last : (n missing : ℕ) (cs : List Count) → n ≡ 0 → record { count = 0; left = 0 } ≡ threshold_below n missing cs
unfolding threshold_below
found_last zero missing cs none = refl
found_last (suc n) missing cs none = absurd (omega (arith, none))
