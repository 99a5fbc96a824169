-- Levels, and lists of places that are made one after another.
use Rattle.std.proofs.Common.{◌≡◌, ℕ, suc, ◌+◌, ◌^◌, ◌/◌, ◌<◌, ◌≤◌, ◌-◌, Bool, true, false, not, nat_lt, List, [], ◌∷◌, ◌++◌, map, get_or, refl, sym, ap, ◌∙◌, arith}
use Rattle.std.specs.List.{prefix_len, range_with_len}
use Rattle.std.specs.Ordering.{nat_cmp}
use Rattle.std.specs.FinMap as fin
use Rattle.std.proofs.Math.Nat.{pow-le-pow_right, div-eq_of_lt}
use Rattle.std.proofs.lemmas.List.Sums.{prefix_len_is}
use Rattle.std.proofs.lemmas.List.FromFn.{length-range_with_len, get_or-range_with_len, map-range_with_len_more}
use Rattle.std.proofs.lemmas.Bool.Decides.{nat_tests}
use Rattle.fv_model.specs.Tables.{File}
use Rattle.fv_model.specs.Trees.{fan, spot_cmp, Spot, Tree, least_levels, levels_with, spots_over, spots_grown, stamp_spots, written}

-- the least number of levels, by what makes it so
least_is : (n h : ℕ) → n ≤ fan ^ h → ((k : ℕ) → k < h → fan ^ k < n) → h ≤ n → least_levels n ≡ h
unfolding least_levels
least_is n h reaches before most =
    prefix_len_is (λ k. nat_lt (fan ^ k) n) (range_with_len 0 n) h 0 (omega (arith, length-range_with_len 0 n, most))
    (λ k lt. let at : get_or (range_with_len 0 n) k 0 ≡ k = get_or-range_with_len 0 n k 0 (omega arith) ∙ omega arith in
    let low : fan ^ k < n = before k lt in rw at (grind (arith, nat_tests)))
    (λ lt. let at : get_or (range_with_len 0 n) h 0 ≡ h = get_or-range_with_len 0 n h 0 (omega (arith, length-range_with_len 0 n)) ∙ omega arith in
    rw at (grind (arith, nat_tests)))

pub least_zero : (n : ℕ) → n ≤ 1 → least_levels n ≡ 0
least_zero n h = least_is n 0 h (λ k lt. absurd (omega arith)) (omega arith)

pub least_suc : (n h : ℕ) → fan ^ h < n → n ≤ fan ^ suc h → suc h ≤ n → least_levels n ≡ suc h
least_suc n h low high most =
    least_is n (suc h) high (λ k lt. let le : fan ^ k ≤ fan ^ h = pow-le-pow_right {n = fan} (omega arith) {i = k} {j = h} (omega arith) in omega arith) most

-- past level 5 each index below 2^32 lies in range 0
pub far : (i k : ℕ) → i < 2 ^ 32 → 5 < k → 0 ≡ i / fan ^ k
far i k small deep = sym (div-eq_of_lt (let le : fan ^ 5 ≤ fan ^ k = pow-le-pow_right {n = fan} (omega arith) {i = 5} {j = k} (omega arith) in omega arith))

-- stamps are given one after another
pub stamped_on : (s : ℕ) (ps qs : List Spot) (m : fin.FinMap spot_cmp ℕ) → stamp_spots s (ps ++ qs) m ≡ stamp_spots s qs (stamp_spots s ps m)
unfolding stamp_spots
stamped_on s [] qs m = refl
stamped_on s (p ∷ ps) qs m = stamped_on s ps qs (fin.insert m p s)

-- one more of a range that doesn't begin at 0
pub one_more : {X : Type 0} (f : ℕ → X) (from level : ℕ) → from ≤ level → map f (range_with_len from (level + 1 - from)) ≡ map f (range_with_len from (level - from)) ++ f level ∷ []
one_more f from level le =
    let more : level + 1 - from ≡ (level - from) + 1 = omega arith in
    rw more (map-range_with_len_more f from (level - from) level (omega arith))

-- a write, from its parts
pub written_is : (t : Tree) (s i levels : ℕ) (any : Bool) (over grown : List Spot) (first second last : fin.FinMap spot_cmp ℕ) → levels ≡ levels_with t.levels i → any ≡ nat_lt 0 (fin.len t.stamps) → over ≡ spots_over levels i → grown ≡ spots_grown any t.levels levels → first ≡ t.stamps → second ≡ stamp_spots s over first → last ≡ stamp_spots s grown second → ◌≡◌ {A = Tree} (record { levels = levels; stamps = last }) (written s i t)
unfolding written
written_is t s i levels any over grown first second last l a o g f m n =
    let both : stamp_spots s (spots_over (levels_with t.levels i) i ++ spots_grown (nat_lt 0 (fin.len t.stamps)) t.levels (levels_with t.levels i)) t.stamps ≡ last =
    stamped_on s _ _ t.stamps ∙ sym (n ∙ (λ j. stamp_spots s ((g ∙ (λ k. spots_grown (a k) t.levels (l k))) j) ((m ∙ (λ k. stamp_spots s ((o ∙ ap (λ h. spots_over h i) l) k) (f k))) j))) in
    λ j. record { levels = l j; stamps = sym both j }

-- a cell and the marks over it, one more level
pub spot_more : (i level : ℕ) (spots more : List Spot) → more ≡ spots ++ (level, i / fan ^ level) ∷ [] → spots ≡ map (λ k. (k, i / fan ^ k)) (range_with_len 0 level) → more ≡ map (λ k. (k, i / fan ^ k)) (range_with_len 0 (level + 1))
spot_more i level spots more pushed before =
    let spot : ℕ → Spot = λ k. (k, i / fan ^ k) in
    pushed ∙ (λ j. before j ++ (level, i / fan ^ level) ∷ []) ∙ sym (map-range_with_len_more spot 0 level level (omega arith))

is_false : (b : Bool) → not b ≡ true → b ≡ false
is_false true e = cc
is_false false e = refl

-- the least number that isn't taken
free_is : (has : ℕ → Bool) (count n : ℕ) → n ≤ count → ((k : ℕ) → k < n → has k ≡ true) → (n < count → has n ≡ false) → n ≡ prefix_len has (range_with_len 0 count)
free_is has count n within below stops =
    sym (prefix_len_is has (range_with_len 0 count) n 0 (omega (arith, length-range_with_len 0 count))
    (λ k lt. ap has (get_or-range_with_len 0 count k 0 (omega arith) ∙ omega arith) ∙ below k lt)
    (λ lt. let inside : n < count = omega (arith, length-range_with_len 0 count) in
    ap has (get_or-range_with_len 0 count n 0 inside ∙ omega arith) ∙ stops inside))

pub free_here : (m : fin.FinMap nat_cmp File) (n : ℕ) → n < fin.len m + 1 → ((k : ℕ) → k < n → fin.contains_key m k ≡ true) → not (fin.contains_key m n) ≡ true → n ≡ prefix_len (λ k. fin.contains_key m k) (range_with_len 0 (fin.len m + 1))
free_here m n few below free = free_is (λ k. fin.contains_key m k) (fin.len m + 1) n (omega arith) below (λ lt. is_false (fin.contains_key m n) free)

pub none_free : (m : fin.FinMap nat_cmp File) (n : ℕ) → n ≡ fin.len m + 1 → ((k : ℕ) → k < n → fin.contains_key m k ≡ true) → n ≡ prefix_len (λ k. fin.contains_key m k) (range_with_len 0 (fin.len m + 1))
none_free m n all below = free_is (λ k. fin.contains_key m k) (fin.len m + 1) n (omega arith) below (λ lt. absurd (omega arith))
