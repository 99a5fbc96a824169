-- How often a list holds a number, and that a layout holds no block twice.
use Rattle.std.proofs.Common.{◌≡◌, ℕ, ◌≤◌, Bool, true, false, cond, List, [], ◌∷◌, refl, ap, arith, ⊎_elim, inl, inr, ◌⊎◌}
use Rattle.std.specs.Prelude.{nat_le, ◌||◌, ◌==◌, flat_map, sum_by, count_by}
use Rattle.std.specs.List.{list_any}
use Rattle.std.proofs.lemmas.Bool.{both_ways, or_left, or_right, or_from}
use Rattle.std.proofs.lemmas.Bool.Decides.{nat_tests}
use Rattle.std.proofs.lemmas.List.Sums.{sum_by-cons, sum_by-append}
use Rattle.fv_image.specs.Held.{Layout, held, is_held}
use Rattle.fv_image.specs.BlockRules.{is_held_once}
use Rattle.fv_image.proofs.InRange.{of_listed}

-- ---- lists and how often they hold a number

-- a test of whether a list holds what is counted
abbrev pub Tells : Bool → ℕ → Type 0
Tells holds times = ((holds ≡ true) × (1 ≤ times)) ⊎ ((holds ≡ false) × (times ≡ 0))

pub listed_tells : (p : ℕ → Bool) (xs : List ℕ) → Tells (list_any p xs) (count_by p xs)
listed_tells p [] = inr (refl, refl)
listed_tells p (x ∷ xs) = so (listed_tells p xs) (p x) refl
  where
    so : Tells (list_any p xs) (count_by p xs) → (first : Bool) → p x ≡ first → Tells (p x || list_any p xs) (count_by p (x ∷ xs))
    so rest true e = inl (or_left (p x) _ e, omega (arith, sum_by-cons (λ x. cond {A = ℕ} (p x) 1 0) x xs, ap {B = ℕ} (λ t. cond t 1 0) e))
    so rest false e =
        let first : cond {A = ℕ} (p x) 1 0 ≡ 0 = ap (λ t. cond t 1 0) e in
        let whole = sum_by-cons (λ x. cond {A = ℕ} (p x) 1 0) x xs in ⊎_elim
        (λ (some : (list_any p xs ≡ true) × (1 ≤ count_by p xs)). inl (or_right (p x) _ some.0, omega (arith, whole, first, some.1)))
        (λ (none : (list_any p xs ≡ false) × (count_by p xs ≡ 0)). inr (or_from (p x) _ e none.0, omega (arith, whole, first, none.1)))
        rest

pub some_times : (holds : Bool) (times : ℕ) → Tells holds times → holds ≡ true → 1 ≤ times
some_times holds times tells e = ⊎_elim (λ some. some.1) (λ none. absurd (both_ways holds none.0 e)) tells

pub no_times : (holds : Bool) (times : ℕ) → Tells holds times → holds ≡ false → times ≡ 0
no_times holds times tells e = ⊎_elim (λ some. absurd (both_ways holds e some.0)) (λ none. none.1) tells

-- parts of a list are counted one by one
pub counted_parts : (p : ℕ → Bool) (part : ℕ → List ℕ) (xs : List ℕ) → count_by p (flat_map part xs) ≡ sum_by (λ k. count_by p (part k)) xs
counted_parts p part [] = refl
counted_parts p part (x ∷ xs) = omega (
  arith,
  sum_by-append (λ x. cond {A = ℕ} (p x) 1 0) (part x) (flat_map part xs),
  sum_by-cons (λ k. count_by p (part k)) x xs,
  counted_parts p part xs,
)

-- ---- no block twice

-- how often a layout holds a block
abbrev times : Layout → ℕ → ℕ
times y b = count_by (λ x. x == b) (held y)

pub held_at_most_once : (y : Layout) (b : ℕ) → is_held_once y ≡ true → times y b ≤ 1
unfolding is_held_once
held_at_most_once y b once = ⊎_elim
    (λ (some : (is_held y b ≡ true) × (1 ≤ times y b)).
    let test : nat_le (times y b) 1 ≡ true = of_listed (λ b. nat_le (times y b) 1) (held y) b once some.0 in
    grind (arith, nat_tests, test))
    (λ (none : (is_held y b ≡ false) × (times y b ≡ 0)). omega (arith, none.1))
    (listed_tells (λ x. x == b) (held y))
