-- How many places under a place pass a test, counted level by level, and child by child.
use Rattle.std.proofs.Common.{◌≡◌, ◌≤◌, ◌<◌, ℕ, zero, suc, ◌+◌, ◌-◌, ◌*◌, ◌^◌, Bool, cond, List, [], ◌∷◌, refl, sym, ap, ap₂, ◌∙◌, arith}
use Rattle.std.specs.Prelude.{count_by, sum_by}
use Rattle.std.specs.List.{range_with_len}
use Rattle.std.proofs.Math.Nat.{mul_assoc, mul_comm, pow-suc}
use Rattle.std.proofs.lemmas.List.Sums.{sum_by-cons}
use Rattle.fv_model.specs.Trees.{fan}

-- ---- sums over ranges

-- of functions that are the same there
pub sum_same : (f h : ℕ → ℕ) (a n : ℕ) → ((k : ℕ) → a ≤ k → k < a + n → f k ≡ h k) → sum_by f (range_with_len a n) ≡ sum_by h (range_with_len a n)
sum_same f h a zero same = refl
sum_same f h a (suc n) same =
    sum_by-cons f a (range_with_len (a + 1) n)
    ∙ ap₂ (λ x y. x + y) (same a (omega arith) (omega arith)) (sum_same f h (a + 1) n (λ k low high. same k (omega (arith, low)) (omega (arith, high))))
    ∙ sym (sum_by-cons h a (range_with_len (a + 1) n))

-- of ranges that meet
pub sum_meet : (f : ℕ → ℕ) (a m n : ℕ) → sum_by f (range_with_len a (m + n)) ≡ sum_by f (range_with_len a m) + sum_by f (range_with_len (a + m) n)
sum_meet f a zero n =
    let start : a ≡ a + 0 = omega arith in
    let none : 0 + n ≡ n = omega arith in
    (λ j. sum_by f (range_with_len (start j) (none j))) ∙ (let e : sum_by f (range_with_len (a + 0) n) ≡ 0 + sum_by f (range_with_len (a + 0) n) = omega arith in e)
sum_meet f a (suc m) n =
    let all : suc m + n ≡ suc (m + n) = omega arith in
    let next : (a + 1) + m ≡ a + suc m = omega arith in
    let rest = sum_meet f (a + 1) m n in
    let moved : sum_by f (range_with_len ((a + 1) + m) n) ≡ sum_by f (range_with_len (a + suc m) n) = ap (λ k. sum_by f (range_with_len k n)) next in
    let whole : sum_by f (range_with_len a (suc m + n)) ≡ sum_by f (range_with_len a (suc (m + n))) = ap (λ k. sum_by f (range_with_len a k)) all in
    omega (arith, whole, sum_by-cons f a (range_with_len (a + 1) (m + n)), sum_by-cons f a (range_with_len (a + 1) m), rest, moved)

-- and one more number
pub sum_more : (f : ℕ → ℕ) (a n : ℕ) → sum_by f (range_with_len a (n + 1)) ≡ sum_by f (range_with_len a n) + f (a + n)
sum_more f a n =
    let one : sum_by f (range_with_len (a + n) 1) ≡ f (a + n) + 0 = sum_by-cons f (a + n) [] in
    let meet = sum_meet f a n 1 in
    omega (arith, one, meet)

-- of sums of two
sum_both : (f h : ℕ → ℕ) (xs : List ℕ) → sum_by (λ k. f k + h k) xs ≡ sum_by f xs + sum_by h xs
sum_both f h [] = refl
sum_both f h (x ∷ xs) =
    let rest = sum_both f h xs in
    omega (arith, sum_by-cons (λ k. f k + h k) x xs, sum_by-cons f x xs, sum_by-cons h x xs, rest)

pub sum_none : (xs : List ℕ) → sum_by (λ k. 0) xs ≡ 0
sum_none [] = refl
sum_none (x ∷ xs) = let rest = sum_none xs in omega (arith, sum_by-cons (λ (k : ℕ). 0) x xs, rest)

-- the one way round, or the other
sum_swap : (f : ℕ → ℕ → ℕ) (xs ys : List ℕ) → sum_by (λ k. sum_by (f k) ys) xs ≡ sum_by (λ q. sum_by (λ k. f k q) xs) ys
sum_swap f [] ys = sym (sum_none ys)
sum_swap f (x ∷ xs) ys =
    let rest = sum_swap f xs ys in
    let both = sum_both (f x) (λ q. sum_by (λ k. f k q) xs) ys in
    let each : sum_by (λ q. sum_by (λ k. f k q) (x ∷ xs)) ys ≡ sum_by (λ q. f x q + sum_by (λ k. f k q) xs) ys = (λ j. sum_by (λ q. sum_by-cons (λ k. f k q) x xs j) ys) in
    omega (arith, sum_by-cons (λ k. sum_by (f k) ys) x xs, rest, both, each)

-- a range cut into parts that are all so long
sum_parts : (f : ℕ → ℕ) (m a n : ℕ) → sum_by f (range_with_len (a * m) (n * m)) ≡ sum_by (λ q. sum_by f (range_with_len (q * m) m)) (range_with_len a n)
sum_parts f m a zero = let none : 0 * m ≡ 0 = omega arith in ap (λ k. sum_by f (range_with_len (a * m) k)) none
sum_parts f m a (suc n) =
    let more : suc n * m ≡ m + n * m = omega arith in
    let next : a * m + m ≡ (a + 1) * m = omega arith in
    let rest = sum_parts f m (a + 1) n in
    let whole : sum_by f (range_with_len (a * m) (suc n * m)) ≡ sum_by f (range_with_len (a * m) (m + n * m)) = ap (λ k. sum_by f (range_with_len (a * m) k)) more in
    let moved : sum_by f (range_with_len (a * m + m) (n * m)) ≡ sum_by f (range_with_len ((a + 1) * m) (n * m)) = ap (λ k. sum_by f (range_with_len k (n * m))) next in
    omega (arith, whole, moved, sum_meet f (a * m) m (n * m), rest, sum_by-cons (λ q. sum_by f (range_with_len (q * m) m)) a (range_with_len (a + 1) n))

-- ---- places under a place

module _ (test : ℕ → ℕ → Bool) where
  -- of one level
  abbrev level_under : ℕ → ℕ → ℕ → ℕ
  level_under level place k = count_by (test k) (range_with_len (place * fan ^ (level - k)) (fan ^ (level - k)))

  -- of all levels, its own among them
  abbrev pub all_under : ℕ → ℕ → ℕ
  all_under level place = sum_by (level_under level place) (range_with_len 0 (level + 1))

  own_level : (level place : ℕ) → level_under level place level ≡ cond (test level place) 1 0
  own_level level place =
      let none : level - level ≡ 0 = omega arith in
      let one : place * 1 ≡ place = omega arith in
      (λ j. count_by (test level) (range_with_len (place * fan ^ none j) (fan ^ none j)))
      ∙ (λ j. count_by (test level) (range_with_len (one j) 1))
      ∙ sum_by-cons (λ p. cond (test level p) 1 0) place []
      ∙ (let e : cond {A = ℕ} (test level place) 1 0 + 0 ≡ cond (test level place) 1 0 = omega arith in e)

  lower_level : (level place k : ℕ) → 1 ≤ level → k < level → level_under level place k ≡ sum_by (λ q. level_under (level - 1) q k) (range_with_len (place * fan) fan)
  lower_level level place k low lt =
      let up : level - k ≡ suc (level - 1 - k) = omega (arith, low, lt) in
      let wide : fan ^ (level - k) ≡ fan * fan ^ (level - 1 - k) = ap (λ n. fan ^ n) up ∙ pow-suc fan (level - 1 - k) ∙ mul_comm (fan ^ (level - 1 - k)) fan in
      let start : place * fan ^ (level - k) ≡ place * fan * fan ^ (level - 1 - k) = ap (λ n. place * n) wide ∙ sym (mul_assoc place fan (fan ^ (level - 1 - k))) in
      (λ j. count_by (test k) (range_with_len (start j) (wide j)))
      ∙ sum_parts (λ p. cond (test k p) 1 0) (fan ^ (level - 1 - k)) (place * fan) fan

  from_none : (n : ℕ) → 0 + n ≡ n
  from_none n = omega arith

  within : (k level : ℕ) → k < 0 + level → k < level
  within k level lt = omega (arith, lt)

  -- its own, and those under each place below it
  pub under_step : (level place : ℕ) → 1 ≤ level → all_under level place ≡ cond (test level place) 1 0 + sum_by (all_under (level - 1)) (range_with_len (place * fan) fan)
  under_step level place low =
      let count : level ≡ level - 1 + 1 = omega (arith, low) in
      let lower : sum_by (level_under level place) (range_with_len 0 level) ≡ sum_by (all_under (level - 1)) (range_with_len (place * fan) fan) =
      sum_same (level_under level place) (λ k. sum_by (λ q. level_under (level - 1) q k) (range_with_len (place * fan) fan)) 0 level (λ k least lt. lower_level level place k low (within k level lt))
      ∙ sum_swap (λ k q. level_under (level - 1) q k) (range_with_len 0 level) (range_with_len (place * fan) fan)
      ∙ (λ j. sum_by (λ q. sum_by (level_under (level - 1) q) (range_with_len 0 (count j))) (range_with_len (place * fan) fan)) in
      let last : level_under level place (0 + level) ≡ cond (test level place) 1 0 = ap (level_under level place) (from_none level) ∙ own_level level place in
      sum_more (level_under level place) 0 level ∙ ap₂ (λ x y. x + y) lower last ∙ turned (sum_by (all_under (level - 1)) (range_with_len (place * fan) fan)) (cond (test level place) 1 0)
    where
      turned : (a b : ℕ) → a + b ≡ b + a
      turned a b = omega arith

  -- of a cell it is its own
  pub under_cell : (level place : ℕ) → level ≡ 0 → all_under level place ≡ cond (test level place) 1 0
  under_cell level place none =
      (λ j. all_under (none j) place) ∙ sum_by-cons (level_under 0 place) 0 [] ∙ (let e : level_under 0 place 0 + 0 ≡ level_under 0 place 0 = omega arith in e) ∙ own_level 0 place ∙ (λ j. cond (test (sym none j) place) 1 0)
