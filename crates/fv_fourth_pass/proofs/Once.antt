-- How many of a list there are, each once: as many as the set of their keys has.
use Rattle.std.proofs.Common.{◌≡◌, ℕ, ◌+◌, Bool, true, false, cond, not, ◌&&◌, List, [], ◌∷◌, map, length, refl, sym, ap, ◌∙◌, arith, Less, Equal, Greater}
use Rattle.std.specs.Prelude.{filter, flat_map, count_by, ◌||◌, if◌then◌else◌}
use Rattle.std.specs.declared.cmp.Ordering.{Ordering}
use Rattle.std.specs.Ordering.{eq_by_cmp, is_eq}
use Rattle.std.specs.Cmp.{IsTotalOrder, eq_by_cmp_equiv}
use Rattle.std.specs.List.{AllByRecursion, list_all, list_any}
use Rattle.std.specs.List.Sorted.{IsStrictlySortedBy}
use Rattle.std.specs.FinSet as set
use Rattle.std.proofs.lemmas.List.Folds.{list_any-append}
use Rattle.std.proofs.lemmas.List.Sums.{sum_by-cons}
use Rattle.fv_image.specs.Places.{once_each}

equal : (r : Ordering) → is_eq r ≡ true → r ≡ Equal
equal Less e = absurd cc
equal Equal e = refl
equal Greater e = absurd cc

pub any_mapped : {X Y : Type 0} (p : Y → Bool) (f : X → Y) (xs : List X) → list_any p (map f xs) ≡ list_any (λ x. p (f x)) xs
any_mapped p f [] = refl
any_mapped p f (x ∷ xs) = ap (λ b. p (f x) || b) (any_mapped p f xs)

pub any_filtered : {X : Type 0} (p test : X → Bool) (xs : List X) → list_any p (filter test xs) ≡ list_any (λ x. test x && p x) xs
any_filtered p test [] = refl
any_filtered p test (x ∷ xs) = so (test x) (any_filtered p test xs)
  where
    so : (b : Bool) → list_any p (filter test xs) ≡ list_any (λ x. test x && p x) xs → list_any p (if b then x ∷ filter test xs else filter test xs) ≡ ((b && p x) || list_any (λ x. test x && p x) xs)
    so true rest = ap (λ b. p x || b) rest
    so false rest = rest

pub any_spread : {X Y : Type 0} (p : Y → Bool) (f : X → List Y) (xs : List X) → list_any p (flat_map f xs) ≡ list_any (λ x. list_any p (f x)) xs
any_spread p f [] = refl
any_spread p f (x ∷ xs) = list_any-append p (f x) (flat_map f xs) ∙ ap (λ b. list_any p (f x) || b) (any_spread p f xs)

pub any_is : {X : Type 0} (p : X → Bool) (xs : List X) → list_any p xs ≡ not (list_all (λ x. not (p x)) xs)
any_is p [] = refl
any_is p (x ∷ xs) = so (p x) (list_any p xs) (list_all (λ x. not (p x)) xs) (any_is p xs)
  where
    so : (a b c : Bool) → b ≡ not c → (a || b) ≡ not (not a && c)
    so true b c e = refl
    so false b c e = e

-- ---- counts

abbrev one_if : Bool → ℕ
one_if b = cond b 1 0

module _ {X : Type 0} where
  counted_next : (p : X → Bool) (x : X) (xs : List X) → count_by p (x ∷ xs) ≡ cond (p x) 1 0 + count_by p xs
  counted_next p x xs = sum_by-cons (λ x. cond (p x) 1 0) x xs

  left_over : (p : X → Bool) (xs : List X) → length (filter (λ x. not (p x)) xs) + count_by p xs ≡ length xs
  left_over p [] = refl
  left_over p (x ∷ xs) = so (p x) (counted_next p x xs) (left_over p xs)
    where
      so : (b : Bool) → count_by p (x ∷ xs) ≡ cond b 1 0 + count_by p xs → length (filter (λ x. not (p x)) xs) + count_by p xs ≡ length xs
          → length (if not b then x ∷ filter (λ x. not (p x)) xs else filter (λ x. not (p x)) xs) + count_by p (x ∷ xs) ≡ length (x ∷ xs)
      so true next rest = omega (arith, next, rest)
      so false next rest = omega (arith, next, rest)

  none_left : (p q : X → Bool) → ((x : X) → p x ≡ q x) → (xs : List X) → count_by p (filter (λ x. not (q x)) xs) ≡ 0
  none_left p q same [] = refl
  none_left p q same (x ∷ xs) = so (q x) (same x) (none_left p q same xs)
    where
      so : (b : Bool) → p x ≡ b → count_by p (filter (λ x. not (q x)) xs) ≡ 0 → count_by p (if not b then x ∷ filter (λ x. not (q x)) xs else filter (λ x. not (q x)) xs) ≡ 0
      so true is rest = rest
      so false is rest =
          let next = counted_next p x (filter (λ x. not (q x)) xs) in
          let none : cond (p x) 1 0 ≡ 0 = ap one_if is in
          omega (arith, next, none, rest)

  all_left : (p q : X → Bool) → ((x : X) → p x ≡ true → q x ≡ false) → (xs : List X) → count_by p (filter (λ x. not (q x)) xs) ≡ count_by p xs
  all_left p q apart [] = refl
  all_left p q apart (x ∷ xs) = so (q x) refl (p x) refl (all_left p q apart xs)
    where
      so : (b : Bool) → q x ≡ b → (a : Bool) → p x ≡ a → count_by p (filter (λ x. not (q x)) xs) ≡ count_by p xs
          → count_by p (if not b then x ∷ filter (λ x. not (q x)) xs else filter (λ x. not (q x)) xs) ≡ count_by p (x ∷ xs)
      so true out true is rest = absurd (differ (sym (apart x is) ∙ out))
        where
          differ : false ≡ true → ⊥
          differ e = cc
      so true out false is rest =
          let next = counted_next p x xs in
          let none : cond (p x) 1 0 ≡ 0 = ap one_if is in
          omega (arith, next, none, rest)
      so false out a is rest =
          let next = counted_next p x xs in
          let other = counted_next p x (filter (λ x. not (q x)) xs) in
          omega (arith, next, other, rest)

-- ---- by keys

module _ {K X : Type 0} {R : K → K → Ordering} (o : IsTotalOrder R) (ties : set.IsAntisymmetric R) (key : X → K) (same : X → X → Bool) (is : (x y : X) → same x y ≡ eq_by_cmp R (key x) (key y)) where
  alike : (x y : X) → same x y ≡ true → key x ≡ key y
  alike x y test = ties (key x) (key y) (equal (R (key x) (key y)) (sym (is x y) ∙ test))

  turned : (x y : X) → same y x ≡ same x y
  turned x y = is y x ∙ (eq_by_cmp_equiv o).symm (key y) (key x) ∙ sym (is x y)

  abbrev any_same : X → List X → Bool
  any_same x xs = list_any (eq_by_cmp R (key x)) (map key xs)

  once_one : (x : X) (xs : List X) → count_by (same x) (once_each same xs) ≡ cond (any_same x xs) 1 0
  unfolding once_each
  once_one x [] = refl
  once_one x (y ∷ ys) = counted_next (same x) y (filter (λ z. not (same y z)) (once_each same ys)) ∙ so (once_one x ys) (same x y) refl
    where
      rest : List X
      rest = once_each same ys

      so : count_by (same x) rest ≡ cond (any_same x ys) 1 0 → (b : Bool) → same x y ≡ b → cond (same x y) 1 0 + count_by (same x) (filter (λ z. not (same y z)) rest) ≡ cond (any_same x (y ∷ ys)) 1 0
      so before true test =
          let none : count_by (same x) (filter (λ z. not (same y z)) rest) ≡ 0 = none_left (same x) (same y) (λ z. is x z ∙ ap (λ k. eq_by_cmp R k (key z)) (alike x y test) ∙ sym (is y z)) rest in
          let one : cond (same x y) 1 0 ≡ 1 = ap one_if test in
          let all : cond (any_same x (y ∷ ys)) 1 0 ≡ 1 = ap (λ (b : Bool). one_if (b || any_same x ys)) (sym (is x y) ∙ test) in
          omega (arith, none, one, all)
      so before false test =
          let kept : count_by (same x) (filter (λ z. not (same y z)) rest) ≡ count_by (same x) rest = all_left (same x) (same y) (λ z at. is y z ∙ ap (λ k. eq_by_cmp R (key y) k) (sym (alike x z at)) ∙ sym (is y x) ∙ turned x y ∙ test) rest in
          let none : cond (same x y) 1 0 ≡ 0 = ap one_if test in
          let all : cond (any_same x (y ∷ ys)) 1 0 ≡ cond (any_same x ys) 1 0 = ap (λ (b : Bool). one_if (b || any_same x ys)) (sym (is x y) ∙ test) in
          omega (arith, kept, none, all, before)

  pub once_counted : (xs : List X) → length (once_each same xs) ≡ set.len (set.from_list {R = R} (map key xs))
  unfolding once_each
  once_counted [] = sym (set.len-empty R)
  once_counted (x ∷ xs) =
      so (any_same x xs) (left_over (same x) (once_each same xs)) (once_one x xs) (once_counted xs)
      ∙ sym (set.len-insert o (set.from_list {R = R} (map key xs)) (key x) ∙ ap (λ (b : Bool). cond b (set.len (set.from_list {R = R} (map key xs))) (set.len (set.from_list {R = R} (map key xs)) + 1)) (set.contains-from_list o (map key xs) (key x)))
    where
      so : (b : Bool) → length (filter (λ y. not (same x y)) (once_each same xs)) + count_by (same x) (once_each same xs) ≡ length (once_each same xs)
          → count_by (same x) (once_each same xs) ≡ cond b 1 0 → length (once_each same xs) ≡ set.len (set.from_list {R = R} (map key xs))
          → length (x ∷ filter (λ y. not (same x y)) (once_each same xs)) ≡ cond b (set.len (set.from_list {R = R} (map key xs))) (set.len (set.from_list {R = R} (map key xs)) + 1)
      so true left one before = omega (arith, left, one, before)
      so false left one before = omega (arith, left, one, before)

-- ---- keys that are kept

module _ {K : Type 0} {R : K → K → Ordering} (o : IsTotalOrder R) (ties : set.IsAntisymmetric R) where
  absent : (k : K) (ks : List K) → AllByRecursion (λ y. R k y ≡ Less) ks → list_any (eq_by_cmp R k) ks ≡ false
  absent k [] below = refl
  absent k (x ∷ xs) below = ap (λ r. is_eq r || list_any (eq_by_cmp R k) xs) below.0 ∙ absent k xs below.1

  sorted_counted : (ks : List K) → IsStrictlySortedBy R ks → length ks ≡ set.len (set.from_list {R = R} ks)
  unfolding IsStrictlySortedBy
  sorted_counted [] sorted = sym (set.len-empty R)
  sorted_counted (k ∷ ks) sorted =
      sym (set.len-insert o (set.from_list {R = R} ks) k
      ∙ ap (λ (b : Bool). cond b (set.len (set.from_list {R = R} ks)) (set.len (set.from_list {R = R} ks) + 1)) (set.contains-from_list o ks k ∙ absent k ks sorted.0)
      ∙ ap (λ n. n + 1) (sym (sorted_counted ks sorted.1)) ∙ omega arith)

  -- sorted keys are as many as a set has that has the same
  pub kept_counted : (ks ls : List K) → IsStrictlySortedBy R ks → ((k : K) → list_any (eq_by_cmp R k) ks ≡ list_any (eq_by_cmp R k) ls) → length ks ≡ set.len (set.from_list {R = R} ls)
  kept_counted ks ls sorted same =
      sorted_counted ks sorted
      ∙ ap (λ (s : set.FinSet R). set.len s) (set.same_set o ties (set.from_list ks) (set.from_list ls) (λ k. set.contains-from_list o ks k ∙ same k ∙ sym (set.contains-from_list o ls k)))
