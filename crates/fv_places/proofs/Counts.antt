-- Lists that stand pair by pair: what is picked of them stands so, too, and a count that holds of fewer falls.
use Rattle.std.proofs.Common.{◌≡◌, ◌≢◌, ℕ, zero, suc, ◌+◌, ◌<◌, ◌≤◌, Bool, true, false, cond, List, [], ◌∷◌, inl, inr, refl, sym, ap, ap₂, ◌∙◌, arith, ⊎_elim}
use Rattle.std.specs.Prelude.{not, ◌||◌, count_by, filter}
use Rattle.std.specs.List.{list_any, range_with_len}
use Rattle.std.proofs.lemmas.Bool.{cases_eq, or_cases, or_left, or_right}
use Rattle.std.proofs.lemmas.List.Sums.{sum_by-cons}
use Rattle.fv_laws.proofs.Lists.{In, in_filter, from_filter}
use Rattle.fv_laws.proofs.Tests.{from_any, to_any}
use Rattle.fv_image.specs.Places.{once_each}
use Rattle.fv_places.specs.Origins.{Beside}

-- a count, one by one
counted : {X : Type 0} (p : X → Bool) (x : X) (xs : List X) → count_by p (x ∷ xs) ≡ cond {A = ℕ} (p x) 1 0 + count_by p xs
counted p x xs = sum_by-cons (λ z. cond {A = ℕ} (p z) 1 0) x xs

-- ---- lists, pair by pair

module _ {X : Type 0} (R : X → X → Type 0) where
  -- ---- what is picked

  -- by tests that agree on each pair
  filter_beside : (p q : X → Bool) (xs ys : List X) → Beside R xs ys → ((a b : X) → R a b → q b ≡ p a)
      → Beside R (filter p xs) (filter q ys)
  filter_beside p q [] [] is same = tt
  filter_beside p q [] (y ∷ ys) is same = absurd is
  filter_beside p q (x ∷ xs) [] is same = absurd is
  filter_beside p q (x ∷ xs) (y ∷ ys) is same = so (p x) (q y) (same x y is.0) (filter_beside p q xs ys is.1 same)
    where
      so : (b c : Bool) → c ≡ b → Beside R (filter p xs) (filter q ys)
          → Beside R (cond b (x ∷ filter p xs) (filter p xs)) (cond c (y ∷ filter q ys) (filter q ys))
      so true true e rest = (is.0, rest)
      so false false e rest = rest
      so true false e rest = absurd cc
      so false true e rest = absurd cc

  -- each once, where two of the one list are the same as the two beside them are
  pub once_beside : (same : X → X → Bool) → ((a b c d : X) → R a b → R c d → same b d ≡ same a c) → (xs ys : List X) → Beside R xs ys
      → Beside R (once_each same xs) (once_each same ys)
  unfolding once_each
  once_beside same alike [] [] is = tt
  once_beside same alike [] (y ∷ ys) is = absurd is
  once_beside same alike (x ∷ xs) [] is = absurd is
  once_beside same alike (x ∷ xs) (y ∷ ys) is = (
    is.0,
    filter_beside (λ z. not (same x z)) (λ z. not (same y z)) (once_each same xs) (once_each same ys)
        (once_beside same alike xs ys is.1) (λ a b pair. ap (λ (t : Bool). not t) (alike x y a b is.0 pair)),
  )

  -- ---- tests

  -- some of one list pass a test where some of the other pass one that agrees on each pair
  pub any_beside : (p q : X → Bool) (xs ys : List X) → Beside R xs ys → ((a b : X) → R a b → q b ≡ p a) → list_any q ys ≡ list_any p xs
  any_beside p q [] [] is same = refl
  any_beside p q [] (y ∷ ys) is same = absurd is
  any_beside p q (x ∷ xs) [] is same = absurd is
  any_beside p q (x ∷ xs) (y ∷ ys) is same = ap₂ (λ (b c : Bool). b || c) (same x y is.0) (any_beside p q xs ys is.1 same)

  -- and none where none beside passes
  pub none_beside : (q : X → Bool) (xs ys : List X) → Beside R xs ys → ((a b : X) → R a b → q b ≡ false) → list_any q ys ≡ false
  none_beside q [] [] is none = refl
  none_beside q [] (y ∷ ys) is none = absurd is
  none_beside q (x ∷ xs) [] is none = absurd is
  none_beside q (x ∷ xs) (y ∷ ys) is none = ap₂ (λ (b c : Bool). b || c) (none x y is.0) (none_beside q xs ys is.1 none)

  -- ---- counts

  -- a count that keeps to the one beside it is no more
  no_more : (p q : X → Bool) → ((a b : X) → R a b → q b ≡ true → p a ≡ true) → (xs ys : List X) → Beside R xs ys
      → count_by q ys ≤ count_by p xs
  no_more p q keep [] [] is = omega arith
  no_more p q keep [] (y ∷ ys) is = absurd is
  no_more p q keep (x ∷ xs) [] is = absurd is
  no_more p q keep (x ∷ xs) (y ∷ ys) is =
      let a = counted p x xs in let b = counted q y ys in let rest = no_more p q keep xs ys is.1 in
      let one = le (p x) (q y) (keep x y is.0) in omega (arith, a, b, rest, one)
    where
      le : (a b : Bool) → (b ≡ true → a ≡ true) → cond {A = ℕ} b 1 0 ≤ cond a 1 0
      le true true is = omega arith
      le true false is = omega arith
      le false false is = omega arith
      le false true is = let wrong : false ≡ true = is refl in absurd cc

  -- Where a marked one falls, the count falls.
  pub fewer : (p q mark : X → Bool) → ((a b : X) → R a b → q b ≡ true → p a ≡ true)
      → ((a b : X) → R a b → mark a ≡ true → (p a ≡ true) × (q b ≡ false))
      → (xs ys : List X) → Beside R xs ys → list_any mark xs ≡ true → count_by q ys + 1 ≤ count_by p xs
  fewer p q mark keep falls [] ys is any = absurd cc
  fewer p q mark keep falls (x ∷ xs) [] is any = absurd is
  fewer p q mark keep falls (x ∷ xs) (y ∷ ys) is any = ⊎_elim
      (λ (here : mark x ≡ true). let f = falls x y is.0 here in let rest = no_more p q keep xs ys is.1 in
      this (p x) (q y) (count_by p xs) (count_by q ys) _ _ (counted p x xs) (counted q y ys) f.0 f.1 rest)
      (λ later. let rest = fewer p q mark keep falls xs ys is.1 later in
      that (p x) (q y) (count_by p xs) (count_by q ys) _ _ (counted p x xs) (counted q y ys) (keep x y is.0) rest)
      (or_cases (mark x) (list_any mark xs) any)
    where
      this : (a b : Bool) (m n s t : ℕ) → s ≡ cond {A = ℕ} a 1 0 + m → t ≡ cond {A = ℕ} b 1 0 + n → a ≡ true → b ≡ false → n ≤ m
          → t + 1 ≤ s
      this true false m n s t e f x y le = omega (arith, e, f, le)
      this true true m n s t e f x y le = absurd cc
      this false b m n s t e f x y le = absurd cc

      that : (a b : Bool) (m n s t : ℕ) → s ≡ cond {A = ℕ} a 1 0 + m → t ≡ cond {A = ℕ} b 1 0 + n → (b ≡ true → a ≡ true) → n + 1 ≤ m
          → t + 1 ≤ s
      that true true m n s t e f is le = omega (arith, e, f, le)
      that true false m n s t e f is le = omega (arith, e, f, le)
      that false false m n s t e f is le = omega (arith, e, f, le)
      that false true m n s t e f is le = let wrong : false ≡ true = is refl in absurd cc

-- ---- counts of numbers

-- tests that agree past v count the same past it
count_same : (f g : ℕ → Bool) (v from count : ℕ) → v < from → ((q : ℕ) → q ≢ v → g q ≡ f q)
    → count_by g (range_with_len from count) ≡ count_by f (range_with_len from count)
count_same f g v from zero low same = refl
count_same f g v from (suc count) low same =
    counted g from (range_with_len (from + 1) count)
    ∙ ap₂ (λ (b : Bool) (n : ℕ). cond {A = ℕ} b 1 0 + n) (same from (λ e. absurd (omega (arith, e, low))))
    (count_same f g v (from + 1) count (omega (arith, low)) same)
    ∙ sym (counted f from (range_with_len (from + 1) count))

-- A count falls by one where the test agrees but at v, and v no longer passes.
pub count_falls : (f g : ℕ → Bool) (v from count : ℕ) → from ≤ v → v < from + count → ((q : ℕ) → q ≢ v → g q ≡ f q) → f v ≡ true
    → g v ≡ false
    → count_by g (range_with_len from count) + 1 ≡ count_by f (range_with_len from count)
count_falls f g v from zero low high same was now = absurd (omega (arith, low, high))
count_falls f g v from (suc count) low high same was now =
    let left = counted g from (range_with_len (from + 1) count) in
    let right = counted f from (range_with_len (from + 1) count) in ⊎_elim
    (λ (e : from ≡ v). here (g from) (f from) _ _ _ _ left right (ap g e ∙ now) (ap f e ∙ was)
    (count_same f g v (from + 1) count (omega (arith, e)) same))
    (λ ne. there (g from) (f from) _ _ _ _ left right (same from ne)
    (count_falls f g v (from + 1) count (omega (arith, low, ne)) (omega (arith, high)) same was now))
    (cases_eq from v)
  where
    here : (b c : Bool) (l r m n : ℕ) → l ≡ cond {A = ℕ} b 1 0 + m → r ≡ cond {A = ℕ} c 1 0 + n → b ≡ false → c ≡ true → m ≡ n → l + 1 ≡ r
    here false true l r m n e f x y z = omega (arith, e, f, z)
    here true c l r m n e f x y z = absurd cc
    here false false l r m n e f x y z = absurd cc

    there : (b c : Bool) (l r m n : ℕ) → l ≡ cond {A = ℕ} b 1 0 + m → r ≡ cond {A = ℕ} c 1 0 + n → b ≡ c → m + 1 ≡ n → l + 1 ≡ r
    there true true l r m n e f x z = omega (arith, e, f, z)
    there false false l r m n e f x z = omega (arith, e, f, z)
    there true false l r m n e f x z = absurd cc
    there false true l r m n e f x z = absurd cc

-- ---- each once

module _ {X : Type 0} (same : X → X → Bool) where
  -- each once is of the list
  once_in : (x : X) (xs : List X) → In x (once_each same xs) → In x xs
  unfolding once_each
  once_in x [] there = there
  once_in x (y ∷ ys) there =
      ⊎_elim (λ here. inl here) (λ later. inr (once_in x ys (from_filter (λ z. not (same y z)) x (once_each same ys) later).0)) there

  -- a marked one is among each once, where what is the same is marked alike
  pub once_keeps : (mark : X → Bool) (xs : List X) → ((a b : X) → In a xs → In b xs → same a b ≡ true → mark b ≡ true → mark a ≡ true)
      → list_any mark xs ≡ true → list_any mark (once_each same xs) ≡ true
  unfolding once_each
  once_keeps mark [] alike any = any
  once_keeps mark (x ∷ xs) alike any = ⊎_elim
      (λ (here : mark x ≡ true). or_left (mark x) _ here)
      (λ later.
      let rest = once_keeps mark xs (λ a b p q. alike a b (inr p) (inr q)) later in
      let one = from_any mark (once_each same xs) rest in
      so one.0 one.1.0 one.1.1 (same x one.0) refl)
      (or_cases (mark x) (list_any mark xs) any)
    where
      so : (b : X) → In b (once_each same xs) → mark b ≡ true → (t : Bool) → same x b ≡ t
          → (mark x || list_any mark (filter (λ z. not (same x z)) (once_each same xs))) ≡ true
      so b there is true e = or_left (mark x) _ (alike x b (inl refl) (inr (once_in b xs there)) e is)
      so b there is false e =
          or_right (mark x) _ (to_any mark b (filter (λ z. not (same x z)) (once_each same xs))
          (in_filter (λ z. not (same x z)) b (once_each same xs) there (ap (λ (t : Bool). not t) e)) is)
