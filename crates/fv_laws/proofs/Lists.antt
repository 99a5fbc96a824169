-- Elements of lists.
use Rattle.std.proofs.Common.{◌||◌, ◌⊎◌, ◌≡◌, ℕ, zero, suc, ◌+◌, ◌-◌, ◌<◌, ◌≤◌, Bool, true, false, cond, List, [], ◌∷◌, ◌++◌, map, filter, flat_map, inl, inr, ⊎_elim, refl, sym, ap, subst, ◌∙◌, arith}
use Rattle.std.specs.List.{list_any, range_with_len}
use Rattle.std.specs.declared.cmp.Ordering.{Ordering}
use Rattle.std.specs.Ordering.{eq_by_cmp, is_eq}
use Rattle.std.specs.Cmp.{IsTotalOrder, Equal-is, tied_itself}
use Rattle.std.specs.FinMap as fin
use Rattle.fv_laws.proofs.SetCounts.{or_true}

-- an element of a list
abbrev pub In : {X : Type 0} → X → List X → Type 0
In x [] = ⊥
In x (y ∷ ys) = (y ≡ x) ⊎ In x ys

module _ {X : Type 0} where
  pub in_left : (x : X) (xs ys : List X) → In x xs → In x (xs ++ ys)
  in_left x [] ys h = absurd h
  in_left x (y ∷ xs) ys (inl e) = inl e
  in_left x (y ∷ xs) ys (inr h) = inr (in_left x xs ys h)

  pub in_right : (x : X) (xs ys : List X) → In x ys → In x (xs ++ ys)
  in_right x [] ys h = h
  in_right x (y ∷ xs) ys h = inr (in_right x xs ys h)

  pub in_either : (x : X) (xs ys : List X) → In x (xs ++ ys) → In x xs ⊎ In x ys
  in_either x [] ys h = inr h
  in_either x (y ∷ xs) ys (inl e) = inl (inl e)
  in_either x (y ∷ xs) ys (inr h) = ⊎_elim (λ l. inl (inr l)) (λ r. inr r) (in_either x xs ys h)

  pub in_filter : (p : X → Bool) (x : X) (xs : List X) → In x xs → p x ≡ true → In x (filter p xs)
  in_filter p x [] h is = absurd h
  in_filter p x (y ∷ xs) (inl e) is = subst (λ b. In x (cond b (y ∷ filter p xs) (filter p xs))) (sym (ap p e ∙ is)) (inl e)
  in_filter p x (y ∷ xs) (inr h) is = elim (p y) as (λ b. In x (cond b (y ∷ filter p xs) (filter p xs))) [ true ↦ inr (in_filter p x xs h is) | false ↦ in_filter p x xs h is ]

  pub from_filter : (p : X → Bool) (x : X) (xs : List X) → In x (filter p xs) → In x xs × (p x ≡ true)
  from_filter p x [] h = absurd h
  from_filter p x (y ∷ xs) h =
      elim (p y) as (λ b. p y ≡ b → In x (cond b (y ∷ filter p xs) (filter p xs)) → ((y ≡ x) ⊎ In x xs) × (p x ≡ true)) [
        | true ↦ λ e h. ⊎_elim (λ same. (inl same, ap p (sym same) ∙ e)) (λ there. let rest = from_filter p x xs there in (inr rest.0, rest.1)) h
        | false ↦ λ e h. let rest = from_filter p x xs h in (inr rest.0, rest.1)
      ] refl h

module _ {X Y : Type 0} where
  pub from_flat_map : (g : X → List Y) (y : Y) (xs : List X) → In y (flat_map g xs) → (x : X) × In x xs × In y (g x)
  from_flat_map g y [] h = absurd h
  from_flat_map g y (x ∷ xs) h = ⊎_elim (λ l. (x, inl refl, l)) (λ r. let rest = from_flat_map g y xs r in (rest.0, inr rest.1, rest.2)) (in_either y (g x) (flat_map g xs) h)

  pub in_map : (g : X → Y) (x : X) (xs : List X) → In x xs → In (g x) (map g xs)
  in_map g x [] h = absurd h
  in_map g x (y ∷ xs) (inl e) = inl (ap g e)
  in_map g x (y ∷ xs) (inr h) = inr (in_map g x xs h)

  pub from_map : (g : X → Y) (y : Y) (xs : List X) → In y (map g xs) → (x : X) × In x xs × (g x ≡ y)
  from_map g y [] h = absurd h
  from_map g y (x ∷ xs) (inl e) = (x, inl refl, e)
  from_map g y (x ∷ xs) (inr h) = let there = from_map g y xs h in (there.0, inr there.1, there.2)

  pub in_flat_map : (g : X → List Y) (x : X) (y : Y) (xs : List X) → In x xs → In y (g x) → In y (flat_map g xs)
  in_flat_map g x y [] h within = absurd h
  in_flat_map g x y (z ∷ xs) (inl e) within = in_left y (g z) (flat_map g xs) (subst (λ w. In y (g w)) (sym e) within)
  in_flat_map g x y (z ∷ xs) (inr h) within = in_right y (g z) (flat_map g xs) (in_flat_map g x y xs h within)

-- the numbers of a range
pub in_range : (a n k : ℕ) → a ≤ k → k < a + n → In k (range_with_len a n)
in_range a zero k low high = absurd (omega arith)
in_range a (suc n) k low high =
    elim (k - a) as (λ d. k - a ≡ d → (a ≡ k) ⊎ In k (range_with_len (a + 1) n)) [ zero ↦ λ e. inl (omega arith) | (suc d) ↦ λ e. inr (in_range (a + 1) n k (omega arith) (omega arith)) ] refl

pub from_range : (a n k : ℕ) → In k (range_with_len a n) → (a ≤ k) × (k < a + n)
from_range a zero k h = absurd h
from_range a (suc n) k (inl e) = (omega arith, omega arith)
from_range a (suc n) k (inr h) = let there = from_range (a + 1) n k h in let low : a + 1 ≤ k = there.0 in let high : k < (a + 1) + n = there.1 in (omega arith, omega arith)

-- a test of equality with some element
module _ {X : Type 0} {R : X → X → Ordering} where
  pub any_in : fin.IsAntisymmetric R → (q : X) (xs : List X) → list_any (eq_by_cmp R q) xs ≡ true → In q xs
  any_in ties q [] e = absurd cc
  any_in ties q (x ∷ xs) e =
      elim (eq_by_cmp R q x) as (λ b. eq_by_cmp R q x ≡ b → (b || list_any (eq_by_cmp R q) xs) ≡ true → (x ≡ q) ⊎ In q xs) [
        | true ↦ λ d h. inl (sym (ties q x ((Equal-is (R q x)).0 d)))
        | false ↦ λ d h. inr (any_in ties q xs h)
      ] refl e

  pub in_any : IsTotalOrder R → (q : X) (xs : List X) → In q xs → list_any (eq_by_cmp R q) xs ≡ true
  in_any o q [] h = absurd h
  in_any o q (x ∷ xs) (inl e) = ap (λ (s : X). eq_by_cmp R q s || list_any (eq_by_cmp R q) xs) e ∙ ap (λ r. is_eq r || list_any (eq_by_cmp R q) xs) (tied_itself o q)
  in_any o q (x ∷ xs) (inr h) = ap (λ b. eq_by_cmp R q x || b) (in_any o q xs h) ∙ or_true _
