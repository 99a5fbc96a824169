-- A test of a list, said of its elements.
use Rattle.std.proofs.Common.{◌≡◌, Bool, true, false, List, [], ◌∷◌, inl, inr, refl, sym, ap, ◌∙◌, ⊎_elim}
use Rattle.std.specs.List.{list_all, list_any}
use Rattle.std.proofs.lemmas.Bool.{and_parts, and_from, or_left, or_right, or_cases, both_ways}
use Rattle.fv_laws.proofs.Lists.{In}

-- tests that pass together
pub iff : (a b : Bool) → (a ≡ true → b ≡ true) → (b ≡ true → a ≡ true) → a ≡ b
iff true true there back = refl
iff true false there back = sym (there refl)
iff false true there back = back refl
iff false false there back = refl

module _ {X : Type 0} (p : X → Bool) where
  -- an element that passes
  pub from_any : (xs : List X) → list_any p xs ≡ true → (x : X) × (In x xs × (p x ≡ true))
  from_any [] passes = absurd cc
  from_any (x ∷ xs) passes = ⊎_elim
      (λ (here : p x ≡ true). (x, (inl refl, here)))
      (λ later. let rest = from_any xs later in (rest.0, (inr rest.1.0, rest.1.1)))
      (or_cases (p x) (list_any p xs) passes)

  pub to_any : (x : X) (xs : List X) → In x xs → p x ≡ true → list_any p xs ≡ true
  to_any x [] there passes = absurd there
  to_any x (y ∷ ys) (inl e) passes = or_left (p y) (list_any p ys) (ap p e ∙ passes)
  to_any x (y ∷ ys) (inr there) passes = or_right (p y) (list_any p ys) (to_any x ys there passes)

  -- each of them passes
  pub from_all : (xs : List X) → list_all p xs ≡ true → (x : X) → In x xs → p x ≡ true
  from_all [] all x there = absurd there
  from_all (y ∷ ys) all x (inl e) = ap p (sym e) ∙ (and_parts (p y) (list_all p ys) all).0
  from_all (y ∷ ys) all x (inr there) = from_all ys (and_parts (p y) (list_all p ys) all).1 x there

  pub to_all : (xs : List X) → ((x : X) → In x xs → p x ≡ true) → list_all p xs ≡ true
  to_all [] each = refl
  to_all (x ∷ xs) each = and_from (p x) (list_all p xs) (each x (inl refl)) (to_all xs (λ y there. each y (inr there)))

  -- if none passes, each fails
  pub none_of : (xs : List X) → list_any p xs ≡ false → (x : X) → In x xs → p x ≡ false
  none_of xs none x there = so (p x) refl
    where
      so : (b : Bool) → p x ≡ b → p x ≡ false
      so false e = e
      so true e = absurd (both_ways (list_any p xs) none (to_any x xs there e))

  pub to_none : (xs : List X) → ((x : X) → In x xs → p x ≡ false) → list_any p xs ≡ false
  to_none xs each = so (list_any p xs) refl
    where
      so : (b : Bool) → list_any p xs ≡ b → list_any p xs ≡ false
      so false e = e
      so true e = let found = from_any xs e in absurd (both_ways (p found.0) (each found.0 found.1.0) found.1.1)
