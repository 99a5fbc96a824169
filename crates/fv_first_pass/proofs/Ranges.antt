-- Numbers in a row, and lists for each of them, number by number.
use Rattle.std.proofs.Common.{◌≡◌, ℕ, ◌+◌, List, [], ◌∷◌, ◌++◌, map, refl, sym, ap, ◌∙◌, arith, inl, inr}
use Rattle.std.specs.Prelude.{flat_map}
use Rattle.std.specs.List.{range_with_len}
use Rattle.std.proofs.lemmas.List.{append_assoc, append-nil}
use Rattle.std.proofs.lemmas.Grind.{flat_map-append}
use Rattle.std.proofs.lemmas.List.FromFn.{map-range_with_len_more}
use Rattle.fv_laws.proofs.Lists.{In}

same : (xs : List ℕ) → map (λ k. k) xs ≡ xs
same [] = refl
same (x ∷ xs) = ap (λ ys. x ∷ ys) (same xs)

-- one number more
pub range_more : (a n j : ℕ) → a + n ≡ j → range_with_len a (n + 1) ≡ range_with_len a n ++ j ∷ []
range_more a n j is = sym (same (range_with_len a (n + 1))) ∙ map-range_with_len_more (λ k. k) a n j is ∙ ap (λ xs. xs ++ j ∷ []) (same (range_with_len a n))

-- lists that are the same for each element
pub same_parts : {X A : Type 0} → (f g : X → List A) (xs : List X) → ((x : X) → In x xs → f x ≡ g x) → flat_map f xs ≡ flat_map g xs
same_parts f g [] same = refl
same_parts f g (x ∷ xs) same =
    ap (λ ys. ys ++ flat_map f xs) (same x (inl refl)) ∙ ap (λ ys. g x ++ ys) (same_parts f g xs (λ y there. same y (inr there)))

module _ {A : Type 0} (f : ℕ → List A) where
  -- a list for each number, and one more
  pub parts_more : (a n j : ℕ) → a + n ≡ j → flat_map f (range_with_len a (n + 1)) ≡ flat_map f (range_with_len a n) ++ f j
  parts_more a n j is =
      ap (flat_map f) (range_more a n j is)
      ∙ flat_map-append f (range_with_len a n) (j ∷ [])
      ∙ ap (λ ys. flat_map f (range_with_len a n) ++ ys) (append-nil (f j))

  -- lists that a loop adds for the numbers from 0 on
  pub row_first : (old : List A) → old ≡ old ++ flat_map f (range_with_len 0 0)
  row_first old = sym (append-nil old)

  pub row_step : (n : ℕ) (old now next : List A) → now ≡ old ++ flat_map f (range_with_len 0 n) → next ≡ now ++ f n
      → next ≡ old ++ flat_map f (range_with_len 0 (n + 1))
  row_step n old now next is one =
      one
      ∙ ap (λ ys. ys ++ f n) is
      ∙ append_assoc old (flat_map f (range_with_len 0 n)) (f n)
      ∙ ap (λ ys. old ++ ys) (sym (parts_more 0 n n (omega arith)))
