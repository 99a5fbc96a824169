-- The tree of a well-formed table or file: its marks lie over cells, and its cells are those that are told.
use Rattle.std.proofs.Common.{◌≡◌, ◌≢◌, ◌⊎◌, ℕ, ◌/◌, ◌^◌, ◌&&◌, ◌||◌, Bool, true, false, List, [], ◌∷◌, length, nat_eq, nat_le, inl, inr, refl, sym, ap, subst, ◌∙◌, arith}
use Rattle.std.specs.Prelude.{Option, Some, None, is_some}
use Rattle.std.specs.List.{list_any}
use Rattle.std.specs.FinMap as fin
use Rattle.std.proofs.lemmas.Bool.Decides.{nat_tests}
use Rattle.fv_model.specs.Trees.{fan, Tree, holds_one}
use Rattle.fv_laws.specs.WellFormed.{IsTree}
use Rattle.fv_laws.proofs.Lists.{In}
use Rattle.fv_tree.specs.Erasing.{IsGrownFrom}

pub any_true : (test : ℕ → Bool) (x : ℕ) (xs : List ℕ) → In x xs → test x ≡ true → list_any test xs ≡ true
any_true test x [] h is = absurd h
any_true test x (y ∷ ys) (inl e) is = ap (λ b. b || list_any test ys) (ap test e ∙ is)
any_true test x (y ∷ ys) (inr h) is = ap (λ b. test y || b) (any_true test x ys h is) ∙ so (test y)
  where
    so : (b : Bool) → (b || true) ≡ true
    so true = refl
    so false = refl

record IsFound (test : ℕ → Bool) (xs : List ℕ) : Type 0 where
  one : ℕ
  within : In one xs
  is : test one ≡ true

first_or : (a b : Bool) → (a || b) ≡ true → (a ≡ true) ⊎ (b ≡ true)
first_or true b e = inl refl
first_or false b e = inr e

any_found : (test : ℕ → Bool) (xs : List ℕ) → list_any test xs ≡ true → IsFound test xs
any_found test [] e = absurd (grind (arith, e))
any_found test (x ∷ xs) e = so (λ more. any_found test xs more) (first_or (test x) (list_any test xs) e)
  where
    so : (list_any test xs ≡ true → IsFound test xs) → (test x ≡ true) ⊎ (list_any test xs ≡ true) → IsFound test (x ∷ xs)
    so in_rest (inl is) = record { one = x; within = inl refl; is = is }
    so in_rest (inr more) = let rest = in_rest more in record { one = rest.one; within = inr rest.within; is = rest.is }

pub and_true : (a b : Bool) → (a && b) ≡ true → (a ≡ true) × (b ≡ true)
and_true true b e = (refl, e)
and_true false b e = absurd (grind (arith, e))

pub some_of : {X : Type 0} (o : Option X) → o ≢ None → is_some o ≡ true
some_of None e = absurd (e refl)
some_of (Some v) e = refl

some_not : {X : Type 0} (o : Option X) → is_some o ≡ true → o ≢ None
some_not None e none = absurd (grind (arith, e))
some_not (Some v) e none = absurd (grind (arith, ap is_some none))

module _ (now start : ℕ) (cells : List ℕ) (t : Tree) (is : IsTree now start cells t) where
  -- a cell stands exactly where it is told
  pub cell_stands : (i : ℕ) → In i cells → is_some (fin.get t.stamps (0, i)) ≡ true
  cell_stands i within =
      let first : i / fan ^ 0 ≡ i = omega arith in
      let test : nat_eq (i / fan ^ 0) i ≡ true = grind (arith, nat_tests, first) in
      let low : nat_le 0 t.levels ≡ true = grind (arith, nat_tests) in
      is.exact (0, i) ∙ (λ j. low j && any_true (λ k. nat_eq (k / fan ^ 0) i) i cells within test j)

  in_range : (level place : ℕ) → is_some (fin.get t.stamps (level, place)) ≡ true → IsFound (λ k. nat_eq (k / fan ^ level) place) cells
  in_range level place some = any_found (λ k. nat_eq (k / fan ^ level) place) cells (and_true (nat_le level t.levels) (holds_one cells (level, place)) (sym (is.exact (level, place)) ∙ some)).1

  pub stands_cell : (i : ℕ) → is_some (fin.get t.stamps (0, i)) ≡ true → In i cells
  stands_cell i some =
      let found = in_range 0 i some in
      let first : found.one / fan ^ 0 ≡ found.one = omega arith in
      let at : found.one / fan ^ 0 ≡ i = (let e = found.is in grind (arith, nat_tests, e)) in
      so found.one i (sym first ∙ at) found.within
    where
      so : (a b : ℕ) → a ≡ b → In a cells → In b cells
      so a b e h = subst (λ (x : ℕ). In x cells) e h

  no_cells : (xs : List ℕ) → ((i : ℕ) → In i xs → ⊥) → length xs ≡ 0
  no_cells [] none = refl
  no_cells (x ∷ xs) none = absurd (none x (inl refl))

  pub grown_tree : IsGrownFrom start t
  grown_tree = record {
    marks = λ level place some.
        let found = in_range level place (some_of (fin.get t.stamps (level, place)) some) in
        (found.one, (let e = found.is in let at : found.one / fan ^ level ≡ place = grind (arith, nat_tests, e) in at), some_not (fin.get t.stamps (0, found.one)) (cell_stands found.one found.within));
    empty = λ none. is.shrinks (no_cells cells (λ i within. some_not (fin.get t.stamps (0, i)) (cell_stands i within) (none i)));
  }
