-- Entries of a function that are listed over keys, and what holds in the parts of a list over a range of numbers.
use Rattle.std.proofs.Common.{◌≡◌, ℕ, zero, suc, ◌+◌, ◌<◌, ◌≤◌, Bool, true, false, cond, List, [], ◌∷◌, ◌++◌, refl, sym, ap, subst, ◌∙◌, arith, ⊎_elim, Less, Equal, Greater}
use Rattle.std.specs.Prelude.{◌||◌, ◌&&◌, Option, Some, None, map, flat_map}
use Rattle.std.specs.List.{list_any, list_all, range_with_len}
use Rattle.std.specs.declared.cmp.Ordering.{Ordering}
use Rattle.std.specs.Ordering.{eq_by_cmp, is_eq}
use Rattle.std.specs.FinMap as fin
use Rattle.std.specs.FinMap.{find}
use Rattle.std.proofs.lemmas.Bool.{cases_eq, or_left, or_right, and_parts}
use Rattle.std.proofs.lemmas.List.Folds.{list_any-append, list_all-append}
use Rattle.fv_tables.specs.Told.{entry_or, listed}

-- ---- what is found in a listing

module _ {K : Type 0} (R : K → K → Ordering) (ties : fin.IsAntisymmetric R) where
  -- keys that aren't told apart are one
  pub tied : (a b : K) → eq_by_cmp R a b ≡ true → a ≡ b
  tied a b e = ties a b (equal (R a b) e)
    where
      equal : (r : Ordering) → is_eq r ≡ true → r ≡ Equal
      equal Equal e = refl
      equal Less e = absurd cc
      equal Greater e = absurd cc

  -- a listed key has its value, and others have none
  pub found : {X : Type 0} (f : K → Option X) (keys : List K) (k : K) → find R k (listed f keys) ≡ cond (list_any (eq_by_cmp R k) keys) (f k) None
  unfolding listed
  found f [] k = refl
  found {X} f (q ∷ qs) k = so (found f qs k) (f q) refl (eq_by_cmp R k q) refl
    where
      never : (b : Bool) (o : Option X) → o ≡ None → cond b o None ≡ None
      never true o e = e
      never false o e = refl

      so : find R k (listed f qs) ≡ cond (list_any (eq_by_cmp R k) qs) (f k) None → (o : Option X) → f q ≡ o → (here : Bool) → eq_by_cmp R k q ≡ here
          → find R k (entry_or q o ++ listed f qs) ≡ cond (here || list_any (eq_by_cmp R k) qs) (f k) None
      so rest None e true test =
          let none : f k ≡ None = ap f (tied k q test) ∙ e in
          rest ∙ never (list_any (eq_by_cmp R k) qs) (f k) none ∙ sym none
      so rest None e false test = rest
      so rest (Some x) e true test = rw test (sym (ap f (tied k q test) ∙ e))
      so rest (Some x) e false test = rw test rest

-- ---- ranges

pub any_in_range : (p : ℕ → Bool) (k from count : ℕ) → from ≤ k → k < from + count → p k ≡ true → list_any p (range_with_len from count) ≡ true
any_in_range p k from zero low high is = absurd (omega arith)
any_in_range p k from (suc count) low high is = ⊎_elim
    (λ (e : from ≡ k). or_left (p from) (list_any p (range_with_len (from + 1) count)) (ap p e ∙ is))
    (λ ne. or_right (p from) (list_any p (range_with_len (from + 1) count)) (any_in_range p k (from + 1) count (omega arith) (omega arith) is))
    (cases_eq from k)

pub any_in_part : {X : Type 0} (p : X → Bool) (part : ℕ → List X) (k from count : ℕ) → from ≤ k → k < from + count → list_any p (part k) ≡ true → list_any p (flat_map part (range_with_len from count)) ≡ true
any_in_part p part k from zero low high is = absurd (omega arith)
any_in_part p part k from (suc count) low high is = list_any-append p (part from) (flat_map part (range_with_len (from + 1) count)) ∙ ⊎_elim
    (λ (e : from ≡ k). or_left (list_any p (part from)) _ (ap (λ n. list_any p (part n)) e ∙ is))
    (λ ne. or_right (list_any p (part from)) _ (any_in_part p part k (from + 1) count (omega arith) (omega arith) is))
    (cases_eq from k)

pub any_in_map : {X : Type 0} (p : X → Bool) (f : ℕ → X) (xs : List ℕ) → list_any p (map f xs) ≡ list_any (λ n. p (f n)) xs
any_in_map p f [] = refl
any_in_map p f (x ∷ xs) = ap (λ b. p (f x) || b) (any_in_map p f xs)

pub both : (a b : Bool) → a ≡ true → b ≡ true → (a && b) ≡ true
both true b x y = y
both false b x y = x

pub all_in_range : (p : ℕ → Bool) (k from count : ℕ) → list_all p (range_with_len from count) ≡ true → from ≤ k → k < from + count → p k ≡ true
all_in_range p k from zero all low high = absurd (omega arith)
all_in_range p k from (suc count) all low high =
    let parts = and_parts (p from) (list_all p (range_with_len (from + 1) count)) all in ⊎_elim
    (λ (e : from ≡ k). subst (λ n. p n ≡ true) e parts.0)
    (λ ne. all_in_range p k (from + 1) count parts.1 (omega arith) (omega arith))
    (cases_eq from k)

pub all_of_range : (p : ℕ → Bool) (from count : ℕ) → ((k : ℕ) → from ≤ k → k < from + count → p k ≡ true) → list_all p (range_with_len from count) ≡ true
all_of_range p from zero each = refl
all_of_range p from (suc count) each = both (p from) _ (each from (omega arith) (omega arith)) (all_of_range p (from + 1) count (λ k low high. each k (omega arith) (omega arith)))

pub all_in_part : {X : Type 0} (p : X → Bool) (part : ℕ → List X) (k from count : ℕ) → list_all p (flat_map part (range_with_len from count)) ≡ true → from ≤ k → k < from + count → list_all p (part k) ≡ true
all_in_part p part k from zero all low high = absurd (omega arith)
all_in_part p part k from (suc count) all low high =
    let parts = and_parts (list_all p (part from)) _ (sym (list_all-append p (part from) (flat_map part (range_with_len (from + 1) count))) ∙ all) in ⊎_elim
    (λ (e : from ≡ k). subst (λ n. list_all p (part n) ≡ true) e parts.0)
    (λ ne. all_in_part p part k (from + 1) count parts.1 (omega arith) (omega arith))
    (cases_eq from k)

pub all_of_parts : {X : Type 0} (p : X → Bool) (part : ℕ → List X) (from count : ℕ) → ((k : ℕ) → from ≤ k → k < from + count → list_all p (part k) ≡ true) → list_all p (flat_map part (range_with_len from count)) ≡ true
all_of_parts p part from zero each = refl
all_of_parts p part from (suc count) each = list_all-append p (part from) (flat_map part (range_with_len (from + 1) count))
    ∙ both (list_all p (part from)) _ (each from (omega arith) (omega arith)) (all_of_parts p part (from + 1) count (λ k low high. each k (omega arith) (omega arith)))

pub all_in_map : {X : Type 0} (p : X → Bool) (f : ℕ → X) (xs : List ℕ) → list_all p (map f xs) ≡ list_all (λ n. p (f n)) xs
all_in_map p f [] = refl
all_in_map p f (x ∷ xs) = ap (λ b. p (f x) && b) (all_in_map p f xs)

-- what is listed over a range is the same where the parts are
pub same_parts : {X : Type 0} (f g : ℕ → List X) (from count : ℕ) → ((k : ℕ) → from ≤ k → k < from + count → f k ≡ g k) → flat_map f (range_with_len from count) ≡ flat_map g (range_with_len from count)
same_parts f g from zero same = refl
same_parts f g from (suc count) same = λ i. same from (omega arith) (omega arith) i ++ same_parts f g (from + 1) count (λ k low high. same k (omega arith) (omega arith)) i

-- a test of what a list of parts has is a test of each part
pub all_flat : {X Y : Type 0} (p : Y → Bool) (part : X → List Y) (xs : List X) → list_all p (flat_map part xs) ≡ list_all (λ x. list_all p (part x)) xs
all_flat p part [] = refl
all_flat p part (x ∷ xs) = list_all-append p (part x) (flat_map part xs) ∙ ap (λ b. list_all p (part x) && b) (all_flat p part xs)
