-- When lists of lines are empty.
use Rattle.std.proofs.Common.{◌≡◌, Bool, true, false, List, [], ◌∷◌, ◌++◌, inl, inr, refl, subst, Less, Equal, Greater}
use Rattle.std.specs.Prelude.{flat_map}
use Rattle.std.specs.List.{list_all}
use Rattle.std.specs.declared.cmp.Ordering.{Ordering}
use Rattle.std.specs.Ordering.{match_ordering}
use Rattle.std.proofs.lemmas.Bool.{and_parts, and_from}
use Rattle.fv_laws.proofs.Lists.{In}
use Rattle.fv_faults.specs.declared.fault.Fault.{Fault}
use Rattle.fv_faults.specs.Lines.{fault_cmp, put, ordered, or_next, unless}

pub parts_nil : {A : Type 0} (xs ys : List A) → xs ++ ys ≡ [] → (xs ≡ []) × (ys ≡ [])
parts_nil [] ys none = (refl, none)
parts_nil (x ∷ xs) ys none = absurd cc

pub nil_parts : {A : Type 0} (xs ys : List A) → xs ≡ [] → ys ≡ [] → xs ++ ys ≡ []
nil_parts xs ys e d = rw (e, d) refl

pub holds_from : (good : Bool) (f : Fault) → unless good f ≡ [] → good ≡ true
holds_from true f none = refl
holds_from false f none = absurd cc

pub none_from : (good : Bool) (f : Fault) → good ≡ true → unless good f ≡ []
none_from good f is = rw is refl

-- ---- a list of lines for each element, against a test of each element

module _ {X A : Type 0} (lines : X → List A) (test : X → Bool) where
  pub all_from : ((x : X) → lines x ≡ [] → test x ≡ true) → (xs : List X) → flat_map lines xs ≡ [] → list_all test xs ≡ true
  all_from each [] none = refl
  all_from each (x ∷ xs) none =
      let parts = parts_nil (lines x) (flat_map lines xs) none in
      and_from (test x) (list_all test xs) (each x parts.0) (all_from each xs parts.1)

  pub clean_from : ((x : X) → test x ≡ true → lines x ≡ []) → (xs : List X) → list_all test xs ≡ true → flat_map lines xs ≡ []
  clean_from each [] all = refl
  clean_from each (x ∷ xs) all =
      let parts = and_parts (test x) (list_all test xs) all in
      nil_parts (lines x) (flat_map lines xs) (each x parts.0) (clean_from each xs parts.1)

module _ {X A : Type 0} (lines : X → List A) where
  pub none_of_each : (xs : List X) → flat_map lines xs ≡ [] → (x : X) → In x xs → lines x ≡ []
  none_of_each [] none x there = absurd there
  none_of_each (y ∷ ys) none x (inl is) = subst (λ z. lines z ≡ []) is (parts_nil (lines y) (flat_map lines ys) none).0
  none_of_each (y ∷ ys) none x (inr there) = none_of_each ys (parts_nil (lines y) (flat_map lines ys) none).1 x there

  pub each_none : (xs : List X) → ((x : X) → In x xs → lines x ≡ []) → flat_map lines xs ≡ []
  each_none [] each = refl
  each_none (x ∷ xs) each = nil_parts (lines x) (flat_map lines xs) (each x (inl refl)) (each_none xs (λ y there. each y (inr there)))

-- ---- order and passes

never_nil : (o : Ordering) (f g : Fault) (gs rest : List Fault) → match_ordering o (f ∷ g ∷ gs) (g ∷ gs) (g ∷ rest) ≡ [] → ⊥
never_nil Less f g gs rest e = cc
never_nil Equal f g gs rest e = cc
never_nil Greater f g gs rest e = cc

put_something : (f : Fault) (gs : List Fault) → put f gs ≡ [] → ⊥
put_something f [] e = cc
put_something f (g ∷ gs) e = never_nil (fault_cmp f g) f g gs (put f gs) e

-- Ordering loses no line and makes none.
pub ordered_from : (fs : List Fault) → ordered fs ≡ [] → fs ≡ []
unfolding ordered
ordered_from [] e = refl
ordered_from (f ∷ fs) e = absurd (put_something f (ordered fs) e)

pub ordered_none : (fs : List Fault) → fs ≡ [] → ordered fs ≡ []
unfolding ordered
ordered_none fs e = rw e refl

pub both_passes : (fs gs : List Fault) → or_next fs gs ≡ [] → (fs ≡ []) × (gs ≡ [])
both_passes [] gs e = (refl, e)
both_passes (f ∷ fs) gs e = absurd cc

pub no_pass : (fs gs : List Fault) → fs ≡ [] → gs ≡ [] → or_next fs gs ≡ []
no_pass fs gs e d = rw (e, d) refl
