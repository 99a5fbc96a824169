-- The order of lines: lists with the same lines are ordered as one, so it doesn't matter in which order, or how often, lines are found.
use Rattle.std.proofs.Common.{◌≡◌, ◌⊎◌, List, [], ◌∷◌, inl, inr, refl, sym, ap, subst, ◌∙◌, ⊎_elim, Less, Equal, Greater, rules}
use Rattle.std.specs.declared.cmp.Ordering.{Ordering}
use Rattle.std.specs.Ordering.{nat_cmp, ordering_reverse, match_ordering}
use Rattle.std.specs.Cmp.{IsTotalOrder}
use Rattle.std.specs.Cmp.Rules.{comparing}
use Rattle.std.specs.FinMap as fin
use Rattle.std.specs.List.{AllByRecursion}
use Rattle.std.specs.List.Sorted.{IsStrictlySortedBy}
use Rattle.fv_laws.proofs.Lists.{In}
use Rattle.fv_laws.proofs.Orders.{both_equal}
use Rattle.fv_faults.specs.declared.fault.Fault.{Fault}
use Rattle.fv_faults.specs.Lines.{fault_cmp, put, ordered}

pub fault_total : IsTotalOrder fault_cmp
fault_total = search (comparing, rules)

-- lines that aren't told apart are one
pub fault_ties : (x y : Fault) → fault_cmp x y ≡ Equal → x ≡ y
fault_ties x y e =
    let a : (nat_cmp x.rule y.rule ≡ Equal) × _ = both_equal _ _ e in
    let b : (nat_cmp x.block y.block ≡ Equal) × _ = both_equal _ _ a.1 in
    let c : (nat_cmp x.want y.want ≡ Equal) × (nat_cmp x.found y.found ≡ Equal) = both_equal _ _ b.1 in
    λ i. record {
      rule = fin.nat_cmp-IsAntisymmetric x.rule y.rule a.0 i;
      block = fin.nat_cmp-IsAntisymmetric x.block y.block b.0 i;
      want = fin.nat_cmp-IsAntisymmetric x.want y.want c.0 i;
      found = fin.nat_cmp-IsAntisymmetric x.found y.found c.1 i;
    }

-- each line is below those after it
abbrev pub IsStrict : List Fault → Type 0
IsStrict [] = Unit {0}
IsStrict (f ∷ fs) = ((g : Fault) → In g fs → fault_cmp f g ≡ Less) × IsStrict fs

differ : Less ≡ Equal → ⊥
differ e = cc

never : (f : Fault) → fault_cmp f f ≡ Less → ⊥
never f e = so (fault_cmp f f) e (fault_total.antisymm f f)
  where
    so : (r : Ordering) → r ≡ Less → r ≡ ordering_reverse r → ⊥
    so Less e a = cc
    so Equal e a = cc
    so Greater e a = cc

not_both : (f g : Fault) → fault_cmp f g ≡ Less → fault_cmp g f ≡ Less → ⊥
not_both f g a b = never f (fault_total.trans f g f a b)

-- ---- what an ordered list has

pub in_put : (f : Fault) (gs : List Fault) (x : Fault) → (f ≡ x) ⊎ In x gs → In x (put f gs)
in_put f [] x (inl e) = inl e
in_put f [] x (inr there) = absurd there
in_put f (g ∷ gs) x there = so (in_put f gs x) (fault_cmp f g) refl there
  where
    so : ((f ≡ x) ⊎ In x gs → In x (put f gs)) → (r : Ordering) → fault_cmp f g ≡ r → (f ≡ x) ⊎ In x (g ∷ gs) → In x (match_ordering r (f ∷ g ∷ gs) (g ∷ gs) (g ∷ put f gs))
    so rest Less e there = there
    so rest Equal e (inl is) = inl (sym (fault_ties f g e) ∙ is)
    so rest Equal e (inr there) = there
    so rest Greater e (inl is) = inr (rest (inl is))
    so rest Greater e (inr (inl is)) = inl is
    so rest Greater e (inr (inr there)) = inr (rest (inr there))

pub from_put : (f : Fault) (gs : List Fault) (x : Fault) → In x (put f gs) → (f ≡ x) ⊎ In x gs
from_put f [] x (inl e) = inl e
from_put f [] x (inr there) = absurd there
from_put f (g ∷ gs) x there = so (from_put f gs x) (fault_cmp f g) there
  where
    so : (In x (put f gs) → (f ≡ x) ⊎ In x gs) → (r : Ordering) → In x (match_ordering r (f ∷ g ∷ gs) (g ∷ gs) (g ∷ put f gs)) → (f ≡ x) ⊎ In x (g ∷ gs)
    so rest Less there = there
    so rest Equal there = inr there
    so rest Greater (inl is) = inr (inl is)
    so rest Greater (inr there) = ⊎_elim (λ e. inl e) (λ later. inr (inr later)) (rest there)

strict_put : (f : Fault) (gs : List Fault) → IsStrict gs → IsStrict (put f gs)
strict_put f [] is = ((λ g there. absurd there), tt)
strict_put f (g ∷ gs) is = so (strict_put f gs is.1) (fault_cmp f g) refl
  where
    turned : (r : Ordering) → fault_cmp f g ≡ r → r ≡ Greater → fault_cmp g f ≡ Less
    turned r e is_greater = fault_total.antisymm g f ∙ ap ordering_reverse (e ∙ is_greater)

    so : IsStrict (put f gs) → (r : Ordering) → fault_cmp f g ≡ r → IsStrict (match_ordering r (f ∷ g ∷ gs) (g ∷ gs) (g ∷ put f gs))
    so rest Less e = ((λ x there. ⊎_elim (λ (here : g ≡ x). ap (fault_cmp f) (sym here) ∙ e) (λ later. fault_total.trans f g x e (is.0 x later)) there), is)
    so rest Equal e = is
    so rest Greater e = ((λ x there. ⊎_elim (λ (here : f ≡ x). ap (fault_cmp g) (sym here) ∙ turned Greater e refl) (λ later. is.0 x later) (from_put f gs x there)), rest)

pub in_ordered : (fs : List Fault) (x : Fault) → In x fs → In x (ordered fs)
unfolding ordered
in_ordered [] x there = there
in_ordered (f ∷ fs) x (inl e) = in_put f (ordered fs) x (inl e)
in_ordered (f ∷ fs) x (inr there) = in_put f (ordered fs) x (inr (in_ordered fs x there))

pub from_ordered : (fs : List Fault) (x : Fault) → In x (ordered fs) → In x fs
unfolding ordered
from_ordered [] x there = there
from_ordered (f ∷ fs) x there = ⊎_elim (λ e. inl e) (λ later. inr (from_ordered fs x later)) (from_put f (ordered fs) x there)

pub ordered_strict : (fs : List Fault) → IsStrict (ordered fs)
unfolding ordered
ordered_strict [] = tt
ordered_strict (f ∷ fs) = strict_put f (ordered fs) (ordered_strict fs)

-- ---- strict lists of the same lines are one

same_strict : (xs ys : List Fault) → IsStrict xs → IsStrict ys → ((f : Fault) → In f xs → In f ys) → ((f : Fault) → In f ys → In f xs) → xs ≡ ys
same_strict [] [] a b there back = refl
same_strict [] (y ∷ ys) a b there back = absurd (back y (inl refl))
same_strict (x ∷ xs) [] a b there back = absurd (there x (inl refl))
same_strict (x ∷ xs) (y ∷ ys) a b there back =
    let same = first in
    λ i. same i ∷ same_strict xs ys a.1 b.1 (λ f in_xs. ⊎_elim
    (λ (here : y ≡ f). absurd (never x (a.0 x (subst (λ z. In z xs) (sym (same ∙ here)) in_xs))))
    (λ later. later) (there f (inr in_xs)))
    (λ f in_ys. ⊎_elim
    (λ (here : x ≡ f). absurd (never y (b.0 y (subst (λ z. In z ys) (sym (sym same ∙ here)) in_ys))))
    (λ later. later) (back f (inr in_ys))) i
  where
    first : x ≡ y
    first = ⊎_elim
        (λ (here : y ≡ x). sym here)
        (λ later. ⊎_elim (λ (here : x ≡ y). here) (λ earlier. absurd (not_both x y (a.0 y earlier) (b.0 x later))) (back y (inl refl)))
        (there x (inl refl))

-- Lists with the same lines are ordered as one list.
pub ordered_same : (fs gs : List Fault) → ((f : Fault) → In f fs → In f gs) → ((f : Fault) → In f gs → In f fs) → ordered fs ≡ ordered gs
ordered_same fs gs there back = same_strict (ordered fs) (ordered gs) (ordered_strict fs) (ordered_strict gs)
    (λ f is. in_ordered gs f (there f (from_ordered fs f is))) (λ f is. in_ordered fs f (back f (from_ordered gs f is)))

-- the keys of a set are strict
pub strict_keys : (keys : List Fault) → IsStrictlySortedBy fault_cmp keys → IsStrict keys
unfolding IsStrictlySortedBy
strict_keys [] sorted = tt
strict_keys (k ∷ ks) sorted = (below ks sorted.0, strict_keys ks sorted.1)
  where
    below : (gs : List Fault) → AllByRecursion (λ g. fault_cmp k g ≡ Less) gs → (g : Fault) → In g gs → fault_cmp k g ≡ Less
    below [] all g there = absurd there
    below (h ∷ hs) all g there = ⊎_elim (λ (here : h ≡ g). subst (λ f. fault_cmp k f ≡ Less) here all.0) (λ later. below hs all.1 g later) there

-- A strict list of just these lines is the list of them in their order.
pub ordered_as : (fs keys : List Fault) → IsStrict keys → ((f : Fault) → In f keys → In f fs) → ((f : Fault) → In f fs → In f keys) → keys ≡ ordered fs
ordered_as fs keys strict there back = same_strict keys (ordered fs) strict (ordered_strict fs)
    (λ f is. in_ordered fs f (there f is)) (λ f is. back f (from_ordered fs f is))
