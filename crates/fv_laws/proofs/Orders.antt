-- The orders of keys are total, and what they don't tell apart is one key.
use Rattle.std.proofs.Common.{◌≡◌, ℕ, Less, Equal, Greater, refl, rules, ap, List, get_or, arith}
use Rattle.std.specs.declared.cmp.Ordering.{Ordering}
use Rattle.std.specs.Ordering.{nat_cmp, ordering_then}
use Rattle.std.specs.Cmp.{IsTotalOrder}
use Rattle.std.specs.Cmp.Rules.{comparing}
use Rattle.std.specs.FinMap as fin
use Rattle.fv_model.specs.Spelling.{name_cmp}
use Rattle.fv_model.specs.Trees.{spot_cmp}
use Rattle.fv_model.specs.Places.{Owner, InodeFile, OfFile, rank, numbers, place_cmp, id_cmp}

pub both_equal : (r s : Ordering) → ordering_then r s ≡ Equal → (r ≡ Equal) × (s ≡ Equal)
both_equal Less s e = (e, cc)
both_equal Equal s e = (refl, e)
both_equal Greater s e = (e, cc)

pub name_ties : fin.IsAntisymmetric name_cmp
name_ties = fin.slice_cmp-IsAntisymmetric fin.nat_cmp-IsAntisymmetric

pub name_total : IsTotalOrder name_cmp
name_total = search (comparing, rules)

pub spot_total : IsTotalOrder spot_cmp
spot_total = search (comparing, rules)

pub spot_ties : fin.IsAntisymmetric spot_cmp
spot_ties x y e =
    let both : (nat_cmp x.0 y.0 ≡ Equal) × (nat_cmp x.1 y.1 ≡ Equal) = both_equal _ _ e in
    λ i. (fin.nat_cmp-IsAntisymmetric x.0 y.0 both.0 i, fin.nat_cmp-IsAntisymmetric x.1 y.1 both.1 i)

pub same_owner : (o p : Owner) → rank o ≡ rank p → o ≡ p
same_owner InodeFile InodeFile e = refl
same_owner InodeFile (OfFile n) e = absurd (omega arith)
same_owner (OfFile n) InodeFile e = absurd (omega arith)
same_owner (OfFile n) (OfFile m) e = let k : n ≡ m = omega arith in ap OfFile k

pub place_total : IsTotalOrder place_cmp
place_total = search (comparing, rules)

pub place_ties : fin.IsAntisymmetric place_cmp
place_ties x y e =
    let same : numbers x ≡ numbers y = fin.slice_cmp-IsAntisymmetric fin.nat_cmp-IsAntisymmetric (numbers x) (numbers y) e in
    let owner : x.owner ≡ y.owner = same_owner x.owner y.owner (ap (λ (l : List ℕ). get_or l 0 0) same) in
    λ i. record { owner = owner i; level = ap (λ (l : List ℕ). get_or l 1 0) same i; index = ap (λ (l : List ℕ). get_or l 2 0) same i }

pub id_total : IsTotalOrder id_cmp
id_total = search (comparing, rules)

pub id_ties : fin.IsAntisymmetric id_cmp
id_ties x y e =
    let both : (place_cmp x.0 y.0 ≡ Equal) × (nat_cmp x.1 y.1 ≡ Equal) = both_equal _ _ e in
    λ i. (place_ties x.0 y.0 both.0 i, fin.nat_cmp-IsAntisymmetric x.1 y.1 both.1 i)
