-- Items by their VVBNs: where ids and VVBNs are one to one, there are as many VVBNs as ids.
use Rattle.std.proofs.Common.{◌≡◌, ℕ, ◌<◌, ◌⊎◌, Bool, true, false, not, List, [], ◌∷◌, ◌++◌, map, inl, inr, refl, sym, ap, subst, ◌∙◌, arith}
use Rattle.std.specs.Prelude.{Option, Some, ◌||◌, ◌==◌, find, count_by, if◌then◌else◌}
use Rattle.std.specs.List.{list_all, range_with_len}
use Rattle.std.specs.Option.{option_map_or}
use Rattle.std.specs.Ordering.{eq_by_cmp}
use Rattle.std.specs.FinSet as set
use Rattle.std.proofs.lemmas.Bool.{and_parts, and_from, not-true, not_from_false, false_from_ne_true}
use Rattle.std.proofs.lemmas.Bool.Decides.{nat_tests}
use Rattle.std.proofs.lemmas.Cmp.{eq_by_cmp_equiv}
use Rattle.fv_model.specs.Places.{Id, id_cmp}
use Rattle.fv_laws.proofs.Orders.{id_total, id_ties}
use Rattle.fv_laws.proofs.Lists.{In, in_left, in_right, in_map, from_map}
use Rattle.fv_laws.proofs.Tests.{iff, from_any, to_any, from_all}
use Rattle.fv_laws.proofs.Exact.{Found, count_exact}
use Rattle.fv_tables.specs.Spelled.{hole}
use Rattle.fv_tables.specs.Reached.{Item, is_listed}
use Rattle.fv_tables.specs.Ids.{id_of, ids_in, is_charged}
use Rattle.fv_tables.proofs.Lists.{tied}

-- ---- one item for each VVBN

abbrev none_there : Item
none_there = record { owner = 0; levels = 0; level = 0; place = 0; pointer = hole; holder = hole }

-- the first item with a VVBN
unfoldable pub picked : List Item → ℕ → Item
picked es v = option_map_or (λ e. e) (find (λ e. e.pointer.vvbn == v) es) none_there

pub picked_in : (es : List Item) (v : ℕ) → is_listed es v ≡ true → In (picked es v) es × ((picked es v).pointer.vvbn ≡ v)
unfolding picked
picked_in [] v there = absurd cc
picked_in (e ∷ es) v there = so (picked_in es v) (e.pointer.vvbn == v) refl there
  where
    first : Option Item → Item
    first o = option_map_or (λ e. e) o none_there

    so : (is_listed es v ≡ true → In (first (find (λ e. e.pointer.vvbn == v) es)) es × ((first (find (λ e. e.pointer.vvbn == v) es)).pointer.vvbn ≡ v)) → (here : Bool) → (e.pointer.vvbn == v) ≡ here → (here || is_listed es v) ≡ true
        → ((e ≡ first (if here then Some e else find (λ e. e.pointer.vvbn == v) es)) ⊎ In (first (if here then Some e else find (λ e. e.pointer.vvbn == v) es)) es)
        × ((first (if here then Some e else find (λ e. e.pointer.vvbn == v) es)).pointer.vvbn ≡ v)
    so rest true is there = (inl refl, grind (arith, nat_tests, is))
    so rest false is there = let found = rest there in (inr found.0, found.1)

pub picked_is : (es : List Item) (v : ℕ) → is_listed es v ≡ true → (picked es v).pointer.vvbn ≡ v
picked_is es v there = (picked_in es v there).1

pub picked_all : (test : Item → Bool) (es : List Item) (v : ℕ) → is_listed es v ≡ true → list_all test es ≡ true → test (picked es v) ≡ true
picked_all test es v there all = from_all test es all (picked es v) (picked_in es v there).0

-- an item's VVBN is listed, and a listed one is that of an item
pub listed_in : (es : List Item) (e : Item) → In e es → is_listed es e.pointer.vvbn ≡ true
listed_in es e there = to_any (λ d. d.pointer.vvbn == e.pointer.vvbn) e es there (itself e.pointer.vvbn)
  where
    itself : (n : ℕ) → (n == n) ≡ true
    itself n = grind (arith, nat_tests)

-- ---- ids

pub in_ids : (es : List Item) (e : Item) → In e es → set.contains (ids_in es) (id_of e) ≡ true
in_ids es e there = set.contains-from_list id_total (map id_of es) (id_of e) ∙ to_any (eq_by_cmp id_cmp (id_of e)) (id_of e) (map id_of es) (in_map id_of e es there) ((eq_by_cmp_equiv id_total).refl (id_of e))

pub from_ids : (es : List Item) (q : Id) → set.contains (ids_in es) q ≡ true → (e : Item) × (In e es × (id_of e ≡ q))
from_ids es q there =
    let found = from_any (eq_by_cmp id_cmp q) (map id_of es) (sym (set.contains-from_list id_total (map id_of es) q) ∙ there) in
    let item = from_map id_of found.0 es found.1.0 in
    (item.0, (item.1, item.2 ∙ sym (tied id_cmp id_ties q found.0 found.1.1)))

-- Equal VVBNs have equal ids, and equal ids equal VVBNs.
pub record IsOneToOne (es : List Item) : Type 0 where
  pub ids : (a b : Item) → In a es → In b es → a.pointer.vvbn ≡ b.pointer.vvbn → id_of a ≡ id_of b
  pub vvbns : (a b : Item) → In a es → In b es → id_of a ≡ id_of b → a.pointer.vvbn ≡ b.pointer.vvbn

module _ (es out : List Item) (one : IsOneToOne (es ++ out)) where
  -- a VVBN of both has the id of both, and an id of both its VVBN
  pub out_has : (e : Item) → In e es → is_listed out e.pointer.vvbn ≡ set.contains (ids_in out) (id_of e)
  out_has e there = iff (is_listed out e.pointer.vvbn) (set.contains (ids_in out) (id_of e))
      (λ listed. let found = picked_in out e.pointer.vvbn listed in
      subst (λ (q : Id). set.contains (ids_in out) q ≡ true) (one.ids (picked out e.pointer.vvbn) e (in_right _ es out found.0) (in_left e es out there) found.1) (in_ids out (picked out e.pointer.vvbn) found.0))
      (λ contained. let found = from_ids out (id_of e) contained in
      subst (λ (v : ℕ). is_listed out v ≡ true) (one.vvbns found.0 e (in_right _ es out found.1.0) (in_left e es out there) found.1.1) (listed_in out found.0 found.1.0))

  apart : (v k : ℕ) → is_charged es out v ≡ true → is_charged es out k ≡ true → v < k → eq_by_cmp id_cmp (id_of (picked es k)) (id_of (picked es v)) ≡ false
  apart v k a b lt = false_from_ne_true _ (λ same.
      let here = picked_in es v (and_parts (is_listed es v) _ a).0 in
      let there = picked_in es k (and_parts (is_listed es k) _ b).0 in
      let vvbns : (picked es k).pointer.vvbn ≡ (picked es v).pointer.vvbn = one.vvbns (picked es k) (picked es v) (in_left _ es out there.0) (in_left _ es out here.0) (tied id_cmp id_ties _ _ same) in
      absurd (omega (arith, vvbns, here.1, there.1, lt)))

  inside : (v : ℕ) → is_charged es out v ≡ true → set.contains (set.difference (ids_in es) (ids_in out)) (id_of (picked es v)) ≡ true
  inside v is =
      let parts = and_parts (is_listed es v) (not (is_listed out v)) is in
      let here = picked_in es v parts.0 in
      let none : set.contains (ids_in out) (id_of (picked es v)) ≡ false = sym (out_has (picked es v) here.0) ∙ ap (is_listed out) here.1 ∙ not-true (is_listed out v) parts.1 in
      set.contains-difference id_total (ids_in es) (ids_in out) (id_of (picked es v)) ∙ and_from (set.contains (ids_in es) (id_of (picked es v))) _ (in_ids es (picked es v) here.0) (not_from_false _ none)

  found : (count : ℕ) → ((e : Item) → In e es → e.pointer.vvbn < count) → (k : Id) → set.contains (set.difference (ids_in es) (ids_in out)) k ≡ true → Found id_cmp (is_charged es out) (λ v. id_of (picked es v)) 0 count k
  found count below k there =
      let parts = and_parts (set.contains (ids_in es) k) (not (set.contains (ids_in out) k)) (sym (set.contains-difference id_total (ids_in es) (ids_in out) k) ∙ there) in
      let item = from_ids es k parts.0 in
      let e = item.0 in
      let listed = listed_in es e item.1.0 in
      let none : is_listed out e.pointer.vvbn ≡ false = out_has e item.1.0 ∙ ap (set.contains (ids_in out)) item.1.1 ∙ not-true (set.contains (ids_in out) k) parts.1 in
      let first = picked_in es e.pointer.vvbn listed in
      let id : id_of (picked es e.pointer.vvbn) ≡ k = one.ids (picked es e.pointer.vvbn) e (in_left _ es out first.0) (in_left e es out item.1.0) first.1 ∙ item.1.1 in
      record {
        at = e.pointer.vvbn;
        low = omega arith;
        high = let low = below e item.1.0 in omega (arith, low);
        passes = and_from (is_listed es e.pointer.vvbn) _ listed (not_from_false _ none);
        same = ap (eq_by_cmp id_cmp k) id ∙ (eq_by_cmp_equiv id_total).refl k;
      }

  -- As many VVBNs are listed, without those of others, as there are ids without theirs.
  pub listed_exact : (count : ℕ) → ((e : Item) → In e es → e.pointer.vvbn < count) → count_by (is_charged es out) (range_with_len 0 count) ≡ set.len (set.difference (ids_in es) (ids_in out))
  listed_exact count below = count_exact id_total (is_charged es out) (λ v. id_of (picked es v)) id_ties apart 0 count (set.difference (ids_in es) (ids_in out)) (λ v low high is. inside v is) (found count below)
