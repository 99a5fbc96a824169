-- What a volume is charged for, by the positions of its active table.
use Rattle.std.proofs.Common.{◌≡◌, ℕ, ◌+◌, ◌*◌, Bool, true, false, not, ◌&&◌, ◌||◌, List, [], ◌∷◌, length, map, filter, flat_map, Option, Some, None, inl, inr, refl, sym, ap, subst, ◌∙◌, arith}
use Rattle.std.proofs.Math.Bool.{or-false, and-true}
use Rattle.std.specs.List.{list_any}
use Rattle.std.specs.Option.{option_map_or}
use Rattle.std.specs.Ordering.{eq_by_cmp}
use Rattle.std.specs.Cmp.{both_ways}
use Rattle.std.specs.FinMap as fin
use Rattle.std.specs.FinSet as set
use Rattle.fv_model.specs.Spelling.{name_cmp}
use Rattle.fv_model.specs.Tables.{Table}
use Rattle.fv_model.specs.Places.{Place, place_cmp, Id, id_cmp, Ids, ids_of, stamps_of}
use Rattle.fv_model.specs.Volumes.{Base, Volume}
use Rattle.fv_model.specs.Space.{map_blocks, ids_in_any, ids_left_out, kept_ids, charge}
use Rattle.fv_model.specs.Effects.{stamped}
use Rattle.fv_laws.specs.Positions.{positions, IsAlone, settled_ids, id_at, IsAlong, IsNextNew, staying}
use Rattle.fv_laws.proofs.Orders.{id_total, id_ties, place_total, place_ties}
use Rattle.fv_laws.proofs.Lists.{In, any_in, in_any, in_filter, from_filter, in_flat_map, from_flat_map}
use Rattle.fv_laws.proofs.Ids.{is_stamp, contains-ids}
use Rattle.fv_laws.proofs.Counts.{len_union, len_difference}
use Rattle.fv_laws.proofs.Paths.{stamp_is, is_there}
use Rattle.fv_laws.proofs.Positions.{positions_are, len_ids}

pub ids_are : (t : Table) → set.len (ids_of t) ≡ positions t
ids_are t = len_ids (stamps_of t) ∙ positions_are t

-- ---- a volume alone

no_values : fin.values (fin.empty {K = List ℕ} {X = Table} {R = name_cmp}) ≡ []
no_values = ap (map (λ (e : List ℕ × Table). e.1)) (nil _ (sym (fin.len-entries (fin.empty {K = List ℕ} {X = Table} {R = name_cmp})) ∙ fin.len-empty name_cmp Table))
  where
    nil : (es : List (List ℕ × Table)) → length es ≡ 0 → es ≡ []
    nil [] e = refl
    nil (x ∷ es) e = absurd (omega arith)

pub kept_none : (x : Volume) → IsAlone x → (q : Id) → set.contains (kept_ids x) q ≡ false
kept_none x alone q = ap (λ m. set.contains (ids_in_any (fin.values m)) q) alone.snapshots ∙ ap (λ ts. set.contains (ids_in_any ts) q) no_values ∙ set.contains-empty id_cmp q

pub out_none : (x : Volume) → IsAlone x → (q : Id) → set.contains (ids_left_out x.base) q ≡ false
out_none x alone q = ap (λ (b : Option Base). set.contains (ids_left_out b) q) alone.base ∙ set.contains-empty id_cmp q

-- Without snapshots and base a volume is charged for its positions.
pub charge_by_positions : (x : Volume) → IsAlone x → charge x ≡ positions x.active
unfolding charge
charge_by_positions x alone =
    let none : fin.len (fin.empty {K = List ℕ} {X = Table} {R = name_cmp}) ≡ 0 = fin.len-empty name_cmp Table in
    let maps : map_blocks x.span * fin.len x.snapshots ≡ map_blocks x.span * 0 = ap (λ m. map_blocks x.span * fin.len m) alone.snapshots ∙ ap (λ n. map_blocks x.span * n) none in
    let count : set.len (set.difference (set.union (ids_of x.active) (kept_ids x)) (ids_left_out x.base)) ≡ set.len (ids_of x.active) =
    ap set.len (set.same_set id_total id_ties _ _ (λ q.
    set.contains-difference id_total (set.union (ids_of x.active) (kept_ids x)) (ids_left_out x.base) q
    ∙ (λ i. (set.contains-union id_total (ids_of x.active) (kept_ids x) q ∙ ap (λ b. set.contains (ids_of x.active) q || b) (kept_none x alone q) ∙ or-false (set.contains (ids_of x.active) q)) i && not (out_none x alone q i))
    ∙ and-true (set.contains (ids_of x.active) q))) in
    sums _ _ _ _ count (ids_are x.active) (maps ∙ nothing (map_blocks x.span))
  where
    nothing : (n : ℕ) → n * 0 ≡ 0
    nothing n = grind (arith)

    sums : (a b c d : ℕ) → a ≡ b → b ≡ c → d ≡ 0 → a + d ≡ c
    sums a b c d first second third = omega (arith, first, second, third)

-- ---- every volume

-- a member of a set that is a union of others less others: a in the table, k in snapshots, e left out
split_charge : (a k e : Bool) → ((a || k) && not e) ≡ ((k && not e) || (a && not (k || e)))
split_charge true true true = refl
split_charge true true false = refl
split_charge true false true = refl
split_charge true false false = refl
split_charge false true true = refl
split_charge false true false = refl
split_charge false false e = refl

split_apart : (a k e : Bool) → ((a && not (k || e)) && not (k && not e)) ≡ (a && not (k || e))
split_apart true true e = refl
split_apart true false true = refl
split_apart true false false = refl
split_apart false k e = refl

-- The charge is that of the snapshots, and one for each id of the active table that isn't settled.
module _ (x : Volume) where
  abbrev rest_ids : Ids
  rest_ids = set.difference (kept_ids x) (ids_left_out x.base)

  pub charge_split : charge x ≡ set.len rest_ids + set.len (set.difference (ids_of x.active) (settled_ids x)) + map_blocks x.span * fin.len x.snapshots
  unfolding charge
  charge_split =
      let own : Ids = set.difference (ids_of x.active) (settled_ids x) in
      let whole : set.difference (set.union (ids_of x.active) (kept_ids x)) (ids_left_out x.base) ≡ set.union rest_ids own = set.same_set id_total id_ties _ _ (λ q.
      set.contains-difference id_total (set.union (ids_of x.active) (kept_ids x)) (ids_left_out x.base) q
      ∙ ap (λ b. b && not (set.contains (ids_left_out x.base) q)) (set.contains-union id_total (ids_of x.active) (kept_ids x) q)
      ∙ split_charge (set.contains (ids_of x.active) q) (set.contains (kept_ids x) q) (set.contains (ids_left_out x.base) q)
      ∙ sym (set.contains-union id_total rest_ids own q ∙ (λ i. set.contains-difference id_total (kept_ids x) (ids_left_out x.base) q i || in_own q i))) in
      let apart : set.difference own rest_ids ≡ own = set.same_set id_total id_ties _ _ (λ q.
      set.contains-difference id_total own rest_ids q
      ∙ (λ i. in_own q i && not (set.contains-difference id_total (kept_ids x) (ids_left_out x.base) q i))
      ∙ split_apart (set.contains (ids_of x.active) q) (set.contains (kept_ids x) q) (set.contains (ids_left_out x.base) q) ∙ sym (in_own q)) in
      let sum = len_union id_total id_ties rest_ids own in
      let all : set.len (set.difference (set.union (ids_of x.active) (kept_ids x)) (ids_left_out x.base)) ≡ set.len rest_ids + set.len own = ap set.len whole ∙ sum ∙ ap (λ s. set.len rest_ids + set.len s) apart in
      ap (λ n. n + map_blocks x.span * fin.len x.snapshots) all
    where
      in_own : (q : Id) → set.contains (set.difference (ids_of x.active) (settled_ids x)) q ≡ (set.contains (ids_of x.active) q && not (set.contains (kept_ids x) q || set.contains (ids_left_out x.base) q))
      in_own q = set.contains-difference id_total (ids_of x.active) (settled_ids x) q ∙ ap (λ b. set.contains (ids_of x.active) q && not b) (set.contains-union id_total (kept_ids x) (ids_left_out x.base) q)

-- ---- a change along a path

true_both : (a b : Bool) → (a && b) ≡ true → (a ≡ true) × (b ≡ true)
true_both true b e = (refl, e)
true_both false b e = absurd cc

both : (a b : Bool) → a ≡ true → b ≡ true → (a && b) ≡ true
both a b e d = λ i. e i && d i

left_of : (a b : Bool) → a ≡ true → (a || b) ≡ true
left_of a b e = ap (λ c. c || b) e

right_of : (a b : Bool) → b ≡ true → (a || b) ≡ true
right_of true b e = refl
right_of false b e = e

one_of : (a b : Bool) (P : Type 0) → (a ≡ true → P) → (b ≡ true → P) → (a || b) ≡ true → P
one_of true b P left right e = left refl
one_of false b P left right e = right e

none_both : (g k : Bool) → (g ≡ true → k ≡ true → ⊥) → (g && not k) ≡ g
none_both true true h = absurd (h refl refl)
none_both true false h = refl
none_both false k h = refl

pub in_id : (t : Table) (p : Place) (q : Id) → In q (id_at t p) → (p ≡ q.0) × (fin.get (stamps_of t) q.0 ≡ Some q.1)
in_id t p q h = so (fin.get (stamps_of t) p) refl h
  where
    so : (o : Option ℕ) → fin.get (stamps_of t) p ≡ o → In q (option_map_or (λ s. (p, s) ∷ []) o []) → (p ≡ q.0) × (fin.get (stamps_of t) q.0 ≡ Some q.1)
    so None e h = absurd h
    so (Some s) e (inl same) = let place : p ≡ q.0 = ap (λ (i : Id). i.0) same in (place, ap (fin.get (stamps_of t)) (sym place) ∙ e ∙ ap (λ (i : Id). Some i.1) same)
    so (Some s) e (inr h) = absurd h

pub id_in : (t : Table) (q : Id) → fin.get (stamps_of t) q.0 ≡ Some q.1 → In q (id_at t q.0)
id_in t q e = subst (λ (o : Option ℕ). In q (option_map_or (λ s. (q.0, s) ∷ []) o [])) (sym e) (inl refl)

module _ (x : Volume) (table : ℕ → Table) (path : List Place) (along : IsAlong (x.now + 1) path x.active (table (x.now + 1))) (new : IsNextNew x) where
  abbrev t : Table
  t = x.active

  abbrev after : Table
  after = table (x.now + 1)

  abbrev S : Ids
  S = settled_ids x

  abbrev replaced : List Id
  replaced = filter (set.contains S) (flat_map (id_at t) path)

  abbrev St : Ids
  St = set.from_list replaced

  abbrev on : Place → Bool
  on p = list_any (eq_by_cmp place_cmp p) path

  has : (u : Table) (q : Id) → set.contains (ids_of u) q ≡ true → fin.get (stamps_of u) q.0 ≡ Some q.1
  has u q h = stamp_is q.1 (fin.get (stamps_of u) q.0) (sym (contains-ids (stamps_of u) q.0 q.1) ∙ h)

  there : (u : Table) (q : Id) → fin.get (stamps_of u) q.0 ≡ Some q.1 → set.contains (ids_of u) q ≡ true
  there u q e = contains-ids (stamps_of u) q.0 q.1 ∙ is_there q.1 (fin.get (stamps_of u) q.0) e

  -- what was replaced
  from_replaced : (q : Id) → set.contains St q ≡ true → (on q.0 ≡ true) × (set.contains (ids_of t) q ≡ true) × (set.contains S q ≡ true)
  from_replaced q h =
      let one = from_filter (set.contains S) q (flat_map (id_at t) path) (any_in id_ties q replaced (sym (set.contains-from_list id_total replaced q) ∙ h)) in
      let at = from_flat_map (id_at t) q path one.0 in
      let id = in_id t at.0 q at.2 in
      (in_any place_total q.0 path (subst (λ (p : Place). In p path) id.0 at.1), there t q id.1, one.1)

  is_replaced : (q : Id) → on q.0 ≡ true → set.contains (ids_of t) q ≡ true → set.contains S q ≡ true → set.contains St q ≡ true
  is_replaced q path_has stood settled =
      set.contains-from_list id_total replaced q
      ∙ in_any id_total q replaced (in_filter (set.contains S) q (flat_map (id_at t) path) (in_flat_map (id_at t) q.0 q path (any_in place_ties q.0 path path_has) (id_in t q (has t q stood))) settled)

  -- a settled id that stands after the change isn't on the path
  not_new : (q : Id) → set.contains (ids_of after) q ≡ true → set.contains S q ≡ true → on q.0 ≡ false
  not_new q stands settled = so (on q.0) refl
    where
      so : (b : Bool) → on q.0 ≡ b → b ≡ false
      so false e = refl
      so true e =
          let stamp : q.1 ≡ x.now + 1 = along.on q.0 q.1 e (has after q stands) in
          sym settled ∙ ap (λ (s : ℕ). set.contains S (q.0, s)) stamp ∙ new q.0

  same_off : (q : Id) → on q.0 ≡ false → set.contains (ids_of after) q ≡ set.contains (ids_of t) q
  same_off q off = contains-ids (stamps_of after) q.0 q.1 ∙ ap (is_stamp q.1) (along.off q.0 off) ∙ sym (contains-ids (stamps_of t) q.0 q.1)

  abbrev old_settled : Ids
  old_settled = set.intersection (ids_of t) S

  abbrev now_settled : Ids
  now_settled = set.intersection (ids_of after) S

  forward : (q : Id) → (set.contains now_settled q || set.contains St q) ≡ true → set.contains old_settled q ≡ true
  forward q h = set.contains-intersection id_total (ids_of t) S q ∙ one_of (set.contains now_settled q) (set.contains St q) ((set.contains (ids_of t) q && set.contains S q) ≡ true)
      (λ e. let two = true_both (set.contains (ids_of after) q) (set.contains S q) (sym (set.contains-intersection id_total (ids_of after) S q) ∙ e) in
      both _ _ (sym (same_off q (not_new q two.0 two.1)) ∙ two.0) two.1)
      (λ e. let was = from_replaced q e in both _ _ was.1 was.2) h

  backward : (q : Id) → set.contains old_settled q ≡ true → (set.contains now_settled q || set.contains St q) ≡ true
  backward q h = let two = true_both (set.contains (ids_of t) q) (set.contains S q) (sym (set.contains-intersection id_total (ids_of t) S q) ∙ h) in so two.0 two.1 (on q.0) refl
    where
      so : set.contains (ids_of t) q ≡ true → set.contains S q ≡ true → (b : Bool) → on q.0 ≡ b → (set.contains now_settled q || set.contains St q) ≡ true
      so stood settled true e = right_of _ _ (is_replaced q e stood settled)
      so stood settled false e = left_of _ _ (set.contains-intersection id_total (ids_of after) S q ∙ both _ _ (same_off q e ∙ stood) settled)

  whole : set.union now_settled St ≡ old_settled
  whole = set.same_set id_total id_ties _ _ (λ q. set.contains-union id_total now_settled St q ∙ both_ways _ _ (forward q) (backward q))

  apart : set.difference St now_settled ≡ St
  apart = set.same_set id_total id_ties _ _ (λ q. set.contains-difference id_total St now_settled q ∙ none_both (set.contains St q) (set.contains now_settled q) (λ e d.
      let was = from_replaced q e in
      let two = true_both (set.contains (ids_of after) q) (set.contains S q) (sym (set.contains-intersection id_total (ids_of after) S q) ∙ d) in
      let wrong : false ≡ true = sym (not_new q two.0 two.1) ∙ was.0 in absurd cc))

  -- The charge moves with the positions; and a settled id that is replaced or removed stays charged, or wasn't.
  pub charge_after : charge (stamped x table) + positions t ≡ charge x + positions after + staying x path
  unfolding staying
  charge_after =
      let before = charge_split x in
      let now_is = charge_split (stamped x table) in
      let old = len_difference id_total id_ties (ids_of t) S in
      let next = len_difference id_total id_ties (ids_of after) S in
      let some : set.len old_settled ≡ set.len now_settled + set.len St = ap set.len (sym whole) ∙ len_union id_total id_ties now_settled St ∙ ap (λ s. set.len now_settled + set.len s) apart in
      let was_all = ids_are t in
      let is_all = ids_are after in
      sums (set.len (ids_of t)) (set.len (ids_of after)) (set.len old_settled) (set.len now_settled) (set.len St) (set.len (set.difference (ids_of t) S)) (set.len (set.difference (ids_of after) S)) (set.len (rest_ids x)) (map_blocks x.span * fin.len x.snapshots)
      was_all is_all old next some before now_is
    where
      sums : {c d p q : ℕ} (a b u v st e f r m : ℕ) → a ≡ p → b ≡ q → e + u ≡ a → f + v ≡ b → u ≡ v + st → c ≡ r + e + m → d ≡ r + f + m → d + p ≡ c + q + st
      sums a b u v st e f r m e1 e2 e3 e4 e5 e6 e7 = omega (arith, e1, e2, e3, e4, e5, e6, e7)
