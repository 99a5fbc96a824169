-- How many ids a table has: as many as its root reaches VVBNs, where its walk finds nothing.
use Rattle.std.proofs.Common.{◌≡◌, ℕ, ◌+◌, ◌-◌, ◌<◌, ◌≤◌, Bool, true, false, not, List, [], ◌∷◌, ◌++◌, length, refl, sym, ap, subst, ◌∙◌, arith}
use Rattle.std.specs.Prelude.{◌&&◌, ◌||◌, ◌==◌}
use Rattle.std.specs.List.{list_all}
use Rattle.std.specs.Option.{is_some}
use Rattle.std.specs.FinSet as set
use Rattle.std.proofs.lemmas.Bool.{and_parts, and_from}
use Rattle.std.proofs.lemmas.Bool.Decides.{nat_tests}
use Rattle.std.proofs.lemmas.List.{append-nil}
use Rattle.std.proofs.lemmas.List.Folds.{list_all-map}
use Rattle.fv_bits.specs.Members.{is_member, count_between, count_of}
use Rattle.fv_bits.proofs.Counts.{passing, passing_same}
use Rattle.fv_laws.proofs.Lists.{In}
use Rattle.fv_laws.proofs.Orders.{id_total, id_ties}
use Rattle.fv_laws.proofs.Tests.{from_all}
use Rattle.fv_model.specs.Places.{id_cmp, ids_of}
use Rattle.fv_tables.specs.Ids.{ids_in, is_charged}
use Rattle.fv_tables.specs.Reached.{Item, items, is_listed}
use Rattle.fv_tables.proofs.Listed.{IsOneToOne, listed_exact}
use Rattle.fv_image.specs.BlockRules.{agree}
use Rattle.fv_image.specs.ReachRules.{is_same_position}
use Rattle.fv_image.specs.Seen.{Reached, reached_at}
use Rattle.fv_image.specs.TableRules.{has_same_id}
use Rattle.fv_image.specs.Views.{Rooted}
use Rattle.fv_image.specs.Volumes.{standing_of, table_at}
use Rattle.fv_image.proofs.CountedCharge.{root_ids}
use Rattle.fv_image.proofs.OwnIds.{one_id, one_vvbn}
use Rattle.fv_faults.specs.Met.{IsClean, Spot, met}
use Rattle.fv_faults.specs.Walks.{Ground, steps}
use Rattle.fv_faults.proofs.Members.{all_met}
use Rattle.fv_faults.proofs.Positions.{IsDistinct}
use Rattle.fv_faults.proofs.Reached.{both_pass, reached, reached_once}
use Rattle.fv_faults.proofs.TableMembers.{reached_from}
use Rattle.fv_faults.proofs.TablePositions.{met_once}
use Rattle.fv_second_pass.specs.Reaching.{IsReach}
use Rattle.fv_second_pass.proofs.Listed.{bit_is}

-- ---- what is met twice is one

-- two pointers of one position have one stamp and one VVBN
abbrev alike : Item → Item → Bool
alike a b = not (is_same_position a b) || ((a.pointer.stamp == b.pointer.stamp) && (a.pointer.vvbn == b.pointer.vvbn))

itself : (n : ℕ) → (n == n) ≡ true
itself n = grind (arith, nat_tests)

swap : (a b : ℕ) → (a == b) ≡ (b == a)
swap a b = grind (arith, nat_tests)

alike_itself : (a : Item) → alike a a ≡ true
alike_itself a = so (is_same_position a a) (and_from (a.pointer.stamp == a.pointer.stamp) (a.pointer.vvbn == a.pointer.vvbn) (itself a.pointer.stamp) (itself a.pointer.vvbn))
  where
    so : (b : Bool) → ((a.pointer.stamp == a.pointer.stamp) && (a.pointer.vvbn == a.pointer.vvbn)) ≡ true → (not b || ((a.pointer.stamp == a.pointer.stamp) && (a.pointer.vvbn == a.pointer.vvbn))) ≡ true
    so true same = same
    so false same = refl

other_way : (a b : Item) → is_same_position a b ≡ is_same_position b a
other_way a b = λ i. swap a.owner b.owner i && (swap a.level b.level i && swap a.place b.place i)

apart_alike : (a b : Item) → not (is_same_position a b) ≡ true → (alike a b ≡ true) × (alike b a ≡ true)
apart_alike a b apart = (so (is_same_position a b) _ apart, so (is_same_position b a) _ (ap not (sym (other_way a b)) ∙ apart))
  where
    so : (s t : Bool) → not s ≡ true → (not s || t) ≡ true
    so true t apart = absurd cc
    so false t apart = refl

one_side : (a : Item) (ps : List Spot) → all_met (λ e. not (is_same_position a e)) ps ≡ true → (all_met (alike a) ps ≡ true) × (all_met (λ e. alike e a) ps ≡ true)
one_side a [] all = (refl, refl)
one_side a (p ∷ ps) all =
    let parts = and_parts (not (is_same_position a p.0)) _ all in
    let rest = one_side a ps parts.1 in
    let here = apart_alike a p.0 parts.0 in
    (and_from (alike a p.0) _ here.0 rest.0, and_from (alike p.0 a) _ here.1 rest.1)

all_alike : (g : Ground) (ps : List Spot) → IsDistinct ps → all_met (λ a. all_met (alike a) ps) ps ≡ true
all_alike g [] are = refl
all_alike g (p ∷ ps) are =
    let sides = one_side p.0 ps are.0 in
    and_from (alike p.0 p.0 && all_met (alike p.0) ps) _ (and_from (alike p.0 p.0) _ (alike_itself p.0) sides.0)
    (both_pass g (λ a. alike a p.0) (λ a. all_met (alike a) ps) ps sides.1 (all_alike g ps are.1))

-- ---- one to one

agreed : (s t v : Bool) → (not v || s) ≡ true → (not s || (t && v)) ≡ true → agree (s && t) v ≡ true
agreed true true true a b = refl
agreed true true false a b = absurd cc
agreed true false v a b = absurd cc
agreed false t true a b = absurd cc
agreed false t false a b = refl

module _ (g : Ground) (label : ℕ) (r : Rooted) (fits : r.levels ≤ 2) (clean : IsClean (steps g label r)) where
  abbrev es : List Item
  es = items (standing_of g.view g.slot r)

  met_alike : (ps : List Spot) → all_met (λ a. all_met (alike a) (met g label r)) ps ≡ true → all_met (λ a. list_all (alike a) es) ps ≡ true
  met_alike [] all = refl
  met_alike (p ∷ ps) all =
      let parts = and_parts (all_met (alike p.0) (met g label r)) _ all in
      and_from (list_all (alike p.0) es) _ (reached_from (alike p.0) g r label parts.0) (met_alike ps parts.1)

  pair : (a b : Item) → In a es → In b es → agree (has_same_id a b) (a.pointer.vvbn == b.pointer.vvbn) ≡ true
  pair a b first second =
      let positions : list_all (λ a. list_all (alike a) es) es ≡ true = reached_from (λ a. list_all (alike a) es) g r label (met_alike (met g label r) (all_alike g (met g label r) (met_once g r fits label))) in
      let stamps : alike a b ≡ true = from_all (alike a) es (from_all (λ a. list_all (alike a) es) es positions a first) b second in
      let all = sym (list_all-map (λ (x : Reached). is_there x && list_all (λ (y : Reached). apart x.item y.item) (reached g r)) (reached_at g.view g.slot) es) ∙ reached_once g label r clean in
      let one = (and_parts (is_there (reached_at g.view g.slot a)) _ (from_all (λ (e : Item). is_there (reached_at g.view g.slot e) && list_all (λ (y : Reached). apart e y.item) (reached g r)) es all a first)).1 in
      let vvbns : apart a b ≡ true = from_all (apart a) es (sym (list_all-map (λ (y : Reached). apart a y.item) (reached_at g.view g.slot) es) ∙ one) b second in
      agreed (is_same_position a b) (a.pointer.stamp == b.pointer.stamp) (a.pointer.vvbn == b.pointer.vvbn) vvbns stamps
    where
      is_there : Reached → Bool
      is_there x = is_some x.at

      apart : Item → Item → Bool
      apart a b = not (a.pointer.vvbn == b.pointer.vvbn) || is_same_position a b

  one_to_one : IsOneToOne (es ++ [])
  one_to_one = subst IsOneToOne (sym (append-nil es)) (record {
    ids = λ a b first second same. one_id a b (pair a b first second) same;
    vvbns = λ a b first second same. one_vvbn a b (pair a b first second) same;
  })

  without : set.difference (ids_in es) (ids_in []) ≡ ids_in es
  without = set.same_set id_total id_ties _ _ (λ q.
      set.contains-difference id_total (ids_in es) (ids_in []) q
      ∙ ap (λ (b : Bool). set.contains (ids_in es) q && not b) (set.contains-from_list id_total [] q)
      ∙ so (set.contains (ids_in es) q))
    where
      so : (b : Bool) → (b && not false) ≡ b
      so true = refl
      so false = refl

  -- It has as many ids as bits are set for what it reaches.
  pub ids_counted : (reach : List Bool) → IsReach g (steps g label r) reach → ((e : Item) → In e es → e.pointer.vvbn < g.span) → set.len (ids_of (table_at g.view g.slot r)) ≡ count_of reach
  unfolding count_of count_between
  ids_counted reach is below =
      ap (λ (q : set.FinSet id_cmp). set.len q) (root_ids g.view g.slot r fits ∙ sym without)
      ∙ sym (listed_exact es [] one_to_one g.span below)
      ∙ passing_same (is_charged es []) (is_member reach) 0 0 g.span (λ j lt. so (is_listed es (0 + j)) ∙ sym (bit_is g label r clean reach is (0 + j) (omega (arith, lt))))
      ∙ ap (passing (is_member reach) 0) (let long = is.size in let e : g.span ≡ length reach - 0 = omega (arith, long) in e)
    where
      so : (b : Bool) → (b && not false) ≡ b
      so true = refl
      so false = refl
