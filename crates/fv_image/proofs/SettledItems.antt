-- Which ids of a volume's active table stay charged when a change replaces them, or weren't charged: those under whose VVBNs a snapshot's
-- map has a bit, or the base's table reaches something that isn't charged.
use Rattle.std.proofs.Common.{◌≡◌, ◌≢◌, ℕ, ◌+◌, ◌/◌, ◌^◌, ◌<◌, Bool, true, false, not, List, ◌++◌, map, refl, sym, ap, subst, ◌∙◌, arith, ⊎_elim}
use Rattle.std.specs.Prelude.{Option, Some, None, ◌&&◌, ◌||◌, ◌==◌, count_by, if◌then◌else◌}
use Rattle.std.specs.List.{list_all, range_with_len}
use Rattle.std.specs.Option.{option_map_or}
use Rattle.std.specs.FinMap as fin
use Rattle.std.specs.FinSet as set
use Rattle.std.proofs.lemmas.Bool.{or_cases, or_left, or_right}
use Rattle.std.proofs.lemmas.Bool.Decides.{nat_tests}
use Rattle.fv_bits.proofs.Counts.{passing_same}
use Rattle.fv_codec.specs.declared.pointer.Pointer.{Pointer}
use Rattle.fv_model.specs.Spelling.{name_cmp}
use Rattle.fv_model.specs.Trees.{fan}
use Rattle.fv_model.specs.Tables.{Table}
use Rattle.fv_model.specs.Places.{Owner, placed, Id, Ids, ids_of, stamps_of}
use Rattle.fv_model.specs.Space.{kept_ids, ids_left_out}
use Rattle.fv_laws.specs.Positions.{settled_ids}
use Rattle.fv_laws.specs.Settled.{is_settled, settled_over}
use Rattle.fv_laws.proofs.Orders.{id_total, id_ties}
use Rattle.fv_laws.proofs.Release.{in_any}
use Rattle.fv_laws.proofs.Lists.{In, in_left, in_right, in_either, in_map, from_map, in_flat_map, from_flat_map}
use Rattle.fv_laws.proofs.Stamps.{get-stamps_of}
use Rattle.fv_laws.proofs.Tests.{iff, from_any, to_any, to_all}
use Rattle.fv_tables.specs.Reached.{Item, items, is_listed}
use Rattle.fv_tables.specs.Ids.{owner_of, id_of, ids_in}
use Rattle.fv_tables.proofs.Listed.{in_ids, from_ids, IsOneToOne, out_has}
use Rattle.fv_tables.proofs.TablePlaces.{pointer_in, at_place, stamp_is}
use Rattle.fv_tables.proofs.IdsTold.{owner_back}
use Rattle.fv_image.specs.Chains.{under}
use Rattle.fv_image.specs.Views.{Rooted, Snap, Head, View}
use Rattle.fv_image.specs.BlockRules.{agree}
use Rattle.fv_image.specs.Volumes.{standing_of, table_at, volume_with, volume_told}
use Rattle.fv_image.specs.Seen.{seen}
use Rattle.fv_image.specs.ReachRules.{has_pointers_in_range}
use Rattle.fv_image.specs.TableRules.{has_one_to_one}
use Rattle.fv_image.specs.VolumeRules.{has_distinct_snapshots}
use Rattle.fv_image.specs.Staying.{items_of, own_items}
use Rattle.fv_image.specs.Charged.{out_items}
use Rattle.fv_image.proofs.SoundFacts.{agree_same, agree_itself}
use Rattle.fv_image.proofs.OwnUses.{HasLabelNumbers, snap_found}
use Rattle.fv_image.proofs.CountedCharge.{HasParentNumbers, root_ids, snap_few, out_ids, told, kept_snap, distinct, one_to_one}

-- the ids of two lists are those of both
ids_append : (a b : List Item) (q : Id) → set.contains (ids_in (a ++ b)) q ≡ (set.contains (ids_in a) q || set.contains (ids_in b) q)
ids_append a b q = iff _ _
    (λ there. let e = from_ids (a ++ b) q there in ⊎_elim
    (λ first. or_left (set.contains (ids_in a) q) (set.contains (ids_in b) q) (subst (λ (k : Id). set.contains (ids_in a) k ≡ true) e.1.1 (in_ids a e.0 first)))
    (λ second. or_right (set.contains (ids_in a) q) (set.contains (ids_in b) q) (subst (λ (k : Id). set.contains (ids_in b) k ≡ true) e.1.1 (in_ids b e.0 second)))
    (in_either e.0 a b e.1.0))
    (λ there. ⊎_elim
    (λ (first : set.contains (ids_in a) q ≡ true). let e = from_ids a q first in subst (λ (k : Id). set.contains (ids_in (a ++ b)) k ≡ true) e.1.1 (in_ids (a ++ b) e.0 (in_left e.0 a b e.1.0)))
    (λ second. let e = from_ids b q second in subst (λ (k : Id). set.contains (ids_in (a ++ b)) k ≡ true) e.1.1 (in_ids (a ++ b) e.0 (in_right e.0 a b e.1.0)))
    (or_cases (set.contains (ids_in a) q) (set.contains (ids_in b) q) there))

module _ (w : View) (s : ℕ) (h : Head) (small : s < 64) (there : w.head s ≡ Some h) (numbers : HasLabelNumbers h) (parents : HasParentNumbers w h.base)
    (names : has_distinct_snapshots (seen w) ≡ true) (ids : has_one_to_one (seen w) ≡ true) (ranges : has_pointers_in_range (seen w) ≡ true) where
  -- what the snapshots reach
  abbrev pub kept_items : List Item
  kept_items = items_of w s (map (λ p. (p.slot, p.table)) h.snapshots)

  -- and what isn't charged
  abbrev pub settled_items : List Item
  settled_items = kept_items ++ out_items w h.base

  abbrev tables : fin.FinMap name_cmp Table
  tables = told w s h small there numbers parents names ids ranges

  -- The ids of the snapshots are those of what they reach,
  pub kept_told : (t : Table) → kept_ids (volume_with w s h t) ≡ ids_in kept_items
  unfolding volume_with
  kept_told t = set.same_set id_total id_ties _ _ (λ q. iff _ _ (there_from q) (back_from q))
    where
      there_from : (q : Id) → set.contains (kept_ids (volume_with w s h t)) q ≡ true → set.contains (ids_in kept_items) q ≡ true
      there_from q kept =
          let found = from_any (λ t. set.contains (ids_of t) q) (fin.values tables) (sym (in_any (fin.values tables) q) ∙ kept) in
          let snap = kept_snap w s h small there numbers parents names ids ranges found.0 found.1.0 in
          let id : set.contains (ids_of (table_at w s snap.0.table)) q ≡ true = ap (λ (t : Table). set.contains (ids_of t) q) snap.1.1 ∙ found.1.1 in
          let e = from_ids (items (standing_of w s snap.0.table)) q (ap (λ (i : Ids). set.contains i q) (sym (root_ids w s snap.0.table (snap_few w h numbers snap.0 snap.1.0))) ∙ id) in
          subst (λ (k : Id). set.contains (ids_in kept_items) k ≡ true) e.1.1 (in_ids kept_items e.0
          (in_flat_map (λ (r : ℕ × Rooted). items (standing_of w s r.1)) (snap.0.slot, snap.0.table) e.0 (map (λ p. (p.slot, p.table)) h.snapshots) (in_map (λ (p : Snap). (p.slot, p.table)) snap.0 h.snapshots snap.1.0) e.1.0))

      back_from : (q : Id) → set.contains (ids_in kept_items) q ≡ true → set.contains (kept_ids (volume_with w s h t)) q ≡ true
      back_from q one =
          let found = from_ids kept_items q one in
          let root = from_flat_map (λ (r : ℕ × Rooted). items (standing_of w s r.1)) found.0 (map (λ p. (p.slot, p.table)) h.snapshots) found.1.0 in
          let snap = from_map (λ (p : Snap). (p.slot, p.table)) root.0 h.snapshots root.1 in
          let here : In found.0 (items (standing_of w s snap.0.table)) = subst (λ (r : ℕ × Rooted). In found.0 (items (standing_of w s r.1))) (sym snap.2) root.2 in
          let id : set.contains (ids_of (table_at w s snap.0.table)) q ≡ true = ap (λ (i : Ids). set.contains i q) (root_ids w s snap.0.table (snap_few w h numbers snap.0 snap.1))
          ∙ subst (λ (k : Id). set.contains (ids_in (items (standing_of w s snap.0.table))) k ≡ true) found.1.1 (in_ids (items (standing_of w s snap.0.table)) found.0 here) in
          in_any (fin.values tables) q ∙ snap_found w s h.snapshots (λ t. set.contains (ids_of t) q) (distinct w s h small there numbers parents names ids ranges) (to_any (λ p. set.contains (ids_of (table_at w s p.table)) q) snap.0 h.snapshots snap.1 id)

  -- and the settled ones those of what is settled, whatever table is the active one.
  pub settled_told : (t : Table) → settled_ids (volume_with w s h t) ≡ ids_in settled_items
  unfolding volume_with
  settled_told t = set.same_set id_total id_ties _ _ (λ q.
      set.contains-union id_total (kept_ids (volume_with w s h t)) (ids_left_out (volume_with w s h t).base) q
      ∙ (λ i. set.contains (kept_told t i) q || set.contains (out_ids w h.base parents i) q)
      ∙ sym (ids_append kept_items (out_items w h.base) q))

  one : IsOneToOne (own_items w s h ++ settled_items)
  one = record {
    ids = λ a b first second same. all.ids a b (within a first) (within b second) same;
    vvbns = λ a b first second same. all.vvbns a b (within a first) (within b second) same;
  }
    where
      all : IsOneToOne (own_items w s h ++ out_items w h.base)
      all = one_to_one w s h small there numbers parents names ids ranges

      own : (e : Item) → In e (own_items w s h) → In e (own_items w s h ++ out_items w h.base)
      own e here = in_left e (own_items w s h) (out_items w h.base) here

      within : (e : Item) → In e (own_items w s h ++ settled_items) → In e (own_items w s h ++ out_items w h.base)
      within e first = ⊎_elim (own e)
          (λ settled. ⊎_elim
          (λ kept. own e (in_right e (items (standing_of w s h.active)) kept_items kept))
          (λ out. in_right e (own_items w s h) (out_items w h.base) out)
          (in_either e kept_items (out_items w h.base) settled))
          (in_either e (own_items w s h) settled_items first)

  -- What a root reaches is settled exactly where its VVBN is.
  pub settled_at : (t : Table) (e : Item) → In e (own_items w s h) → set.contains (settled_ids (volume_with w s h t)) (id_of e) ≡ is_listed settled_items e.pointer.vvbn
  settled_at t e here = ap (λ (i : Ids). set.contains i (id_of e)) (settled_told t) ∙ sym (out_has (own_items w s h) settled_items one e here)

  -- ---- places of the active table

  abbrev pub pointer_of : Owner → ℕ → ℕ → Pointer
  pointer_of o level index = pointer_in (under w s) h.active.levels h.active.root o level index

  -- A place whose pointer leads somewhere is settled where its VVBN is;
  pub settled_place : (o : Owner) (level index : ℕ) → (pointer_of o level index).stamp ≢ 0 → is_settled (volume_told w s h) (placed o (level, index)) ≡ is_listed settled_items (pointer_of o level index).vvbn
  unfolding volume_with
  settled_place o level index some =
      let stood = at_place (under w s) h.active.levels h.active.root test all o level index some in
      let owner : owner_of stood.item.owner ≡ o = ap owner_of stood.owner ∙ owner_back (under w s) h.active.levels h.active.root numbers.active o level index some in
      let id : id_of stood.item ≡ (placed o (level, index), (pointer_of o level index).stamp) = λ i. (placed (owner i) (stood.level_is i, stood.place_is i), (stood.pointer i).stamp) in
      ap (λ (found : Option ℕ). option_map_or (λ n. set.contains (settled_ids (volume_told w s h)) (placed o (level, index), n)) found false) (stamp_there o level index some)
      ∙ sym (ap (set.contains (settled_ids (volume_told w s h))) id) ∙ agree_same _ _ stood.passes ∙ ap (λ (p : Pointer). is_listed settled_items p.vvbn) stood.pointer
    where
      test : Item → Bool
      test e = agree (set.contains (settled_ids (volume_told w s h)) (id_of e)) (is_listed settled_items e.pointer.vvbn)

      all : list_all test (items (standing_of w s h.active)) ≡ true
      all = to_all test (items (standing_of w s h.active)) (λ e here.
          ap (agree (set.contains (settled_ids (volume_told w s h)) (id_of e))) (sym (settled_at (table_at w s h.active) e (in_left e (items (standing_of w s h.active)) kept_items here)))
          ∙ agree_itself (set.contains (settled_ids (volume_told w s h)) (id_of e)))

      stamp_there : (o : Owner) (level index : ℕ) → (pointer_of o level index).stamp ≢ 0 → fin.get (stamps_of (table_at w s h.active)) (placed o (level, index)) ≡ Some (pointer_of o level index).stamp
      stamp_there o level index some = get-stamps_of (table_at w s h.active) o (level, index) ∙ stamp_is (under w s) h.active.levels h.active.root o level index
          ∙ ap (λ (b : Bool). if b then None else Some (pointer_of o level index).stamp) (let test : ((pointer_of o level index).stamp == 0) ≡ false = grind (arith, nat_tests, some) in test)

  -- one whose pointer is a hole isn't.
  pub hole_place : (o : Owner) (level index : ℕ) → (pointer_of o level index).stamp ≡ 0 → is_settled (volume_told w s h) (placed o (level, index)) ≡ false
  unfolding volume_with
  hole_place o level index none = ap (λ (found : Option ℕ). option_map_or (λ n. set.contains (settled_ids (volume_told w s h)) (placed o (level, index), n)) found false)
      (get-stamps_of (table_at w s h.active) o (level, index) ∙ stamp_is (under w s) h.active.levels h.active.root o level index
      ∙ ap (λ (b : Bool). if b then None else Some (pointer_of o level index).stamp) (let test : ((pointer_of o level index).stamp == 0) ≡ true = grind (arith, nat_tests, none) in test))

  -- So what is settled over a cell is counted by its pointers.
  pub settled_pointers : (o : Owner) (levels i : ℕ) → settled_over (volume_told w s h) o levels i
      ≡ count_by (λ k. not ((pointer_of o k (i / fan ^ k)).stamp == 0) && is_listed settled_items (pointer_of o k (i / fan ^ k)).vvbn) (range_with_len 0 (levels + 1))
  settled_pointers o levels i = passing_same (λ k. is_settled (volume_told w s h) (placed o (k, i / fan ^ k))) (λ k. not ((pointer_of o k (i / fan ^ k)).stamp == 0) && is_listed settled_items (pointer_of o k (i / fan ^ k)).vvbn) 0 0 (levels + 1)
      (λ j lt. one_place (0 + j) (i / fan ^ (0 + j)) ((pointer_of o (0 + j) (i / fan ^ (0 + j))).stamp == 0) refl)
    where
      one_place : (level index : ℕ) (b : Bool) → ((pointer_of o level index).stamp == 0) ≡ b → is_settled (volume_told w s h) (placed o (level, index)) ≡ (not b && is_listed settled_items (pointer_of o level index).vvbn)
      one_place level index true e = hole_place o level index (grind (arith, nat_tests, e))
      one_place level index false e = settled_place o level index (grind (arith, nat_tests, e))
