-- Which ids a volume's snapshots or its base have, too: those of VVBNs that their tables reach.
use Rattle.std.proofs.Common.{◌≡◌, ◌≢◌, ℕ, ◌<◌, Bool, true, false, List, [], ◌∷◌, ◌++◌, map, refl, sym, ap, subst, ◌∙◌, arith, ⊎_elim}
use Rattle.std.specs.Prelude.{Option, Some, None, ◌&&◌, ◌||◌, ◌==◌, find, nat_lt}
use Rattle.std.specs.List.{list_all}
use Rattle.std.specs.Option.{option_map, option_map_or, option_and_then}
use Rattle.std.specs.FinMap as fin
use Rattle.std.specs.FinSet as set
use Rattle.std.proofs.lemmas.List.{append_assoc}
use Rattle.std.proofs.lemmas.Bool.{and_parts, or_cases, or_left, or_right}
use Rattle.std.proofs.lemmas.Bool.Decides.{nat_tests}
use Rattle.fv_bits.specs.Members.{is_member}
use Rattle.fv_codec.specs.declared.pointer.Pointer.{Pointer}
use Rattle.fv_model.specs.Spelling.{name_cmp}
use Rattle.fv_model.specs.Tables.{Table}
use Rattle.fv_model.specs.Places.{Id, Ids, Owner, ids_of, placed}
use Rattle.fv_model.specs.Space.{base_ids, ids_in_any, shared_ids}
use Rattle.fv_laws.proofs.Orders.{id_total}
use Rattle.fv_laws.proofs.Release.{in_any}
use Rattle.fv_laws.proofs.Lists.{In, in_left, in_right, in_either, in_map, from_map, in_flat_map, from_flat_map}
use Rattle.fv_laws.proofs.Tests.{iff, from_any, to_any, from_all, to_all}
use Rattle.fv_tables.specs.Reached.{Item, items}
use Rattle.fv_tables.specs.Ids.{id_of, ids_in, owner_of}
use Rattle.fv_tables.proofs.Listed.{in_ids, from_ids, IsOneToOne, out_has}
use Rattle.fv_tables.proofs.IdsTold.{owner_back}
use Rattle.fv_tables.proofs.TablePlaces.{pointer_in, at_place}
use Rattle.fv_image.specs.Views.{Rooted, Snap, Footing, Head, View}
use Rattle.fv_image.specs.Chains.{under}
use Rattle.fv_image.specs.BlockRules.{agree}
use Rattle.fv_image.specs.Volumes.{standing_of, table_at, snap_told, snap_at, base_on, base_from, volume_with, volume_told}
use Rattle.fv_image.specs.Staying.{base_items, own_items}
use Rattle.fv_image.specs.Seen.{Based, base_root, base_seen, based_at, based_on, roots_of, seen, volume_seen}
use Rattle.fv_image.specs.ReachRules.{has_pointers_in_range, is_hint}
use Rattle.fv_image.specs.TableRules.{all_items, has_one_to_one, has_same_id}
use Rattle.fv_image.proofs.SameSeen.{of_items, of_volume}
use Rattle.fv_image.proofs.SoundFacts.{agree_same}
use Rattle.fv_image.proofs.OwnIds.{one_id, one_vvbn}
use Rattle.fv_image.proofs.OwnUses.{seen_items, snap_found}
use Rattle.fv_image.proofs.WellVolumes.{found_in}
use Rattle.fv_image.proofs.CountedCharge as charge
use Rattle.fv_fourth_pass.specs.Needed.{HasShared, kept_items}

-- the ids of two lists together
in_both : (xs ys : List Item) (q : Id) → (set.contains (ids_in xs) q || set.contains (ids_in ys) q) ≡ set.contains (ids_in (xs ++ ys)) q
in_both xs ys q = iff _ _
    (λ one. ⊎_elim
    (λ left. let found = from_ids xs q left in subst (λ (k : Id). set.contains (ids_in (xs ++ ys)) k ≡ true) found.1.1 (in_ids (xs ++ ys) found.0 (in_left found.0 xs ys found.1.0)))
    (λ right. let found = from_ids ys q right in subst (λ (k : Id). set.contains (ids_in (xs ++ ys)) k ≡ true) found.1.1 (in_ids (xs ++ ys) found.0 (in_right found.0 xs ys found.1.0)))
    (or_cases (set.contains (ids_in xs) q) (set.contains (ids_in ys) q) one))
    (λ all. let found = from_ids (xs ++ ys) q all in ⊎_elim
    (λ left. or_left (set.contains (ids_in xs) q) _ (subst (λ (k : Id). set.contains (ids_in xs) k ≡ true) found.1.1 (in_ids xs found.0 left)))
    (λ right. or_right (set.contains (ids_in xs) q) _ (subst (λ (k : Id). set.contains (ids_in ys) k ≡ true) found.1.1 (in_ids ys found.0 right)))
    (in_either found.0 xs ys found.1.0))

agree_of : (a b : Bool) → a ≡ b → agree a b ≡ true
agree_of true true e = refl
agree_of true false e = absurd cc
agree_of false true e = absurd cc
agree_of false false e = refl

-- what is seen of a base table
based_are : (w : View) (s : ℕ) (base : Option Footing) → map (λ (b : Based). b.item) (base_seen w s base) ≡ base_items w base
unfolding base_seen
based_are w s None = refl
based_are w s (Some b) = so (base_root w b)
  where
    same : (es : List Item) → map (λ (b : Based). b.item) (map (based_at w s b.splitting) es) ≡ es
    same [] = refl
    same (e ∷ es) = ap (λ (xs : List Item). e ∷ xs) (same es)

    so : (o : Option Rooted) → map (λ (b : Based). b.item) (option_map_or (based_on w s b) o []) ≡ option_map_or (λ r. items (standing_of w b.parent r)) o []
    so None = refl
    so (Some r) = same (items (standing_of w b.parent r))

module _ (w : View) (s : ℕ) (h : Head) (shared : List Bool) (is : HasShared w s h shared) where
  abbrev told : fin.FinMap name_cmp Table
  told = fin.from_entries {R = name_cmp} (map (snap_told w s) h.snapshots)

  abbrev active : List Item
  active = items (standing_of w s h.active)

  abbrev out : List Item
  out = kept_items w s h ++ base_items w h.base

  -- ---- snapshots

  kept_are : (q : Id) → set.contains (ids_in_any (fin.values told)) q ≡ set.contains (ids_in (kept_items w s h)) q
  kept_are q = iff _ _ to from
    where
      to : set.contains (ids_in_any (fin.values told)) q ≡ true → set.contains (ids_in (kept_items w s h)) q ≡ true
      to there =
          let found = from_any (λ t. set.contains (ids_of t) q) (fin.values told) (sym (in_any (fin.values told) q) ∙ there) in
          let snap = charge.kept_snap w s h is.low is.head is.numbers is.parents is.names is.ids is.ranges found.0 found.1.0 in
          let here : set.contains (ids_of (table_at w s snap.0.table)) q ≡ true = ap (λ (t : Table). set.contains (ids_of t) q) snap.1.1 ∙ found.1.1 in
          let item = from_ids (items (standing_of w s snap.0.table)) q (ap (λ (i : Ids). set.contains i q) (sym (charge.root_ids w s snap.0.table (charge.snap_few w h is.numbers snap.0 snap.1.0))) ∙ here) in
          subst (λ (k : Id). set.contains (ids_in (kept_items w s h)) k ≡ true) item.1.1
          (in_ids (kept_items w s h) item.0 (in_flat_map (λ (r : ℕ × Rooted). items (standing_of w s r.1)) (snap.0.slot, snap.0.table) item.0 (map (λ p. (p.slot, p.table)) h.snapshots) (in_map (λ (p : Snap). (p.slot, p.table)) snap.0 h.snapshots snap.1.0) item.1.0))

      from : set.contains (ids_in (kept_items w s h)) q ≡ true → set.contains (ids_in_any (fin.values told)) q ≡ true
      from one =
          let found = from_ids (kept_items w s h) q one in
          let e = found.0 in
          let root = from_flat_map (λ (r : ℕ × Rooted). items (standing_of w s r.1)) e (map (λ p. (p.slot, p.table)) h.snapshots) found.1.0 in
          let snap = from_map (λ (p : Snap). (p.slot, p.table)) root.0 h.snapshots root.1 in
          let here : In e (items (standing_of w s snap.0.table)) = subst (λ (r : ℕ × Rooted). In e (items (standing_of w s r.1))) (sym snap.2) root.2 in
          let id : set.contains (ids_of (table_at w s snap.0.table)) q ≡ true =
          ap (λ (i : Ids). set.contains i q) (charge.root_ids w s snap.0.table (charge.snap_few w h is.numbers snap.0 snap.1))
          ∙ subst (λ (k : Id). set.contains (ids_in (items (standing_of w s snap.0.table))) k ≡ true) found.1.1 (in_ids (items (standing_of w s snap.0.table)) e here) in
          in_any (fin.values told) q
          ∙ snap_found w s h.snapshots (λ t. set.contains (ids_of t) q) (charge.distinct w s h is.low is.head is.numbers is.parents is.names is.ids is.ranges)
          (to_any (λ p. set.contains (ids_of (table_at w s p.table)) q) snap.0 h.snapshots snap.1 id)

  -- ---- the base

  base_are : base_ids (base_from w h.base) ≡ ids_in (base_items w h.base)
  unfolding snap_at
  base_are = of_base h.base is.parents
    where
      of_base : (base : Option Footing) → charge.HasParentNumbers w base → base_ids (base_from w base) ≡ ids_in (base_items w base)
      of_base None numbers = refl
      of_base (Some b) numbers = of_parent (w.head b.parent) refl
        where
          of_snap : (g : Head) → w.head b.parent ≡ Some g → (o : Option Snap) → find (λ p. p.slot == b.slot) g.snapshots ≡ o
              → base_ids (option_map (base_on w b g) o) ≡ ids_in (option_map_or (λ r. items (standing_of w b.parent r)) (option_map (λ (p : Snap). p.table) o) [])
          of_snap g there None e = refl
          of_snap g there (Some p) e = charge.root_ids w b.parent p.table (charge.snap_few w g (numbers b g refl there) p (found_in (λ p. p.slot == b.slot) g.snapshots p e))

          of_parent : (o : Option Head) → w.head b.parent ≡ o
              → base_ids (option_and_then (λ g. option_map (base_on w b g) (snap_at g b.slot)) o)
              ≡ ids_in (option_map_or (λ r. items (standing_of w b.parent r)) (option_and_then (λ g. option_map (λ p. p.table) (snap_at g b.slot)) o) [])
          of_parent None e = refl
          of_parent (Some g) e = of_snap g e (find (λ p. p.slot == b.slot) g.snapshots) refl

  -- ---- both

  shared_are : (q : Id) → set.contains (shared_ids (volume_told w s h)) q ≡ set.contains (ids_in out) q
  unfolding volume_with
  shared_are q =
      set.contains-union id_total (ids_in_any (fin.values told)) (base_ids (base_from w h.base)) q
      ∙ (λ i. kept_are q i || set.contains (base_are i) q)
      ∙ in_both (kept_items w s h) (base_items w h.base) q

  whole : active ++ out ≡ own_items w s h ++ base_items w h.base
  whole = sym (append_assoc active (kept_items w s h) (base_items w h.base))

  all_are : all_items (volume_seen w s h) ≡ own_items w s h ++ base_items w h.base
  unfolding volume_seen
  all_are = λ i. seen_items w s (roots_of h) i ++ based_are w s h.base i

  -- rule 10 of any two that the roots or the base table reach
  agreed : (a b : Item) → In a (own_items w s h ++ base_items w h.base) → In b (own_items w s h ++ base_items w h.base) → agree (has_same_id a b) (a.pointer.vvbn == b.pointer.vvbn) ≡ true
  unfolding has_one_to_one
  agreed a b one other =
      let xs = own_items w s h ++ base_items w h.base in
      let all = of_volume w (λ s x. list_all (λ a. list_all (λ b. agree (has_same_id a b) (a.pointer.vvbn == b.pointer.vvbn)) (all_items x)) (all_items x)) s h is.ids is.low is.head in
      let whole : list_all (λ a. list_all (λ b. agree (has_same_id a b) (a.pointer.vvbn == b.pointer.vvbn)) xs) xs ≡ true =
      subst (λ (xs : List Item). list_all (λ a. list_all (λ b. agree (has_same_id a b) (a.pointer.vvbn == b.pointer.vvbn)) xs) xs ≡ true) all_are all in
      from_all (λ b. agree (has_same_id a b) (a.pointer.vvbn == b.pointer.vvbn)) xs (from_all (λ a. list_all (λ b. agree (has_same_id a b) (a.pointer.vvbn == b.pointer.vvbn)) xs) xs whole a one) b other

  -- what the roots reach lies within the span
  below_span : (e : Item) → In e (own_items w s h) → e.pointer.vvbn < h.span
  unfolding has_pointers_in_range volume_seen seen
  below_span e one =
      let all = of_items w s (λ e. nat_lt e.item.pointer.vvbn h.span && is_hint w.blocks e.item.pointer.pvbn) (roots_of h)
      (of_volume w (λ s x. list_all (λ r. list_all (λ e. nat_lt e.item.pointer.vvbn x.head.span && is_hint w.blocks e.item.pointer.pvbn) r.reached) x.roots) s h is.ranges is.low is.head) in
      let test = (and_parts (nat_lt e.pointer.vvbn h.span) _ (from_all (λ e. nat_lt e.pointer.vvbn h.span && is_hint w.blocks e.pointer.pvbn) (own_items w s h) all e one)).0 in
      grind (arith, nat_tests, test)

  one_to_one : IsOneToOne (active ++ out)
  one_to_one = subst (λ (es : List Item). IsOneToOne es) (sym whole) (record {
    ids = λ a b one other same. one_id a b (agreed a b one other) same;
    vvbns = λ a b one other same. one_vvbn a b (agreed a b one other) same;
  })

  -- an item of the active table has its id in a snapshot or the base where its VVBN is shared
  item_shared : (e : Item) → In e active → set.contains (shared_ids (volume_told w s h)) (id_of e) ≡ is_member shared e.pointer.vvbn
  item_shared e there =
      shared_are (id_of e)
      ∙ sym (out_has active out one_to_one e there)
      ∙ sym (is.reached e.pointer.vvbn (below_span e (in_left e active (kept_items w s h) there)))

  -- and so at each place
  pub place_shared : (o : Owner) (level place : ℕ) → (pointer_in (under w s) h.active.levels h.active.root o level place).stamp ≢ 0
      → set.contains (shared_ids (volume_told w s h)) (placed o (level, place), (pointer_in (under w s) h.active.levels h.active.root o level place).stamp)
      ≡ is_member shared (pointer_in (under w s) h.active.levels h.active.root o level place).vvbn
  place_shared o level place some =
      let test : Item → Bool = λ e. agree (set.contains (shared_ids (volume_told w s h)) (id_of e)) (is_member shared e.pointer.vvbn) in
      let all : list_all test active ≡ true = to_all test active (λ e there. agree_of _ _ (item_shared e there)) in
      let stood = at_place (under w s) h.active.levels h.active.root test all o level place some in
      let owner : owner_of stood.item.owner ≡ o = ap owner_of stood.owner ∙ owner_back (under w s) h.active.levels h.active.root is.numbers.active o level place some in
      let stamp = ap (λ (p : Pointer). p.stamp) stood.pointer in
      let same : id_of stood.item ≡ (placed o (level, place), (pointer_in (under w s) h.active.levels h.active.root o level place).stamp) = λ i. (placed (owner i) (stood.level_is i, stood.place_is i), stamp i) in
      sym (ap (set.contains (shared_ids (volume_told w s h))) same)
      ∙ agree_same (set.contains (shared_ids (volume_told w s h)) (id_of stood.item)) (is_member shared stood.item.pointer.vvbn) stood.passes
      ∙ ap (λ (p : Pointer). is_member shared p.vvbn) stood.pointer
