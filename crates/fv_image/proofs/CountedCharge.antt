-- What a volume is charged for is what its maps count: the VVBNs that its roots reach, without those of its base table, and a map for each
-- snapshot. It rests on three rules alone, those on names of snapshots, on ids and on VVBNs in range, so that it is known before uses are judged.
use Rattle.std.proofs.Common.{◌≡◌, ℕ, ◌+◌, ◌*◌, ◌<◌, ◌≤◌, Bool, true, false, cond, not, List, [], ◌∷◌, ◌++◌, length, map, refl, sym, ap, ap₂, subst, ◌∙◌, arith, ⊎_elim}
use Rattle.std.specs.Prelude.{Option, Some, None, ◌&&◌, ◌||◌, ◌==◌, find, nat_lt, nat_le, count_by, if◌then◌else◌}
use Rattle.std.specs.List.{list_all, list_any, range_with_len}
use Rattle.std.specs.Option.{option_map, option_map_or, option_and_then}
use Rattle.std.specs.FinMap as fin
use Rattle.std.specs.FinSet as set
use Rattle.std.proofs.lemmas.Bool.{and_parts, or_cases, or_left, or_right}
use Rattle.std.proofs.lemmas.Bool.Decides.{nat_tests}
use Rattle.std.proofs.lemmas.List.Folds.{list_any-append}
use Rattle.fv_bits.proofs.Counts.{passing_same}
use Rattle.fv_model.specs.Spelling.{name_cmp}
use Rattle.fv_model.specs.Tables.{Table}
use Rattle.fv_model.specs.Places.{Id, Ids, ids_of}
use Rattle.fv_model.specs.Space.{map_blocks, ids_in_any, ids_left_out, charge}
use Rattle.fv_laws.proofs.Orders.{id_total, id_ties, name_total}
use Rattle.fv_laws.proofs.Release.{in_any}
use Rattle.fv_laws.proofs.Lists.{In, in_left, in_right, in_either, in_map, from_map, in_flat_map, from_flat_map}
use Rattle.fv_laws.proofs.Room.{entry_there}
use Rattle.fv_laws.proofs.Tests.{iff, from_any, to_any, from_all}
use Rattle.fv_tables.specs.Reached.{Item, items, is_listed}
use Rattle.fv_tables.specs.Ids.{id_of, ids_in, is_charged}
use Rattle.fv_tables.proofs.Lists.{all_in_range}
use Rattle.fv_tables.proofs.Listed.{in_ids, from_ids, IsOneToOne, listed_exact}
use Rattle.fv_tables.proofs.IdsTold.{ids_told}
use Rattle.fv_image.specs.Layout.{block_bits}
use Rattle.fv_image.specs.Views.{Rooted, Snap, Footing, Head, View, used_slots, volume_bit}
use Rattle.fv_image.specs.Chains.{under}
use Rattle.fv_image.specs.BlockRules.{agree}
use Rattle.fv_image.specs.Volumes.{standing_of, table_at, snap_told, snap_at, base_on, base_from, volume_with, volume_told}
use Rattle.fv_image.specs.Seen.{Based, roots_of, base_root, based_at, based_on, base_seen, volume_seen, seen}
use Rattle.fv_image.specs.ReachRules.{is_hint, has_pointers_in_range, is_reach, are_distinct}
use Rattle.fv_image.specs.TableRules.{all_items, has_same_id, has_one_to_one}
use Rattle.fv_image.specs.VolumeRules.{has_distinct_snapshots}
use Rattle.fv_image.specs.Staying.{items_of, own_items, base_items}
use Rattle.fv_image.specs.Charged.{out_items}
use Rattle.fv_image.proofs.SameSeen.{of_volume, of_items}
use Rattle.fv_image.proofs.SoundFacts.{agree_same}
use Rattle.fv_image.proofs.OwnIds.{one_id, one_vvbn}
use Rattle.fv_image.proofs.OwnUses.{HasLabelNumbers, seen_items, snap_count, snap_found}
use Rattle.fv_image.proofs.WellVolumes.{found_in, named_snap}

-- ---- what is seen of a base table

based_are : (w : View) (s : ℕ) (base : Option Footing) → map (λ (b : Based). b.item) (base_seen w s base) ≡ base_items w base
unfolding base_seen
based_are w s None = refl
based_are w s (Some b) = so (base_root w b)
  where
    same : (es : List Item) → map (λ (b : Based). b.item) (map (based_at w s b.splitting) es) ≡ es
    same [] = refl
    same (e ∷ es) = ap (λ (xs : List Item). e ∷ xs) (same es)

    so : (o : Option Rooted) → map (λ (b : Based). b.item) (option_map_or (based_on w s b) o []) ≡ option_map_or (λ r. items (standing_of w b.parent r)) o []
    so None = refl
    so (Some r) = same (items (standing_of w b.parent r))

-- what isn't charged is of the base table
out_based : (w : View) (base : Option Footing) (e : Item) → In e (out_items w base) → In e (base_items w base)
out_based w None e there = there
out_based w (Some b) e there = so b.splitting there
  where
    so : (t : Bool) → In e (if t then [] else base_items w (Some b)) → In e (base_items w (Some b))
    so true there = absurd there
    so false there = there

-- ---- one volume

-- the label of the volume that a volume stands on has its numbers
abbrev pub HasParentNumbers : View → Option Footing → Type 0
HasParentNumbers w base = (b : Footing) (g : Head) → base ≡ Some b → w.head b.parent ≡ Some g → HasLabelNumbers g

module _ (w : View) where
  -- a table of few levels has the ids of what it reaches
  pub root_ids : (s : ℕ) (r : Rooted) → r.levels ≤ 2 → ids_of (table_at w s r) ≡ ids_in (items (standing_of w s r))
  root_ids s r few = ids_told (under w s) r.levels r.root few

  pub snap_few : (h : Head) → HasLabelNumbers h → (p : Snap) → In p h.snapshots → p.table.levels ≤ 2
  snap_few h numbers p one = let test : nat_le p.table.levels 2 ≡ true = from_all (λ (p : Snap). nat_le p.table.levels 2) h.snapshots numbers.snapshots p one in grind (arith, nat_tests, test)

  -- the ids that a volume isn't charged for are those of its base table
  pub out_ids : (base : Option Footing) → HasParentNumbers w base → ids_left_out (base_from w base) ≡ ids_in (out_items w base)
  unfolding snap_at
  out_ids None numbers = refl
  out_ids (Some b) numbers = of_parent (w.head b.parent) refl
    where
      nothing : (t : Bool) → ids_in (if t then [] else []) ≡ set.empty
      nothing true = refl
      nothing false = refl

      found : (g : Head) → w.head b.parent ≡ Some g → (p : Snap) → In p g.snapshots → (t : Bool) → cond t set.empty (ids_of (table_at w b.parent p.table)) ≡ ids_in (if t then [] else items (standing_of w b.parent p.table))
      found g there p one true = refl
      found g there p one false = root_ids b.parent p.table (snap_few g (numbers b g refl there) p one)

      of_snap : (g : Head) → w.head b.parent ≡ Some g → (o : Option Snap) → find (λ p. p.slot == b.slot) g.snapshots ≡ o
          → ids_left_out (option_map (base_on w b g) o) ≡ ids_in (if b.splitting then [] else option_map_or (λ r. items (standing_of w b.parent r)) (option_map (λ (p : Snap). p.table) o) [])
      of_snap g there None e = sym (nothing b.splitting)
      of_snap g there (Some p) e = found g there p (found_in (λ p. p.slot == b.slot) g.snapshots p e) b.splitting

      of_parent : (o : Option Head) → w.head b.parent ≡ o
          → ids_left_out (option_and_then (λ g. option_map (base_on w b g) (snap_at g b.slot)) o)
          ≡ ids_in (if b.splitting then [] else option_map_or (λ r. items (standing_of w b.parent r)) (option_and_then (λ g. option_map (λ p. p.table) (snap_at g b.slot)) o) [])
      of_parent None e = sym (nothing b.splitting)
      of_parent (Some g) e = of_snap g e (find (λ p. p.slot == b.slot) g.snapshots) refl

  module _ (s : ℕ) (h : Head) (small : s < 64) (there : w.head s ≡ Some h) (numbers : HasLabelNumbers h) (parents : HasParentNumbers w h.base)
      (names : has_distinct_snapshots (seen w) ≡ true) (ids : has_one_to_one (seen w) ≡ true) (ranges : has_pointers_in_range (seen w) ≡ true) where
    abbrev pub told : fin.FinMap name_cmp Table
    told = fin.from_entries {R = name_cmp} (map (snap_told w s) h.snapshots)

    -- the tables of snapshots, whose ids are kept
    pub kept_snap : (t : Table) → In t (fin.values told) → (p : Snap) × (In p h.snapshots × (table_at w s p.table ≡ t))
    kept_snap t one =
        let e = from_map (λ (e : List ℕ × Table). e.1) t (fin.entries told) one in
        let found = named_snap w s h.snapshots e.0.0 e.0.1 (sym (fin.get-from_entries name_total (map (snap_told w s) h.snapshots) e.0.0) ∙ entry_there name_total told e.0 e.1) in
        (found.0, (found.1.0, found.1.1 ∙ e.2))

    pub distinct : are_distinct (map (λ p. p.name) h.snapshots) ≡ true
    unfolding has_distinct_snapshots volume_seen
    distinct = of_volume w (λ s x. are_distinct (map (λ p. p.name) x.head.snapshots)) s h names small there

    -- ---- its ids

    -- The ids of the active table and of all snapshots are those of what the roots reach.
    own_ids : set.union (ids_of (table_at w s h.active)) (ids_in_any (fin.values told)) ≡ ids_in (own_items w s h)
    own_ids = set.same_set id_total id_ties _ _ (λ q. set.contains-union id_total (ids_of (table_at w s h.active)) (ids_in_any (fin.values told)) q ∙ iff _ _ (there_from q) (back_from q))
      where
        snap_item : (p : Snap) (e : Item) → In p h.snapshots → In e (items (standing_of w s p.table)) → In e (own_items w s h)
        snap_item p e one there = in_right e (items (standing_of w s h.active)) (items_of w s (map (λ p. (p.slot, p.table)) h.snapshots))
            (in_flat_map (λ (r : ℕ × Rooted). items (standing_of w s r.1)) (p.slot, p.table) e (map (λ p. (p.slot, p.table)) h.snapshots) (in_map (λ (p : Snap). (p.slot, p.table)) p h.snapshots one) there)

        -- an id of a root's table is one of what the roots reach
        of_root : (q : Id) (r : Rooted) → r.levels ≤ 2 → ((e : Item) → In e (items (standing_of w s r)) → In e (own_items w s h)) → set.contains (ids_of (table_at w s r)) q ≡ true → set.contains (ids_in (own_items w s h)) q ≡ true
        of_root q r few part there =
            let found = from_ids (items (standing_of w s r)) q (ap (λ (i : Ids). set.contains i q) (sym (root_ids s r few)) ∙ there) in
            subst (λ (k : Id). set.contains (ids_in (own_items w s h)) k ≡ true) found.1.1 (in_ids (own_items w s h) found.0 (part found.0 found.1.0))

        there_from : (q : Id) → (set.contains (ids_of (table_at w s h.active)) q || set.contains (ids_in_any (fin.values told)) q) ≡ true → set.contains (ids_in (own_items w s h)) q ≡ true
        there_from q one = ⊎_elim
            (λ active. of_root q h.active numbers.active (λ e here. in_left e (items (standing_of w s h.active)) (items_of w s (map (λ p. (p.slot, p.table)) h.snapshots)) here) active)
            (λ kept.
            let found = from_any (λ t. set.contains (ids_of t) q) (fin.values told) (sym (in_any (fin.values told) q) ∙ kept) in
            let snap = kept_snap found.0 found.1.0 in
            of_root q snap.0.table (snap_few h numbers snap.0 snap.1.0) (λ e here. snap_item snap.0 e snap.1.0 here) (ap (λ (t : Table). set.contains (ids_of t) q) snap.1.1 ∙ found.1.1))
            (or_cases (set.contains (ids_of (table_at w s h.active)) q) (set.contains (ids_in_any (fin.values told)) q) one)

        -- an item of a root has its id in the root's table
        id_there : (q : Id) (r : Rooted) → r.levels ≤ 2 → (e : Item) → In e (items (standing_of w s r)) → id_of e ≡ q → set.contains (ids_of (table_at w s r)) q ≡ true
        id_there q r few e here is = ap (λ (i : Ids). set.contains i q) (root_ids s r few) ∙ subst (λ (k : Id). set.contains (ids_in (items (standing_of w s r))) k ≡ true) is (in_ids (items (standing_of w s r)) e here)

        back_from : (q : Id) → set.contains (ids_in (own_items w s h)) q ≡ true → (set.contains (ids_of (table_at w s h.active)) q || set.contains (ids_in_any (fin.values told)) q) ≡ true
        back_from q one =
            let found = from_ids (own_items w s h) q one in
            let e = found.0 in ⊎_elim
            (λ (active : In e (items (standing_of w s h.active))). or_left (set.contains (ids_of (table_at w s h.active)) q) _ (id_there q h.active numbers.active e active found.1.1))
            (λ later.
            let root = from_flat_map (λ (r : ℕ × Rooted). items (standing_of w s r.1)) e (map (λ p. (p.slot, p.table)) h.snapshots) later in
            let snap = from_map (λ (p : Snap). (p.slot, p.table)) root.0 h.snapshots root.1 in
            let here : In e (items (standing_of w s snap.0.table)) = subst (λ (r : ℕ × Rooted). In e (items (standing_of w s r.1))) (sym snap.2) root.2 in
            let id = id_there q snap.0.table (snap_few h numbers snap.0 snap.1) e here found.1.1 in
            or_right (set.contains (ids_of (table_at w s h.active)) q) _
            (in_any (fin.values told) q ∙ snap_found w s h.snapshots (λ t. set.contains (ids_of t) q) distinct (to_any (λ p. set.contains (ids_of (table_at w s p.table)) q) snap.0 h.snapshots snap.1 id)))
            (in_either e (items (standing_of w s h.active)) (items_of w s (map (λ p. (p.slot, p.table)) h.snapshots)) found.1.0)

    -- ---- one to one

    -- all that rule 10 looks at
    all_are : all_items (volume_seen w s h) ≡ own_items w s h ++ base_items w h.base
    unfolding volume_seen
    all_are = ap₂ (λ (a b : List Item). a ++ b) (seen_items w s (roots_of h)) (based_are w s h.base)

    agreed : (a b : Item) → In a (own_items w s h ++ base_items w h.base) → In b (own_items w s h ++ base_items w h.base) → agree (has_same_id a b) (a.pointer.vvbn == b.pointer.vvbn) ≡ true
    unfolding has_one_to_one
    agreed a b one other =
        let all = of_volume w (λ s x. list_all (λ a. list_all (λ b. agree (has_same_id a b) (a.pointer.vvbn == b.pointer.vvbn)) (all_items x)) (all_items x)) s h ids small there in
        let xs = own_items w s h ++ base_items w h.base in
        let whole : list_all (λ a. list_all (λ b. agree (has_same_id a b) (a.pointer.vvbn == b.pointer.vvbn)) xs) xs ≡ true = subst (λ (xs : List Item). list_all (λ a. list_all (λ b. agree (has_same_id a b) (a.pointer.vvbn == b.pointer.vvbn)) xs) xs ≡ true) all_are all in
        from_all (λ b. agree (has_same_id a b) (a.pointer.vvbn == b.pointer.vvbn)) xs (from_all (λ a. list_all (λ b. agree (has_same_id a b) (a.pointer.vvbn == b.pointer.vvbn)) xs) xs whole a one) b other

    pub one_to_one : IsOneToOne (own_items w s h ++ out_items w h.base)
    one_to_one = record {
      ids = λ a b one other same. one_id a b (agreed a b (within a one) (within b other)) same;
      vvbns = λ a b one other same. one_vvbn a b (agreed a b (within a one) (within b other)) same;
    }
      where
        within : (e : Item) → In e (own_items w s h ++ out_items w h.base) → In e (own_items w s h ++ base_items w h.base)
        within e one = ⊎_elim
            (λ own. in_left e (own_items w s h) (base_items w h.base) own)
            (λ out. in_right e (own_items w s h) (base_items w h.base) (out_based w h.base e out))
            (in_either e (own_items w s h) (out_items w h.base) one)

    -- ---- the count

    own_below : (e : Item) → In e (own_items w s h) → e.pointer.vvbn < h.span
    unfolding has_pointers_in_range volume_seen seen
    own_below e one =
        let all = of_items w s (λ e. nat_lt e.item.pointer.vvbn h.span && is_hint w.blocks e.item.pointer.pvbn) (roots_of h)
        (of_volume w (λ s x. list_all (λ r. list_all (λ e. nat_lt e.item.pointer.vvbn x.head.span && is_hint w.blocks e.item.pointer.pvbn) r.reached) x.roots) s h ranges small there) in
        let test = (and_parts (nat_lt e.pointer.vvbn h.span) _ (from_all (λ e. nat_lt e.pointer.vvbn h.span && is_hint w.blocks e.pointer.pvbn) (own_items w s h) all e one)).0 in
        grind (arith, nat_tests, test)

    -- What its roots reach it is charged for, without what its base table reaches, and for a map for each snapshot.
    pub charge_by_three : charge (volume_told w s h) ≡ count_by (is_charged (own_items w s h) (out_items w h.base)) (range_with_len 0 h.span) + map_blocks h.span * length h.snapshots
    unfolding charge volume_with
    charge_by_three = λ i. charged i + map_blocks h.span * snap_count w s h.snapshots distinct i
      where
        charged : set.len (set.difference (set.union (ids_of (table_at w s h.active)) (ids_in_any (fin.values told))) (ids_left_out (base_from w h.base))) ≡ count_by (is_charged (own_items w s h) (out_items w h.base)) (range_with_len 0 h.span)
        charged = ap₂ (λ (a b : Ids). set.len (set.difference a b)) own_ids (out_ids h.base parents) ∙ sym (listed_exact (own_items w s h) (out_items w h.base) one_to_one h.span own_below)

    -- Sets of VVBNs count to it that have what the roots reach and what isn't charged, below the span.
    pub charge_by_sets : (held out : ℕ → Bool) → ((v : ℕ) → v < h.span → held v ≡ is_listed (own_items w s h) v) → ((v : ℕ) → v < h.span → out v ≡ is_listed (out_items w h.base) v)
        → charge (volume_told w s h) ≡ count_by (λ v. held v && not (out v)) (range_with_len 0 h.span) + map_blocks h.span * length h.snapshots
    charge_by_sets held out own others = charge_by_three ∙ ap (λ (n : ℕ). n + map_blocks h.span * length h.snapshots)
        (sym (passing_same (λ v. held v && not (out v)) (is_charged (own_items w s h) (out_items w h.base)) 0 0 h.span (λ j lt. (λ i. own (0 + j) (omega (arith, lt)) i && not (others (0 + j) (omega (arith, lt)) i)))))

-- ---- the maps of used slots

-- The maps of all used slots have what the roots reach.
pub held_is_listed : (w : View) (s : ℕ) (h : Head) → list_all (is_reach w s h) (roots_of h) ≡ true → (v : ℕ) → v < block_bits * map_blocks h.span → list_any (λ slot. volume_bit w s h.span slot v) (used_slots h) ≡ is_listed (own_items w s h) v
held_is_listed w s h all v within = ap (λ (xs : List ℕ). list_any (λ slot. volume_bit w s h.span slot v) (0 ∷ xs)) (slots h.snapshots) ∙ so (roots_of h) all
  where
    slots : (ps : List Snap) → map (λ p. p.slot) ps ≡ map (λ (r : ℕ × Rooted). r.0) (map (λ p. (p.slot, p.table)) ps)
    slots [] = refl
    slots (p ∷ ps) = ap (λ (xs : List ℕ). p.slot ∷ xs) (slots ps)

    so : (rs : List (ℕ × Rooted)) → list_all (is_reach w s h) rs ≡ true → list_any (λ slot. volume_bit w s h.span slot v) (map (λ (r : ℕ × Rooted). r.0) rs) ≡ is_listed (items_of w s rs) v
    so [] all = refl
    so (r ∷ rs) all =
        let parts = and_parts (is_reach w s h r) (list_all (is_reach w s h) rs) all in
        let here : agree (volume_bit w s h.span r.0 v) (is_listed (items (standing_of w s r.1)) v) ≡ true = all_in_range (λ v. agree (volume_bit w s h.span r.0 v) (is_listed (items (standing_of w s r.1)) v)) v 0 (block_bits * map_blocks h.span) parts.0 (omega arith) (omega (arith, within)) in
        (λ i. agree_same (volume_bit w s h.span r.0 v) (is_listed (items (standing_of w s r.1)) v) here i || so rs parts.1 i) ∙ sym (list_any-append (λ (e : Item). e.pointer.vvbn == v) (items (standing_of w s r.1)) (items_of w s rs))
