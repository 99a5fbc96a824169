-- A volume has at most as many entries of its own as it uses: below the span each is reached and has an id that the volume is charged for,
-- and past it lie the blocks of snapshots' maps.
use Rattle.std.proofs.Common.{◌≡◌, ℕ, ◌+◌, ◌*◌, ◌<◌, ◌≤◌, Bool, true, false, cond, not, List, [], ◌∷◌, ◌++◌, length, refl, sym, ap, ap₂, subst, ◌∙◌, arith, ⊎_elim}
use Rattle.std.specs.Prelude.{Option, Some, None, ◌&&◌, ◌||◌, ◌==◌, map, flat_map, nat_lt, nat_le, count_by, if◌then◌else◌}
use Rattle.std.specs.List.{list_all, list_any}
use Rattle.std.specs.Option.{is_some, option_map_or}
use Rattle.std.specs.Ordering.{eq_by_cmp}
use Rattle.std.specs.FinMap as fin
use Rattle.std.specs.FinMap.{find}
use Rattle.std.specs.FinSet as set
use Rattle.std.proofs.lemmas.Bool.{and_parts, and_from, both_ways, or_left, or_right, or_cases, not-true}
use Rattle.std.proofs.lemmas.Bool.Decides.{nat_tests}
use Rattle.std.proofs.lemmas.List.Folds.{list_all-append, list_any-append}
use Rattle.std.proofs.lemmas.List.{length-map}
use Rattle.fv_bits.proofs.Counts.{passing, passing-add, passing_same}
use Rattle.fv_model.specs.Spelling.{name_cmp, is_same_name}
use Rattle.fv_model.specs.Tables.{Table}
use Rattle.fv_model.specs.Places.{id_cmp, Ids, ids_of}
use Rattle.fv_model.specs.Space.{map_blocks, ids_in_any, ids_left_out, charge, need, use_of}
use Rattle.std.proofs.lemmas.Cmp.{eq_by_cmp_equiv}
use Rattle.fv_laws.proofs.Orders.{id_total, name_total, name_ties}
use Rattle.fv_laws.proofs.Release.{in_any}
use Rattle.fv_laws.proofs.Exact.{count_within}
use Rattle.fv_tables.specs.Reached.{Item, items, is_listed}
use Rattle.fv_tables.specs.Ids.{id_of}
use Rattle.fv_tables.proofs.Lists.{tied, all_in_range}
use Rattle.fv_tables.proofs.Listed.{picked, picked_all, picked_is}
use Rattle.fv_image.specs.Layout.{block_bits}
use Rattle.fv_image.specs.Views.{Rooted, Snap, Head, View, vvbns, volume_bit, used_slots, is_held_in, is_active_map, is_own, map_slot}
use Rattle.fv_image.specs.BlockRules.{agree}
use Rattle.fv_image.specs.Volumes.{standing_of, table_at, snap_told, volume_with, volume_told}
use Rattle.fv_image.specs.Seen.{Reached, Root, Based, reached_at, root_seen, roots_of, volume_seen, seen}
use Rattle.fv_image.specs.ReachRules.{is_reach, has_maps_of_reach, are_distinct}
use Rattle.fv_image.specs.TableRules.{all_items, has_same_id, has_one_to_one}
use Rattle.fv_image.specs.VolumeRules.{has_distinct_snapshots}
use Rattle.fv_image.specs.Soundness.{AreTables, AreMaps}
use Rattle.fv_image.specs.Staying.{items_of, own_items}
use Rattle.fv_image.proofs.SnapTables as tables
use Rattle.fv_image.proofs.Behind.{in_first}
use Rattle.fv_image.proofs.SoundFacts.{of_slot}
use Rattle.fv_image.proofs.SameSeen.{of_volume}
use Rattle.fv_image.proofs.Counts.{within_two, none_between}
use Rattle.fv_image.proofs.Counting.{in_slots}
use Rattle.fv_image.proofs.OwnIds.{all_ids, apart_ids}

-- ---- what one root after another reaches

-- the pointers of all roots are those that are seen
pub seen_items : (w : View) (s : ℕ) (rs : List (ℕ × Rooted)) → flat_map (λ (r : Root). map (λ (e : Reached). e.item) r.reached) (map (λ (r : ℕ × Rooted). root_seen w s r.0 r.1) rs) ≡ items_of w s rs
unfolding root_seen
seen_items w s [] = refl
seen_items w s (r ∷ rs) = ap₂ (λ (a b : List Item). a ++ b) (same (items (standing_of w s r.1))) (seen_items w s rs)
  where
    same : (es : List Item) → map (λ (e : Reached). e.item) (map (reached_at w s) es) ≡ es
    same [] = refl
    same (e ∷ es) = ap (λ (xs : List Item). e ∷ xs) (same es)

-- a bit of a used slot's map is of something that is reached
bit_is_listed : (w : View) (s : ℕ) (h : Head) (v : ℕ) → v < block_bits * map_blocks h.span → (rs : List (ℕ × Rooted)) → list_all (is_reach w s h) rs ≡ true
    → list_any (λ slot. volume_bit w s h.span slot v) (map (λ (r : ℕ × Rooted). r.0) rs) ≡ true → is_listed (items_of w s rs) v ≡ true
bit_is_listed w s h v within [] all there = absurd cc
bit_is_listed w s h v within (r ∷ rs) all there =
    let parts = and_parts (is_reach w s h r) (list_all (is_reach w s h) rs) all in
    let here : agree (volume_bit w s h.span r.0 v) (is_listed (items (standing_of w s r.1)) v) ≡ true = all_in_range (λ v. agree (volume_bit w s h.span r.0 v) (is_listed (items (standing_of w s r.1)) v)) v 0 (block_bits * map_blocks h.span) parts.0 (omega arith) (omega (arith, within)) in
    list_any-append (λ (e : Item). e.pointer.vvbn == v) (items (standing_of w s r.1)) (items_of w s rs) ∙ ⊎_elim
    (λ (bit : volume_bit w s h.span r.0 v ≡ true). or_left (is_listed (items (standing_of w s r.1)) v) _ (sym (ap (λ (b : Bool). agree b (is_listed (items (standing_of w s r.1)) v)) bit) ∙ here))
    (λ later. or_right (is_listed (items (standing_of w s r.1)) v) _ (bit_is_listed w s h v within rs parts.1 later))
    (or_cases (volume_bit w s h.span r.0 v) _ there)

-- ---- snapshots under their names

-- no snapshot of a list has a name that stands before it
no_other : (w : View) (s : ℕ) (name : List ℕ) (ps : List Snap) → list_any (is_same_name name) (map (λ p. p.name) ps) ≡ false → find name_cmp name (map (snap_told w s) ps) ≡ None
no_other w s = tables.no_other (λ p. table_at w s p.table)

-- as many snapshots are told as there are, where no two have one name
pub snap_count : (w : View) (s : ℕ) (ps : List Snap) → are_distinct (map (λ p. p.name) ps) ≡ true → fin.len (fin.from_entries {R = name_cmp} (map (snap_told w s) ps)) ≡ length ps
snap_count w s = tables.count_told (λ p. table_at w s p.table)

-- a value that is found is one of a map's
value_listed : (test : Table → Bool) (es : List (List ℕ × Table)) (name : List ℕ) (t : Table) → find name_cmp name es ≡ Some t → test t ≡ true → list_any test (map (λ (e : List ℕ × Table). e.1) es) ≡ true
value_listed test [] name t e is = absurd cc
value_listed test (x ∷ xs) name t e is = so (eq_by_cmp name_cmp name x.0) (λ f. value_listed test xs name t f is) e
  where
    so : (here : Bool) → (find name_cmp name xs ≡ Some t → list_any test (map (λ (e : List ℕ × Table). e.1) xs) ≡ true) → cond here (Some x.1) (find name_cmp name xs) ≡ Some t → (test x.1 || list_any test (map (λ (e : List ℕ × Table). e.1) xs)) ≡ true
    so true rest e = let same : x.1 ≡ t = cc in or_left (test x.1) _ (ap test same ∙ is)
    so false rest e = or_right (test x.1) _ (rest e)

-- a snapshot whose table passes is found under its name
named : (w : View) (s : ℕ) (test : Table → Bool) (ps : List Snap) → are_distinct (map (λ p. p.name) ps) ≡ true → list_any (λ p. test (table_at w s p.table)) ps ≡ true
    → (name : List ℕ) × ((t : Table) × ((find name_cmp name (map (snap_told w s) ps) ≡ Some t) × (test t ≡ true)))
named w s test [] distinct there = absurd cc
named w s test (p ∷ ps) distinct there =
    let parts = and_parts (not (list_any (is_same_name p.name) (map (λ p. p.name) ps))) _ distinct in ⊎_elim
    (λ (here : test (table_at w s p.table) ≡ true). (p.name, (table_at w s p.table, (ap (λ (b : Bool). cond b (Some (table_at w s p.table)) (find name_cmp p.name (map (snap_told w s) ps))) (itself p.name), here))))
    (λ later. let found = named w s test ps parts.1 later in (found.0, (found.1.0, (so found.0 found.1.0 (not-true _ parts.0) found.1.1.0 (eq_by_cmp name_cmp found.0 p.name) refl, found.1.1.1))))
    (or_cases (test (table_at w s p.table)) (list_any (λ p. test (table_at w s p.table)) ps) there)
  where
    itself : (name : List ℕ) → eq_by_cmp name_cmp name name ≡ true
    itself name = (eq_by_cmp_equiv name_total).refl name

    differ : (t : Table) → ◌≡◌ {A = Option Table} None (Some t) → ⊥
    differ t e = cc

    so : (name : List ℕ) (t : Table) → list_any (is_same_name p.name) (map (λ p. p.name) ps) ≡ false → find name_cmp name (map (snap_told w s) ps) ≡ Some t → (here : Bool) → eq_by_cmp name_cmp name p.name ≡ here
        → cond (eq_by_cmp name_cmp name p.name) (Some (table_at w s p.table)) (find name_cmp name (map (snap_told w s) ps)) ≡ Some t
    so name t none found false e = rw e found
    so name t none found true e =
        let same : name ≡ p.name = tied name_cmp name_ties name p.name e in
        absurd (differ t (sym (ap (λ (n : List ℕ). find name_cmp n (map (snap_told w s) ps)) same ∙ no_other w s p.name ps none) ∙ found))

-- the table of each snapshot is among those that are told
pub snap_found : (w : View) (s : ℕ) (ps : List Snap) (test : Table → Bool) → are_distinct (map (λ p. p.name) ps) ≡ true → list_any (λ p. test (table_at w s p.table)) ps ≡ true
    → list_any test (fin.values (fin.from_entries {R = name_cmp} (map (snap_told w s) ps))) ≡ true
snap_found w s ps test distinct there =
    let m = fin.from_entries {R = name_cmp} (map (snap_told w s) ps) in
    let at = named w s test ps distinct there in
    value_listed test (fin.entries m) at.0 at.1.0 (sym (fin.get-entries m at.0) ∙ fin.get-from_entries name_total (map (snap_told w s) ps) at.0 ∙ at.1.1.0) at.1.1.1

-- ---- one volume

-- the numbers of a label that the count rests on
pub record HasLabelNumbers (h : Head) : Type 0 where
  pub span : 0 < h.span
  pub active : h.active.levels ≤ 2
  pub snapshots : list_all (λ (p : Snap). nat_le p.table.levels 2) h.snapshots ≡ true

module _ (w : View) (s : ℕ) (h : Head) (small : s < 64) (there : w.head s ≡ Some h) (tables : AreTables (seen w)) (maps : AreMaps w) (numbers : HasLabelNumbers h)
    (apart_of_base : (v : ℕ) → is_listed (own_items w s h) v ≡ true → is_own w s h v ≡ true → set.contains (ids_left_out (volume_told w s h).base) (id_of (picked (own_items w s h) v)) ≡ false) where
  abbrev kept : Ids
  kept = ids_in_any (fin.values (fin.from_entries {R = name_cmp} (map (snap_told w s) h.snapshots)))

  abbrev all : Ids
  all = set.union (ids_of (table_at w s h.active)) kept

  distinct : are_distinct (map (λ p. p.name) h.snapshots) ≡ true
  unfolding has_distinct_snapshots volume_seen
  distinct = of_volume w (λ s x. are_distinct (map (λ p. p.name) x.head.snapshots)) s h tables.snapshots small there

  weaker : (p q : Item → Bool) (es : List Item) → ((e : Item) → p e ≡ true → q e ≡ true) → list_all p es ≡ true → list_all q es ≡ true
  weaker p q [] each is = refl
  weaker p q (e ∷ es) each is = let parts = and_parts (p e) (list_all p es) is in and_from (q e) _ (each e parts.0) (weaker p q es each parts.1)

  in_active : list_all (λ e. set.contains all (id_of e)) (items (standing_of w s h.active)) ≡ true
  in_active = weaker (λ e. set.contains (ids_of (table_at w s h.active)) (id_of e)) (λ e. set.contains all (id_of e)) (items (standing_of w s h.active))
      (λ e is. set.contains-union id_total (ids_of (table_at w s h.active)) kept (id_of e) ∙ or_left (set.contains (ids_of (table_at w s h.active)) (id_of e)) _ is)
      (all_ids w s h.active numbers.active)

  in_snaps : (ps : List Snap) → list_all (λ (p : Snap). nat_le p.table.levels 2) ps ≡ true → ((test : Table → Bool) → list_any (λ p. test (table_at w s p.table)) ps ≡ true → list_any (λ p. test (table_at w s p.table)) h.snapshots ≡ true)
      → list_all (λ e. set.contains all (id_of e)) (items_of w s (map (λ p. (p.slot, p.table)) ps)) ≡ true
  in_snaps [] few own = refl
  in_snaps (p ∷ ps) few own =
      let parts = and_parts (nat_le p.table.levels 2) _ few in
      list_all-append (λ e. set.contains all (id_of e)) (items (standing_of w s p.table)) (items_of w s (map (λ p. (p.slot, p.table)) ps))
      ∙ and_from (list_all (λ e. set.contains all (id_of e)) (items (standing_of w s p.table))) _
      (weaker (λ e. set.contains (ids_of (table_at w s p.table)) (id_of e)) (λ e. set.contains all (id_of e)) (items (standing_of w s p.table))
      (λ e is. set.contains-union id_total (ids_of (table_at w s h.active)) kept (id_of e) ∙ or_right (set.contains (ids_of (table_at w s h.active)) (id_of e)) _
      (in_any (fin.values (fin.from_entries {R = name_cmp} (map (snap_told w s) h.snapshots))) (id_of e) ∙ snap_found w s h.snapshots (λ t. set.contains (ids_of t) (id_of e)) distinct (own (λ t. set.contains (ids_of t) (id_of e)) (or_left (set.contains (ids_of (table_at w s p.table)) (id_of e)) _ is))))
      (all_ids w s p.table (grind (arith, nat_tests, parts.0))))
      (in_snaps ps parts.1 (λ test later. own test (or_right (test (table_at w s p.table)) _ later)))

  in_all : list_all (λ e. set.contains all (id_of e)) (own_items w s h) ≡ true
  in_all = list_all-append (λ e. set.contains all (id_of e)) (items (standing_of w s h.active)) (items_of w s (map (λ p. (p.slot, p.table)) h.snapshots))
      ∙ and_from (list_all (λ e. set.contains all (id_of e)) (items (standing_of w s h.active))) _ in_active (in_snaps h.snapshots numbers.snapshots (λ test later. later))

  -- ---- below the span

  reach : list_all (is_reach w s h) (roots_of h) ≡ true
  unfolding has_maps_of_reach
  reach = subst (λ (o : Option Head). option_map_or (λ h. list_all (is_reach w s h) (roots_of h)) o true ≡ true) there (of_slot (λ s. option_map_or (λ h. list_all (is_reach w s h) (roots_of h)) (w.head s) true) s maps.reach small)

  slots_are : used_slots h ≡ map (λ (r : ℕ × Rooted). r.0) (roots_of h)
  slots_are = ap (λ (xs : List ℕ). 0 ∷ xs) (so h.snapshots)
    where
      so : (ps : List Snap) → map (λ p. p.slot) ps ≡ map (λ (r : ℕ × Rooted). r.0) (map (λ p. (p.slot, p.table)) ps)
      so [] = refl
      so (p ∷ ps) = ap (λ (xs : List ℕ). p.slot ∷ xs) (so ps)

  -- an own entry below the span is reached
  own_listed : (v : ℕ) → v < h.span → is_own w s h v ≡ true → is_listed (own_items w s h) v ≡ true
  unfolding is_held_in
  own_listed v below own =
      let parts = and_parts (is_held_in w s h v) (not (is_active_map h v)) (and_parts (is_some (w.entry s v)) _ own).1 in
      let test : nat_lt v h.span ≡ true = grind (arith, nat_tests, below) in
      let bit : list_any (λ slot. volume_bit w s h.span slot v) (used_slots h) ≡ true = subst (λ (b : Bool). (if b then list_any (λ slot. volume_bit w s h.span slot v) (used_slots h) else list_any (λ slot. slot == map_slot h.span v) (used_slots h)) ≡ true) test parts.0 in
      let within : v < block_bits * map_blocks h.span = omega (arith, below) in
      bit_is_listed w s h v within (roots_of h) reach (subst (λ (xs : List ℕ). list_any (λ slot. volume_bit w s h.span slot v) xs ≡ true) slots_are bit)

  one : list_all (λ a. list_all (λ b. agree (has_same_id a b) (a.pointer.vvbn == b.pointer.vvbn)) (own_items w s h)) (own_items w s h) ≡ true
  unfolding has_one_to_one volume_seen
  one =
      let xs = all_items (volume_seen w s h) in
      let whole : list_all (λ a. list_all (λ b. agree (has_same_id a b) (a.pointer.vvbn == b.pointer.vvbn)) xs) xs ≡ true =
      of_volume w (λ s x. list_all (λ a. list_all (λ b. agree (has_same_id a b) (a.pointer.vvbn == b.pointer.vvbn)) (all_items x)) (all_items x)) s h tables.ids small there in
      let mine = seen_items w s (roots_of h) in
      let left = left_all (λ a. list_all (λ b. agree (has_same_id a b) (a.pointer.vvbn == b.pointer.vvbn)) xs) (flat_map (λ (r : Root). map (λ (e : Reached). e.item) r.reached) (volume_seen w s h).roots) (map (λ (b : Based). b.item) (volume_seen w s h).base) whole in
      let first = subst (λ (es : List Item). list_all (λ a. list_all (λ b. agree (has_same_id a b) (a.pointer.vvbn == b.pointer.vvbn)) xs) es ≡ true) mine left in
      weaker (λ a. list_all (λ b. agree (has_same_id a b) (a.pointer.vvbn == b.pointer.vvbn)) xs) (λ a. list_all (λ b. agree (has_same_id a b) (a.pointer.vvbn == b.pointer.vvbn)) (own_items w s h)) (own_items w s h)
      (λ a is. subst (λ (es : List Item). list_all (λ b. agree (has_same_id a b) (a.pointer.vvbn == b.pointer.vvbn)) es ≡ true) mine
      (left_all (λ b. agree (has_same_id a b) (a.pointer.vvbn == b.pointer.vvbn)) (flat_map (λ (r : Root). map (λ (e : Reached). e.item) r.reached) (volume_seen w s h).roots) (map (λ (b : Based). b.item) (volume_seen w s h).base) is)) first
    where
      left_all : (test : Item → Bool) (xs ys : List Item) → list_all test (xs ++ ys) ≡ true → list_all test xs ≡ true
      left_all test xs ys is = (and_parts (list_all test xs) (list_all test ys) (sym (list_all-append test xs ys) ∙ is)).0

  -- own, and below the span
  abbrev low : ℕ → Bool
  low v = nat_lt v h.span && is_own w s h v

  low_listed : (v : ℕ) → low v ≡ true → is_listed (own_items w s h) v ≡ true
  low_listed v is = let parts = and_parts (nat_lt v h.span) (is_own w s h v) is in own_listed v (grind (arith, nat_tests, parts.0)) parts.1

  abbrev charged : Ids
  charged = set.difference all (ids_left_out (volume_told w s h).base)

  low_apart : (v k : ℕ) → low v ≡ true → low k ≡ true → v < k → eq_by_cmp id_cmp (id_of (picked (own_items w s h) k)) (id_of (picked (own_items w s h) v)) ≡ false
  low_apart v k a b lt =
      let es = own_items w s h in
      let row = picked_all (λ a. list_all (λ b. agree (has_same_id a b) (a.pointer.vvbn == b.pointer.vvbn)) es) es v (low_listed v a) one in
      let pair = picked_all (λ b. agree (has_same_id (picked es v) b) ((picked es v).pointer.vvbn == b.pointer.vvbn)) es k (low_listed k b) row in
      let first = picked_is es v (low_listed v a) in
      let second = picked_is es k (low_listed k b) in
      apart_ids (picked es v) (picked es k) pair (λ e. absurd (omega (arith, first, second, e, lt)))

  low_within : passing (is_own w s h) 0 h.span ≤ set.len charged
  low_within =
      let same : passing (is_own w s h) 0 h.span ≡ passing low 0 h.span = passing_same (is_own w s h) low 0 0 h.span (λ j lt. let test : nat_lt (0 + j) h.span ≡ true = grind (arith, nat_tests, lt) in ap (λ (b : Bool). b && is_own w s h (0 + j)) (sym test)) in
      let few = count_within id_total low (λ v. id_of (picked (own_items w s h) v)) low_apart 0 h.span charged (λ v least most is.
      let listed = low_listed v is in
      set.contains-difference id_total all (ids_left_out (volume_told w s h).base) (id_of (picked (own_items w s h) v))
      ∙ ap₂ (λ (a b : Bool). a && not b) (picked_all (λ e. set.contains all (id_of e)) (own_items w s h) v listed in_all) (apart_of_base v listed (and_parts (nat_lt v h.span) (is_own w s h v) is).1)) in
      omega (arith, same, few)

  -- ---- past it

  abbrev snap_slots : List ℕ
  snap_slots = map (λ p. p.slot) h.snapshots

  abbrev high : ℕ → Bool
  high v = nat_le h.span v && is_own w s h v

  some_blocks : 0 < map_blocks h.span
  some_blocks = let span = numbers.span in omega (arith, span)

  high_slot : (v : ℕ) → high v ≡ true → list_any (λ slot. slot == map_slot h.span v) snap_slots ≡ true
  unfolding is_held_in
  high_slot v is =
      let parts = and_parts (nat_le h.span v) (is_own w s h v) is in
      let past : h.span ≤ v = grind (arith, nat_tests, parts.0) in
      let own = and_parts (is_held_in w s h v) (not (is_active_map h v)) (and_parts (is_some (w.entry s v)) _ parts.1).1 in
      let test : nat_lt v h.span ≡ false = grind (arith, nat_tests, past) in
      let held : list_any (λ slot. slot == map_slot h.span v) (used_slots h) ≡ true = subst (λ (b : Bool). (if b then list_any (λ slot. volume_bit w s h.span slot v) (used_slots h) else list_any (λ slot. slot == map_slot h.span v) (used_slots h)) ≡ true) test own.0 in ⊎_elim
      (λ (active : (0 == map_slot h.span v) ≡ true).
      let zero_slot : map_slot h.span v ≡ 0 = grind (arith, nat_tests, active) in
      let near : v < h.span + map_blocks h.span = in_first h.span v some_blocks zero_slot in
      let le : nat_le h.span v ≡ true = parts.0 in
      let lt : nat_lt v (h.span + map_blocks h.span) ≡ true = grind (arith, nat_tests, near) in
      absurd (both_ways (is_active_map h v) (not-true (is_active_map h v) own.1) (and_from (nat_le h.span v) _ le lt)))
      (λ later. later)
      (or_cases (0 == map_slot h.span v) (list_any (λ slot. slot == map_slot h.span v) snap_slots) held)

  high_within : passing (is_own w s h) h.span (25 * map_blocks h.span) ≤ map_blocks h.span * length h.snapshots
  high_within =
      let n = 25 * map_blocks h.span in
      let same : passing (is_own w s h) h.span (25 * map_blocks h.span) ≡ passing high h.span (25 * map_blocks h.span) = passing_same (is_own w s h) high h.span h.span (25 * map_blocks h.span) (λ j lt. let test : nat_le h.span (h.span + j) ≡ true = grind (arith, nat_tests) in ap (λ (b : Bool). b && is_own w s h (h.span + j)) (sym test)) in
      let less = within_two high (λ v. list_any (λ slot. slot == map_slot h.span v) snap_slots) (λ v. false) h.span (25 * map_blocks h.span) (λ k. so k (high k) refl) in
      let none : passing (λ v. false) h.span (25 * map_blocks h.span) ≡ 0 = none_between (λ v. false) h.span (25 * map_blocks h.span) (λ k low high. refl) in
      let few = in_slots h.span (map_blocks h.span) snap_slots (25 * map_blocks h.span) some_blocks in
      let long : map_blocks h.span * length snap_slots ≡ map_blocks h.span * length h.snapshots = ap (λ (k : ℕ). map_blocks h.span * k) (length-map h.snapshots (λ (p : Snap). p.slot)) in
      omega (arith, same, less, none, few, long)
    where
      so : (k : ℕ) (b : Bool) → high k ≡ b → cond {A = ℕ} b 1 0 ≤ cond (list_any (λ slot. slot == map_slot h.span k) snap_slots) 1 0 + 0
      so k true e = let there : cond {A = ℕ} (list_any (λ slot. slot == map_slot h.span k) snap_slots) 1 0 ≡ 1 = ap {B = ℕ} (λ t. cond t 1 0) (high_slot k e) in omega (arith, there)
      so k false e = omega arith

  snaps_told : ℕ
  snaps_told = fin.len (fin.from_entries {R = name_cmp} (map (snap_told w s) h.snapshots))

  charge_is : charge (volume_told w s h) ≡ set.len charged + map_blocks h.span * snaps_told
  unfolding charge volume_with snaps_told
  charge_is = refl

  -- Its entries of its own are at most what it uses.
  pub own_within : count_by (is_own w s h) (vvbns h.span) ≤ use_of (volume_told w s h)
  unfolding vvbns snaps_told
  own_within =
      let whole : count_by (is_own w s h) (vvbns h.span) ≡ passing (is_own w s h) 0 (h.span + 25 * map_blocks h.span) = refl in
      let parts : passing (is_own w s h) 0 (h.span + 25 * map_blocks h.span) ≡ passing (is_own w s h) 0 h.span + passing (is_own w s h) (0 + h.span) (25 * map_blocks h.span) = passing-add (is_own w s h) 0 h.span (25 * map_blocks h.span) in
      let start : passing (is_own w s h) (0 + h.span) (25 * map_blocks h.span) ≡ passing (is_own w s h) h.span (25 * map_blocks h.span) = ap (λ (k : ℕ). passing (is_own w s h) k (25 * map_blocks h.span)) (let e : 0 + h.span ≡ h.span = omega arith in e) in
      let count : map_blocks h.span * snaps_told ≡ map_blocks h.span * length h.snapshots = ap (λ (k : ℕ). map_blocks h.span * k) (snap_count w s h.snapshots distinct) in
      sums (count_by (is_own w s h) (vvbns h.span)) (passing (is_own w s h) 0 h.span) (passing (is_own w s h) h.span (25 * map_blocks h.span)) (set.len charged) (map_blocks h.span * length h.snapshots) (need (volume_told w s h))
      (charge (volume_told w s h)) (whole ∙ parts ∙ ap (λ (k : ℕ). passing (is_own w s h) 0 h.span + k) start) low_within high_within (charge_is ∙ ap (λ (k : ℕ). set.len charged + k) count)
    where
      sums : (total a b c d n k : ℕ) → total ≡ a + b → a ≤ c → b ≤ d → k ≡ c + d → total ≤ k + n
      sums total a b c d n k whole first second is = omega arith
