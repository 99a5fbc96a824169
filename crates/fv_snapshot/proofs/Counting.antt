-- What a volume is charged for, of whose tables nothing is in memory, is what its maps count.
use Rattle.std.proofs.Common.{◌≡◌, ◌≢◌, ℕ, zero, suc, ◌+◌, ◌*◌, ◌<◌, ◌≤◌, Bool, true, false, not, ◌&&◌, ◌||◌, List, [], ◌∷◌, ◌++◌, length, map, flat_map, inl, inr, ◌⊎◌, Option, Some, None, is_some, refl, sym, ap, ap₂, subst, ◌∙◌, ⊎_elim, arith}
use Rattle.std.specs.Option.{option_map}
use Rattle.std.specs.Prelude.{◌==◌, All, IfSome, cond, find, nat_le, nat_lt, take, if◌then◌else◌}
use Rattle.std.specs.List.{list_any, range_with_len}
use Rattle.std.specs.FinMap as fin
use Rattle.std.specs.FinSet as set
use Rattle.std.proofs.lemmas.Bool.{and_parts, cases_eq, or_cases, or_left, or_right, not-true, true≢false}
use Rattle.std.proofs.lemmas.Bool.Decides.{nat_tests}
use Rattle.std.proofs.lemmas.List.{length-map}
use Rattle.fv_disk.specs.Shown.{Shown as Disk}
use Rattle.fv_bits.specs.Members.{count_of, is_member}
use Rattle.fv_bits.proofs.Counts.{passing, passing_same}
use Rattle.fv_image.specs.Mapped.{stored_slots}
use Rattle.fv_model.specs.Spelling.{is_same_name, name_cmp}
use Rattle.fv_model.specs.Places.{Id, Ids, id_cmp, ids_of}
use Rattle.fv_model.specs.Space.{charge, ids_in_any, ids_left_out, kept_ids, map_blocks}
use Rattle.fv_model.specs.Tables.{Table}
use Rattle.fv_laws.proofs.Lists.{In, from_map, from_range, in_either, in_flat_map, in_left, in_map, in_range, in_right}
use Rattle.fv_laws.proofs.Orders.{id_ties, id_total, name_ties, name_total}
use Rattle.fv_laws.proofs.Release.{in_any}
use Rattle.fv_laws.proofs.Snapshots.{any_inserted}
use Rattle.fv_laws.proofs.Tests.{from_all, from_any, iff, to_any}
use Rattle.fv_tables.specs.Ids.{ids_in, is_charged}
use Rattle.fv_tables.specs.Reached.{Item, is_listed, items}
use Rattle.fv_tables.specs.Told.{standing_at, table_told}
use Rattle.fv_tables.proofs.IdsTold.{ids_told}
use Rattle.fv_tables.proofs.Listed.{IsOneToOne, from_ids, in_ids, listed_exact, listed_in, picked, picked_in}
use Rattle.fv_charge.specs.Counted.{charge_counted, count_apart, count_held, is_apart}
use Rattle.fv_image.specs.ReachRules.{are_distinct}
use Rattle.fv_image.specs.Views.{Snap as HeadSnap}
use Rattle.fv_image.specs.Volumes.{snap_at}
use Rattle.fv_image.proofs.SnapTables.{count_told, no_other}
use Rattle.fv_image.proofs.Uses.{no_entries}
use Rattle.fv_volmap.specs.Slots.{AreUnited, IsVolume, Slot, has, slot_at, slot_of_base, stored_count, taken_in}
use Rattle.fv_pool.specs.declared.pool.Pool.{Pool}
use Rattle.fv_volume.specs.declared.state.Base.{Base as StateBase}
use Rattle.fv_volume.specs.declared.state.Snap.{Snap}
use Rattle.fv_volume.specs.declared.state.VolumeState.{VolumeState}
use Rattle.fv_volume.specs.Files.{IsLabelled}
use Rattle.fv_volume.specs.OneVolume.{base_by, base_table, blocks_in, tables_of, snaps_by, standing_kept, table_for, volume_for, IsKeptTable, RootStands}
use Rattle.fv_volume.specs.SnapRecords.{IsSayableSnap}
use Rattle.fv_volume.specs.States.{footing_in, head_in, snap_in, snaps_in}
use Rattle.fv_volume.proofs.CountedMaps.{any_taken, members}
use Rattle.fv_volume.proofs.EachRoot.{all_in}
use Rattle.fv_volume.proofs.KeptReads.{each_sayable}
use Rattle.fv_pool.proofs.Shows.{slot_below}
use Rattle.fv_volume.proofs.OwnIds.{all_items, items_in, of_own, out_of, own_root, own_roots, root_lies}
use Rattle.fv_snapshot.proofs.Told.{by_heads, table_of}

-- ---- ids

-- what is asked of the tables that are told is asked of those of the snapshots
any_told : (table : HeadSnap → Table) (test : Table → Bool) (ps : List HeadSnap) → are_distinct (map (λ p. p.name) ps) ≡ true
    → list_any test (fin.values (fin.from_entries {R = name_cmp} (map (λ (p : HeadSnap). (p.name, table p)) ps))) ≡ list_any (λ p. test (table p)) ps
any_told table test [] distinct = ap (λ (es : List (List ℕ × Table)). list_any test (map (λ (e : List ℕ × Table). e.1) es)) (no_entries name_cmp)
any_told table test (p ∷ ps) distinct =
    let parts = and_parts (not (list_any (is_same_name p.name) (map (λ p. p.name) ps))) _ distinct in
    let m : fin.FinMap name_cmp Table = fin.from_entries (map (λ (p : HeadSnap). (p.name, table p)) ps) in
    let none : fin.get m p.name ≡ None = fin.get-from_entries name_total (map (λ (p : HeadSnap). (p.name, table p)) ps) p.name ∙ no_other table p.name ps (not-true _ parts.0) in
    any_inserted name_total name_ties test m p.name (table p) none ∙ ap (λ (b : Bool). test (table p) || b) (any_told table test ps parts.1)

-- the ids of two lists
ids_append : (a b : List Item) (q : Id) → set.contains (ids_in (a ++ b)) q ≡ (set.contains (ids_in a) q || set.contains (ids_in b) q)
ids_append a b q = iff _ _
    (λ there. let found = from_ids (a ++ b) q there in ⊎_elim
    (λ first. or_left (set.contains (ids_in a) q) _ (subst (λ (k : Id). set.contains (ids_in a) k ≡ true) found.1.1 (in_ids a found.0 first)))
    (λ second. or_right (set.contains (ids_in a) q) _ (subst (λ (k : Id). set.contains (ids_in b) k ≡ true) found.1.1 (in_ids b found.0 second)))
    (in_either found.0 a b found.1.0))
    (λ one. ⊎_elim
    (λ first. let found = from_ids a q first in subst (λ (k : Id). set.contains (ids_in (a ++ b)) k ≡ true) found.1.1 (in_ids (a ++ b) found.0 (in_left found.0 a b found.1.0)))
    (λ second. let found = from_ids b q second in subst (λ (k : Id). set.contains (ids_in (a ++ b)) k ≡ true) found.1.1 (in_ids (a ++ b) found.0 (in_right found.0 a b found.1.0)))
    (or_cases (set.contains (ids_in a) q) (set.contains (ids_in b) q) one))

module _ (active : Table) (first : List Item) (same : ids_of active ≡ ids_in first) (table : HeadSnap → Table) (its : HeadSnap → List Item) where
  -- the ids of the tables of some snapshots
  each_ids : (ps : List HeadSnap) → ((p : HeadSnap) → In p ps → ids_of (table p) ≡ ids_in (its p)) → (q : Id) → list_any (λ p. set.contains (ids_of (table p)) q) ps ≡ set.contains (ids_in (flat_map its ps)) q
  each_ids [] each q = sym (set.contains-empty id_cmp q)
  each_ids (p ∷ ps) each q =
      ap₂ (λ (a b : Bool). a || b) (ap (λ (i : Ids). set.contains i q) (each p (inl refl))) (each_ids ps (λ r there. each r (inr there)) q)
      ∙ sym (ids_append (its p) (flat_map its ps) q)

  -- The ids of an active table and of all snapshots are those of what their roots reach.
  all_ids : (ps : List HeadSnap) → are_distinct (map (λ p. p.name) ps) ≡ true → ((p : HeadSnap) → In p ps → ids_of (table p) ≡ ids_in (its p))
      → set.union (ids_of active) (ids_in_any (fin.values (fin.from_entries {R = name_cmp} (map (λ (p : HeadSnap). (p.name, table p)) ps)))) ≡ ids_in (first ++ flat_map its ps)
  all_ids ps distinct each = set.same_set id_total id_ties _ _ (λ q.
      set.contains-union id_total (ids_of active) (ids_in_any (fin.values (fin.from_entries {R = name_cmp} (map (λ (p : HeadSnap). (p.name, table p)) ps)))) q
      ∙ ap₂ (λ (a b : Bool). a || b) (ap (λ (i : Ids). set.contains i q) same)
      (in_any (fin.values (fin.from_entries {R = name_cmp} (map (λ (p : HeadSnap). (p.name, table p)) ps))) q ∙ any_told table (λ t. set.contains (ids_of t) q) ps distinct ∙ each_ids ps each q)
      ∙ sym (ids_append first (flat_map its ps) q))

-- ---- a volume

-- a snapshot has a slot of a head's
found_snap : (snaps : List Snap) (k : ℕ) → is_some (find (λ p. p.slot == k) (snaps_in snaps)) ≡ true → (q : Snap) × (In q snaps × (q.slot ≡ k))
found_snap [] k is = absurd cc
found_snap (q ∷ qs) k is = by (q.slot == k) refl (λ there. found_snap qs k there) is
  where
    by : (b : Bool) → (q.slot == k) ≡ b → (is_some (find (λ p. p.slot == k) (snaps_in qs)) ≡ true → (r : Snap) × (In r qs × (r.slot ≡ k))) → is_some (if b then Some (snap_in q) else find (λ p. p.slot == k) (snaps_in qs)) ≡ true → (r : Snap) × (In r (q ∷ qs) × (r.slot ≡ k))
    by true e later is = (q, (inl refl, let same : q.slot ≡ k = grind (arith, nat_tests, e) in same))
    by false e later is = let rest = later is in (rest.0, (inr rest.1.0, rest.1.1))

module _ (d : Disk) (p : Pool) (x : VolumeState) (root : RootStands d p x 0 x.active) (kept : All (IsKeptTable d p x) (tables_of x)) (table : table_for d p x ≡ table_told (standing_at (blocks_in d p x 0) x.active.levels x.active.root))
    (whole : IsVolume x.map) (labelled : IsLabelled x.slot x) where
  abbrev es : List Item
  es = all_items d p x

  abbrev out : List Item
  out = out_of d p x x.base

  -- the slot of its base has what the base table reaches
  out_reach : (v : ℕ) → has v (slot_at x.map slot_of_base) ≡ is_listed out v
  out_reach v = by x.base refl
    where
      free : (s : Slot) → is_some s ≡ false → has v s ≡ false
      free None e = refl
      free (Some m) e = absurd cc

      by : (o : Option StateBase) → x.base ≡ o → has v (slot_at x.map slot_of_base) ≡ is_listed (out_of d p x o) v
      by None e = free (slot_at x.map slot_of_base) (labelled.slots.base ∙ ap (λ (o : Option StateBase). is_some (option_map footing_in o)) e)
      by (Some b) e = (all_in (IsKeptTable d p x) (tables_of x) kept (record { slot = slot_of_base; name = b.snapshot; table = b.table })
          (in_left (record { slot = slot_of_base; name = b.snapshot; table = b.table }) (base_table x.base) x.snapshots
          (subst (λ (o : Option StateBase). In (record { slot = slot_of_base; name = b.snapshot; table = b.table }) (base_table o)) (sym e) (inl refl)))).1.reach v

  -- its slots on the disk have what its roots reach
  has_listed : (k v : ℕ) → k < stored_count → has v (slot_at x.map k) ≡ true → is_listed es v ≡ true
  unfolding snap_at
  has_listed k v low here = ⊎_elim
      (λ (first : k ≡ 0). listed_left (sym (root.reach v) ∙ ap (λ (n : ℕ). has v (slot_at x.map n)) (sym first) ∙ here))
      (λ (other : k ≢ 0).
      let snap = found_snap x.snapshots k (sym (labelled.slots.each k other (λ (e : k ≡ slot_of_base). absurd (omega (arith, low, e)))) ∙ used (slot_at x.map k) here) in
      let its = all_in (IsKeptTable d p x) (tables_of x) kept snap.0 (in_right snap.0 (base_table x.base) x.snapshots snap.1.0) in
      listed_right snap.0 snap.1.0 (sym (its.1.reach v) ∙ ap (λ (n : ℕ). has v (slot_at x.map n)) snap.1.1 ∙ here))
      (cases_eq k 0)
    where
      used : (s : Slot) → has v s ≡ true → is_some s ≡ true
      used None is = absurd cc
      used (Some m) is = refl

      listed_left : is_listed (items_in d p x 0 (head_in x).active) v ≡ true → is_listed es v ≡ true
      listed_left is = let at = picked_in (items_in d p x 0 (head_in x).active) v is in
          subst (λ (n : ℕ). is_listed es n ≡ true) at.1 (listed_in es (picked (items_in d p x 0 (head_in x).active) v) (in_left _ (items_in d p x 0 (head_in x).active) (flat_map (λ (q : HeadSnap). items_in d p x q.slot q.table) (snaps_in x.snapshots)) at.0))

      listed_right : (q : Snap) → In q x.snapshots → is_listed (items_in d p x q.slot (snap_in q).table) v ≡ true → is_listed es v ≡ true
      listed_right q there is = let at = picked_in (items_in d p x q.slot (snap_in q).table) v is in
          subst (λ (n : ℕ). is_listed es n ≡ true) at.1 (listed_in es (picked (items_in d p x q.slot (snap_in q).table) v)
          (in_right _ (items_in d p x 0 (head_in x).active) (flat_map (λ (q : HeadSnap). items_in d p x q.slot q.table) (snaps_in x.snapshots))
          (in_flat_map (λ (q : HeadSnap). items_in d p x q.slot q.table) (snap_in q) _ (snaps_in x.snapshots) (in_map snap_in q x.snapshots there) at.0)))

  -- and what a root reaches some of them has
  item_has : (e : Item) → In e es → (k : ℕ) × ((k < stored_count) × (has e.pointer.vvbn (slot_at x.map k) ≡ true))
  item_has e there =
      let at = of_own d p x e there in
      (at.0.slot, (low at.0 at.1.0, (root_lies d p x root kept at.0 (own_root x at.0 at.1.0)).reach e.pointer.vvbn ∙ listed_in (items (standing_kept (blocks_in d p x) at.0)) e at.1.1))
    where
      low : (q : Snap) → In q (own_roots x) → q.slot < stored_count
      low q (inl same) = let at : 0 ≡ q.slot = ap (λ (r : Snap). r.slot) same in omega (arith, at)
      low q (inr there) =
          let bounds = and_parts (nat_le 1 q.slot) _ (from_all (λ (h : HeadSnap). nat_le 1 h.slot && nat_lt h.slot stored_slots) (head_in x).snapshots labelled.snapshots.slots.within (snap_in q) (in_map snap_in q x.snapshots there)) in
          grind (arith, nat_tests, bounds.1)

  -- so it lies below the span
  below : (e : Item) → In e es → e.pointer.vvbn < x.span
  below e there = let at = item_has e there in let low = slot_below x.map whole at.0 e.pointer.vvbn at.1.1 in let same = labelled.map in omega (arith, low, same)

  -- Those slots have together what the roots reach.
  taken_listed : (v : ℕ) → taken_in (take stored_count x.map.slots) v ≡ is_listed es v
  taken_listed v = any_taken (has v) None refl x.map.slots stored_count ∙ iff _ _
      (λ taken. let at = from_any (λ k. has v (slot_at x.map k)) (range_with_len 0 stored_count) taken in
      has_listed at.0 v (let bounds = from_range 0 stored_count at.0 at.1.0 in let high = bounds.1 in omega (arith, high)) at.1.1)
      (λ listed. let item = picked_in es v listed in let at = item_has (picked es v) item.0 in let low = at.1.0 in
      to_any (λ k. has v (slot_at x.map k)) at.0 (range_with_len 0 stored_count) (in_range 0 stored_count at.0 (omega arith) (omega (arith, low))) (ap (λ (n : ℕ). has n (slot_at x.map at.0)) (sym item.1) ∙ at.1.1))

  -- the ids of a snapshot's table are those of what its root reaches
  kept_ids_of : (q : HeadSnap) → In q (snaps_in x.snapshots) → ids_of (table_of (blocks_in d p x) q) ≡ ids_in (items_in d p x q.slot q.table)
  kept_ids_of q there =
      let snap = from_map snap_in q x.snapshots there in
      let said = all_in (λ (s : Snap). IsSayableSnap (snap_in s)) x.snapshots (each_sayable x.snapshots labelled.snapshots.each) snap.0 snap.1 in
      subst (λ (h : HeadSnap). ids_of (table_of (blocks_in d p x) h) ≡ ids_in (items_in d p x h.slot h.table)) snap.2
      (ids_told (blocks_in d p x snap.0.slot) snap.0.table.levels snap.0.table.root said.levels)

  -- A set that has what the slots have together is counted to the charge, without what the slot of the base has, where its blocks have one id each.
  pub counted_is_charge : IfSome x.base (λ b. (b.splitting ≡ false) × (b.table.levels ≤ 2)) → are_distinct (map (λ p. p.name) (snaps_in x.snapshots)) ≡ true → IsOneToOne (es ++ out) → (union : List Bool) → AreUnited x.map union
      → charge_counted union (slot_at x.map slot_of_base) (length x.snapshots) x.span ≡ charge (volume_for d p x)
  unfolding charge count_apart
  counted_is_charge based distinct one union united = λ i. counted i + map_blocks x.span * (sym many) i
    where
      union_is : set.union (ids_of (table_for d p x)) (kept_ids (volume_for d p x)) ≡ ids_in es
      union_is =
          ap (λ (m : List (List ℕ × Table)). set.union (ids_of (table_for d p x)) (ids_in_any (fin.values (fin.from_entries {R = name_cmp} m)))) (by_heads (blocks_in d p x) x.snapshots)
          ∙ all_ids (table_for d p x) (items_in d p x 0 (head_in x).active) (ap ids_of table ∙ ids_told (blocks_in d p x 0) x.active.levels x.active.root labelled.levels)
          (table_of (blocks_in d p x)) (λ q. items_in d p x q.slot q.table) (snaps_in x.snapshots) distinct kept_ids_of

      out_is : ids_left_out (volume_for d p x).base ≡ ids_in out
      out_is = by x.base based
        where
          by : (o : Option StateBase) → IfSome o (λ b. (b.splitting ≡ false) × (b.table.levels ≤ 2)) → ids_left_out (base_by (blocks_in d p x) o) ≡ ids_in (out_of d p x o)
          by None is = refl
          by (Some b) is = ap (λ (t : Bool). cond t set.empty (ids_of (table_told (standing_at (blocks_in d p x slot_of_base) b.table.levels b.table.root)))) is.0 ∙ ids_told (blocks_in d p x slot_of_base) b.table.levels b.table.root is.1

      member_is : (v : ℕ) → is_member union v ≡ is_listed es v
      member_is v = united.members v ∙ taken_listed v

      exact : passing (is_charged es out) 0 x.span ≡ set.len (set.difference (set.union (ids_of (table_for d p x)) (kept_ids (volume_for d p x))) (ids_left_out (volume_for d p x).base))
      exact = listed_exact es out one x.span below ∙ (λ i. set.len (set.difference (sym union_is i) (sym out_is i)))

      plain : (a b : Bool) → b ≡ false → a ≡ (a && not b)
      plain true b e = sym (ap not e)
      plain false b e = refl

      counted_by : (s : Slot) → ((v : ℕ) → has v s ≡ is_listed out v) → count_held union s ≡ passing (is_charged es out) 0 x.span
      counted_by None has_it =
          members union ∙ ap (passing (is_member union) 0) (united.len ∙ labelled.map)
          ∙ passing_same (is_member union) (is_charged es out) 0 0 x.span (λ j low. member_is (0 + j) ∙ plain (is_listed es (0 + j)) (is_listed out (0 + j)) (sym (has_it (0 + j))))
      counted_by (Some m) has_it =
          ap (passing (is_apart union m) 0) (united.len ∙ labelled.map)
          ∙ passing_same (is_apart union m) (is_charged es out) 0 0 x.span (λ j low i. member_is (0 + j) i && not (has_it (0 + j) i))

      counted : count_held union (slot_at x.map slot_of_base) ≡ set.len (set.difference (set.union (ids_of (table_for d p x)) (kept_ids (volume_for d p x))) (ids_left_out (volume_for d p x).base))
      counted = counted_by (slot_at x.map slot_of_base) out_reach ∙ exact

      many : fin.len (snaps_by (blocks_in d p x) x.snapshots) ≡ length x.snapshots
      many =
          ap (λ (es : List (List ℕ × Table)). fin.len (fin.from_entries {R = name_cmp} es)) (by_heads (blocks_in d p x) x.snapshots)
          ∙ count_told (table_of (blocks_in d p x)) (snaps_in x.snapshots) distinct ∙ length-map x.snapshots snap_in
