-- The ids of a volume's active table that stay charged when a change replaces them are those whose blocks a snapshot or the base has, too: those at
-- places that stand in a block of the map of another slot.
use Rattle.std.proofs.Common.{◌+◌, zero, suc, ◌≡◌, ◌≢◌, ◌≤◌, ℕ, Bool, true, false, not, ◌&&◌, ◌||◌, List, [], ◌∷◌, map, ◌++◌, Option, Some, None, is_some, inl, inr, ⊎_elim, ◌⊎◌, cond, refl, sym, ap, subst, ◌∙◌, arith}
use Rattle.std.specs.Prelude.{IfSome, drop, find, if◌then◌else◌, slice_index_or, ◌==◌}
use Rattle.std.specs.List.{list_all}
use Rattle.std.specs.Option.{option_map, option_map_or}
use Rattle.std.specs.FinSet as set
use Rattle.std.proofs.lemmas.Bool.{and_parts, cases_eq, or_cases, or_left, or_right}
use Rattle.std.proofs.lemmas.Bool.Decides.{nat_tests}
use Rattle.fv_disk.specs.Shown.{Shown as Disk}
use Rattle.fv_codec.specs.declared.inode.InodeRecord.{InodeRecord}
use Rattle.fv_codec.specs.declared.pointer.Pointer.{Pointer}
use Rattle.fv_model.specs.Places.{Id, InodeFile, OfFile, Owner, id_cmp, ids_of, placed}
use Rattle.fv_model.specs.Space.{ids_left_out, kept_ids}
use Rattle.fv_model.specs.Volumes.{Volume}
use Rattle.fv_laws.specs.Positions.{settled_ids, IsNextNew}
use Rattle.fv_laws.specs.Settled.{is_settled}
use Rattle.fv_laws.specs.WellFormed.{IsWellTable}
use Rattle.fv_laws.proofs.Lists.{In, in_either, in_right}
use Rattle.fv_laws.proofs.Orders.{id_total}
use Rattle.fv_laws.proofs.Stamps.{get-stamps_of, stands}
use Rattle.fv_laws.proofs.Tests.{iff}
use Rattle.fv_tables.specs.Ids.{owner_of}
use Rattle.fv_tables.specs.Reached.{Item, is_listed, items}
use Rattle.fv_tables.specs.Spelled.{Under, hole, pointer_at, stamp_in}
use Rattle.fv_tables.specs.Told.{standing_at, table_told, tree_of, tree_told}
use Rattle.fv_tables.proofs.Items.{from_trees}
use Rattle.fv_tables.proofs.Listed.{picked, picked_all, picked_is}
use Rattle.fv_tables.proofs.TablePlaces as place
use Rattle.fv_tree.specs.Flushing.{Loaded}
use Rattle.fv_tree.specs.Standing.{under}
use Rattle.fv_files.specs.Apart.{Trees, stored_trees}
use Rattle.fv_files.specs.Sharing.{SettlesShared, owner_in}
use Rattle.fv_image.specs.Views.{Snap as HeadSnap}
use Rattle.fv_image.specs.Volumes.{snap_at}
use Rattle.fv_volmap.specs.Slots.{Slot, has, is_elsewhere, slot_at, slot_of_base, taken_in}
use Rattle.fv_pool.specs.declared.pool.Pool.{Pool}
use Rattle.fv_volume.specs.declared.state.Base.{Base as StateBase}
use Rattle.fv_volume.specs.declared.state.Snap.{Snap}
use Rattle.fv_volume.specs.declared.state.VolumeState.{VolumeState}
use Rattle.fv_volume.specs.Files.{IsLabelled}
use Rattle.fv_volume.specs.OneVolume.{blocks_in, shows, standing_kept, trees_for, volume_for, base_by, base_table, tables_of, IsKeptTable, IsStanding}
use Rattle.fv_volume.specs.Sharing.{differs_in, pointer_in, trees_kept, SharesWith}
use Rattle.fv_volume.specs.States.{footing_in, head_in, snap_in}
use Rattle.fv_volume.proofs.EachRoot.{all_in}
use Rattle.fv_volume.proofs.KeptStamps.{past_stamp, stamp_some}
use Rattle.fv_volume.proofs.SharedRoots.{stored_place, stored_same}
use Rattle.fv_volume.proofs.SnapIds.{by_stamp, has_id, in_kept, of_id, of_kept}
use Rattle.fv_volume.proofs.TablesOf.{is_whole}

-- ---- lists

-- a number that one of the slots has is taken
pub taken_by : (slots : List Slot) (v k : ℕ) → has v (slice_index_or slots k None) ≡ true → taken_in slots v ≡ true
taken_by [] v k is = absurd cc
taken_by (s ∷ ss) v zero is = or_left (has v s) (taken_in ss v) is
taken_by (s ∷ ss) v (suc k) is = or_right (has v s) (taken_in ss v) (taken_by ss v k is)

-- A number that is taken one of the slots has.
pub taken_some : (slots : List Slot) (v : ℕ) → taken_in slots v ≡ true → (k : ℕ) × (has v (slice_index_or slots k None) ≡ true)
taken_some [] v is = absurd cc
taken_some (s ∷ ss) v is = elim (or_cases (has v s) (taken_in ss v) is) [
  | inl here ↦ (zero, here)
  | inr later ↦ (let rest = taken_some ss v later in (suc rest.0, rest.1))
]

-- a slot that has a number is used
pub has_used : (s : Slot) (v : ℕ) → has v s ≡ true → is_some s ≡ true
has_used None v is = absurd cc
has_used (Some m) v is = refl

after_first : (slots : List Slot) (k : ℕ) → slice_index_or (drop 1 slots) k None ≡ slice_index_or slots (suc k) None
after_first [] k = refl
after_first (s ∷ ss) k = refl

-- a snapshot has a slot of a head's
slot_of : (snaps : List Snap) (k : ℕ) → is_some (find (λ (p : HeadSnap). p.slot == k) (map snap_in snaps)) ≡ true → (q : Snap) × (In q snaps × (q.slot ≡ k))
slot_of [] k is = absurd cc
slot_of (q ∷ qs) k is = so (slot_of qs k) (q.slot == k) refl is
  where
    so : (is_some (find (λ (p : HeadSnap). p.slot == k) (map snap_in qs)) ≡ true → (p : Snap) × (In p qs × (p.slot ≡ k))) → (b : Bool) → (q.slot == k) ≡ b → is_some (if b then Some (snap_in q) else find (λ (p : HeadSnap). p.slot == k) (map snap_in qs)) ≡ true → (p : Snap) × (In p (q ∷ qs) × (p.slot ≡ k))
    so rest true same is = (q, (inl refl, grind (arith, nat_tests, same)))
    so rest false other is = let p = rest is in (p.0, (inr p.1.0, p.1.1))

-- so has a snapshot of the volume
pub slot_found : (x : VolumeState) (k : ℕ) → is_some (snap_at (head_in x) k) ≡ true → (q : Snap) × (In q x.snapshots × (q.slot ≡ k))
unfolding snap_at
slot_found x k is = slot_of x.snapshots k is

-- ---- what a table reaches, by its places

-- a table over blocks has few levels
pub few_levels : (now : ℕ) (blocks : Under) (levels : ℕ) (root : Pointer) → IsWellTable now (table_told (standing_at blocks levels root)) → levels ≤ 2
unfolding table_told tree_told
few_levels now blocks levels root well = well.levels

-- a place of a table that leads to a VVBN
pub record LeadsHere (t : Trees) (v : ℕ) : Type 0 where
  pub owner : Option ℕ
  pub level : ℕ
  pub index : ℕ
  pub some : (pointer_in (t owner) level index).stamp ≢ 0
  pub vvbn : (pointer_in (t owner) level index).vvbn ≡ v

-- the tree of an owner
abbrev pub number_of : Owner → Option ℕ
number_of InodeFile = None
number_of (OfFile n) = Some n

back_owner : (o : Owner) → owner_in (number_of o) ≡ o
back_owner InodeFile = refl
back_owner (OfFile n) = refl

module _ (blocks : Under) (levels : ℕ) (root : Pointer) (few : levels ≤ 2) where
  abbrev at : Owner → ℕ → ℕ → Pointer
  at = place.pointer_in blocks levels root

  abbrev is_stood : Item → Bool
  is_stood e = not ((at (owner_of e.owner) e.level e.place).stamp == 0) && (e.pointer.vvbn == (at (owner_of e.owner) e.level e.place).vvbn)

  stood : (q : Pointer) (v : ℕ) → q.stamp ≢ 0 → q.vvbn ≡ v → (not (q.stamp == 0) && (v == q.vvbn)) ≡ true
  stood q v some is = let first : (q.stamp == 0) ≡ false = grind (arith, nat_tests, some) in let second : (v == q.vvbn) ≡ true = grind (arith, nat_tests, is) in (λ i. not (first i) && second i)

  all_stood : list_all is_stood (items (standing_at blocks levels root)) ≡ true
  all_stood = from_trees is_stood (standing_at blocks levels root)
      (λ level index some. stood (at InodeFile level index) (at InodeFile level index).vvbn some refl)
      (λ n r is level index some.
      let same : at (OfFile n) level index ≡ pointer_at (tree_of (standing_at blocks levels root) n r) level index = ap (λ (o : Option InodeRecord). option_map_or (λ r. pointer_at (tree_of (standing_at blocks levels root) n r) level index) o hole) is in
      let leads : (at (OfFile n) level index).stamp ≢ 0 = subst (λ (q : Pointer). q.stamp ≢ 0) (sym same) some in
      let here : at (owner_of n) level index ≡ pointer_at (tree_of (standing_at blocks levels root) n r) level index = ap (λ (o : Owner). at o level index) (place.owner_is blocks levels root few n level index leads) ∙ same in
      subst (λ (q : Pointer). (not (q.stamp == 0) && ((pointer_at (tree_of (standing_at blocks levels root) n r) level index).vvbn == q.vvbn)) ≡ true) (sym here)
      (stood (pointer_at (tree_of (standing_at blocks levels root) n r) level index) (pointer_at (tree_of (standing_at blocks levels root) n r) level index).vvbn some refl))

  -- what is reached is led to from a place
  pub listed_at : (v : ℕ) → is_listed (items (standing_at blocks levels root)) v ≡ true → LeadsHere (stored_trees blocks levels root) v
  listed_at v listed =
      let e : Item = picked (items (standing_at blocks levels root)) v in
      let parts = and_parts (not ((at (owner_of e.owner) e.level e.place).stamp == 0)) _ (picked_all is_stood (items (standing_at blocks levels root)) v listed all_stood) in
      let same : e.pointer.vvbn ≡ (at (owner_of e.owner) e.level e.place).vvbn = grind (arith, nat_tests, parts.1) in
      let here : pointer_in (stored_trees blocks levels root (number_of (owner_of e.owner))) e.level e.place ≡ at (owner_of e.owner) e.level e.place =
      stored_place blocks levels root (number_of (owner_of e.owner)) e.level e.place ∙ ap (λ (o : Owner). at o e.level e.place) (back_owner (owner_of e.owner)) in
      record {
        owner = number_of (owner_of e.owner);
        level = e.level;
        index = e.place;
        some = λ none. let zero_is : ((at (owner_of e.owner) e.level e.place).stamp == 0) ≡ true = (let at_none : (at (owner_of e.owner) e.level e.place).stamp ≡ 0 = ap (λ (q : Pointer). q.stamp) (sym here) ∙ none in grind (arith, nat_tests, at_none)) in wrong (sym (ap not zero_is) ∙ parts.0);
        vvbn = ap (λ (q : Pointer). q.vvbn) here ∙ sym same ∙ picked_is (items (standing_at blocks levels root)) v listed;
      }
    where
      wrong : false ≡ true → ⊥
      wrong e = cc

  -- what a place leads to is reached
  place_listed : (o : Option ℕ) (level index : ℕ) → (pointer_in (stored_trees blocks levels root o) level index).stamp ≢ 0 → is_listed (items (standing_at blocks levels root)) (pointer_in (stored_trees blocks levels root o) level index).vvbn ≡ true
  place_listed o level index some =
      let same = stored_place blocks levels root o level index in
      subst (λ (q : Pointer). is_listed (items (standing_at blocks levels root)) q.vvbn ≡ true) (sym same) (place.listed_place blocks levels root (owner_in o) level index (subst (λ (q : Pointer). q.stamp ≢ 0) same some))

-- ---- a volume

module _ (d : Disk) (p : Pool) (x : VolumeState) (is : IsStanding d p x) (labelled : IsLabelled x.slot x) where
  abbrev v : Volume
  v = volume_for d p x

  abbrev blocks : ℕ → Under
  blocks = blocks_in d p x

  none_in : (i : Id) → set.contains (set.empty {K = Id} {R = id_cmp}) i ≡ true → ⊥
  none_in i has_it = wrong (sym (set.contains-empty id_cmp i) ∙ has_it)
    where
      wrong : false ≡ true → ⊥
      wrong e = cc

  -- a settled id is one of a table that is kept, that of a snapshot or that of the base
  of_settled : (i : Id) → set.contains (settled_ids v) i ≡ true → (q : Snap) × (In q (tables_of x) × (set.contains (ids_of (table_told (standing_kept blocks q))) i ≡ true))
  of_settled i has_it = ⊎_elim
      (λ kept. let q = of_kept blocks x.snapshots i kept in (q.0, (in_right q.0 (base_table x.base) x.snapshots q.1.0, q.1.1)))
      (λ out. of_base x.base out)
      (or_cases (set.contains (kept_ids v) i) (set.contains (ids_left_out v.base) i) (sym (set.contains-union id_total (kept_ids v) (ids_left_out v.base) i) ∙ has_it))
    where
      of_base : (o : Option StateBase) → set.contains (ids_left_out (base_by blocks o)) i ≡ true → (q : Snap) × (In q (base_table o ++ x.snapshots) × (set.contains (ids_of (table_told (standing_kept blocks q))) i ≡ true))
      of_base None out = absurd (none_in i out)
      of_base (Some b) out = by b.splitting out
        where
          by : (t : Bool) → set.contains (cond t set.empty (ids_of (table_told (standing_at (blocks slot_of_base) b.table.levels b.table.root)))) i ≡ true
              → (q : Snap) × (In q (base_table (Some b) ++ x.snapshots) × (set.contains (ids_of (table_told (standing_kept blocks q))) i ≡ true))
          by true out = absurd (none_in i out)
          by false out = (record { slot = slot_of_base; name = b.snapshot; table = b.table }, (inl refl, out))

  in_settled : (q : Snap) → In q (tables_of x) → (i : Id) → set.contains (ids_of (table_told (standing_kept blocks q))) i ≡ true → set.contains (settled_ids v) i ≡ true
  in_settled q there i has_it = set.contains-union id_total (kept_ids v) (ids_left_out v.base) i ∙ ⊎_elim
      (λ based. or_right (set.contains (kept_ids v) i) (set.contains (ids_left_out v.base) i) (in_base x.base (is_whole x.slot x labelled) based))
      (λ kept. or_left (set.contains (kept_ids v) i) (set.contains (ids_left_out v.base) i) (in_kept blocks x.snapshots is.names q kept i has_it))
      (in_either q (base_table x.base) x.snapshots there)
    where
      in_base : (o : Option StateBase) → IfSome o (λ b. b.splitting ≡ false) → In q (base_table o) → set.contains (ids_left_out (base_by blocks o)) i ≡ true
      in_base None w none = absurd none
      in_base (Some b) w (inr none) = absurd none
      in_base (Some b) w (inl same) =
          ap (λ (t : Bool). set.contains (cond t set.empty (ids_of (table_told (standing_at (blocks slot_of_base) b.table.levels b.table.root)))) i) w
          ∙ ap (λ (r : Snap). set.contains (ids_of (table_told (standing_kept blocks r))) i) same ∙ has_it

  -- a slot in use beside the active one has a table that is kept
  pub kept_found : (k : ℕ) → k ≢ 0 → is_some (slot_at x.map k) ≡ true → (q : Snap) × (In q (tables_of x) × (q.slot ≡ k))
  kept_found k other used = ⊎_elim
      (λ (e : k ≡ slot_of_base). by x.base (sym labelled.slots.base ∙ ap (λ (n : ℕ). is_some (slot_at x.map n)) (sym e) ∙ used) (sym e))
      (λ differ. let q = slot_found x k (sym (labelled.slots.each k other differ) ∙ used) in (q.0, (in_right q.0 (base_table x.base) x.snapshots q.1.0, q.1.1)))
      (cases_eq k slot_of_base)
    where
      by : (o : Option StateBase) → is_some (option_map footing_in o) ≡ true → slot_of_base ≡ k → (q : Snap) × (In q (base_table o ++ x.snapshots) × (q.slot ≡ k))
      by None is e = absurd cc
      by (Some b) is e = (record { slot = slot_of_base; name = b.snapshot; table = b.table }, (inl refl, e))

  -- No settled id has the stamp of the next change.
  pub next_is_new : IsNextNew v
  next_is_new q = isnt (set.contains (settled_ids v) (q, x.now + 1)) refl
    where
      isnt : (b : Bool) → set.contains (settled_ids v) (q, x.now + 1) ≡ b → b ≡ false
      isnt false has = refl
      isnt true has =
          let s = of_settled (q, x.now + 1) has in
          let its = all_in (IsKeptTable d p x) (tables_of x) is.kept s.0 s.1.0 in
          let old : x.now + 1 ≤ x.now = past_stamp x.now (table_told (standing_kept blocks s.0)) its.1.table q.owner (q.level, q.index) (x.now + 1) (of_id (table_told (standing_kept blocks s.0)) q.owner q.level q.index (x.now + 1) s.1.1) in
          let late : x.now + 1 ≤ x.now → ⊥ = omega arith in
          absurd (late old)

  module _ (o : Option ℕ) (level index : ℕ) where
    abbrev here : Pointer
    here = pointer_in (trees_for d p x o) level index

    abbrev there : Snap → Pointer
    there q = pointer_in (trees_kept blocks q o) level index

    abbrev its_id : Id
    its_id = (placed (owner_in o) (level, index), here.stamp)

    stamp_said : (q : Pointer) (s : ℕ) → stamp_in q ≡ Some s → q.stamp ≡ s
    stamp_said q s said = so (q.stamp == 0) said
      where
        so : (b : Bool) → (if b then None else Some q.stamp) ≡ Some s → q.stamp ≡ s
        so true e = absurd cc
        so false e = cc

    of_snap : here.stamp ≢ 0 → set.contains (settled_ids v) its_id ≡ true → (differs_in (trees_for d p x o) level index ≡ false) × (is_elsewhere x.map here.vvbn ≡ true)
    of_snap some has_it =
        let q = of_settled its_id has_it in
        let stamp : (there q.0).stamp ≡ here.stamp = stamp_said (there q.0) here.stamp (sym (by_stamp (blocks q.0.slot) q.0.table None o level index) ∙ of_id (table_told (standing_kept blocks q.0)) (owner_in o) level index here.stamp q.1.1) in
        let one = (all_in (λ (q : Snap). SharesWith (trees_for d p x) (trees_kept blocks q)) (tables_of x) is.shared.active q.0 q.1.0).same o level index some stamp in
        let kept = all_in (IsKeptTable d p x) (tables_of x) is.kept q.0 q.1.0 in
        let member : has (there q.0).vvbn (slot_at x.map q.0.slot) ≡ true = kept.1.reach (there q.0).vvbn ∙ place_listed (blocks q.0.slot) q.0.table.levels q.0.table.root (few_levels x.now (blocks q.0.slot) q.0.table.levels q.0.table.root kept.1.table) o level index one.second.some in
        let vvbn : (there q.0).vvbn ≡ here.vvbn = one.second.vvbn ∙ sym one.first.vvbn in
        (one.first.same, in_slot q.0.slot here.vvbn kept.0 (subst (λ (n : ℕ). has n (slot_at x.map q.0.slot) ≡ true) vvbn member))
      where
        in_slot : (k n : ℕ) → k ≢ 0 → has n (slot_at x.map k) ≡ true → is_elsewhere x.map n ≡ true
        in_slot zero n other is = absurd (other refl)
        in_slot (suc k) n other is = taken_by (drop 1 x.map.slots) n k (ap (has n) (after_first x.map.slots k) ∙ is)

    to_snap : here.stamp ≢ 0 → differs_in (trees_for d p x o) level index ≡ false → is_elsewhere x.map here.vvbn ≡ true → set.contains (settled_ids v) its_id ≡ true
    to_snap some same shared =
        let k = taken_some (drop 1 x.map.slots) here.vvbn shared in
        let member : has here.vvbn (slot_at x.map (suc k.0)) ≡ true = ap (has here.vvbn) (sym (after_first x.map.slots k.0)) ∙ k.1 in
        let q = kept_found (suc k.0) (omega arith) (has_used (slot_at x.map (suc k.0)) here.vvbn member) in
        let kept = all_in (IsKeptTable d p x) (tables_of x) is.kept q.0 q.1.0 in
        let listed : is_listed (items (standing_kept blocks q.0)) here.vvbn ≡ true = sym (kept.1.reach here.vvbn) ∙ ap (λ (n : ℕ). has here.vvbn (slot_at x.map n)) q.1.1 ∙ member in
        let leads = listed_at (blocks q.0.slot) q.0.table.levels q.0.table.root (few_levels x.now (blocks q.0.slot) q.0.table.levels q.0.table.root kept.1.table) here.vvbn listed in
        let one = (all_in (λ (q : Snap). SharesWith (trees_for d p x) (trees_kept blocks q)) (tables_of x) is.shared.active q.0 q.1.0).back o leads.owner level index leads.level leads.index here.vvbn
        (record { some = some; same = same; vvbn = refl })
        (record { some = leads.some; same = stored_same (blocks q.0.slot) q.0.table.levels q.0.table.root leads.owner leads.level leads.index; vvbn = leads.vvbn }) in
        let at : pointer_in (trees_kept blocks q.0 leads.owner) leads.level leads.index ≡ there q.0 = λ i. pointer_in (trees_kept blocks q.0 (sym one.tree i)) (sym one.level_is i) (sym one.place_is i) in
        let stamp : (there q.0).stamp ≡ here.stamp = ap (λ (r : Pointer). r.stamp) (sym at) ∙ sym one.stamp in
        let standing : stands (table_told (standing_kept blocks q.0)) (owner_in o) (level, index) ≡ Some here.stamp =
        by_stamp (blocks q.0.slot) q.0.table None o level index ∙ stamp_some (there q.0) (λ none. some (sym stamp ∙ none)) ∙ ap (λ (s : ℕ). Some s) stamp in
        in_settled q.0 q.1.0 its_id (has_id (table_told (standing_kept blocks q.0)) (owner_in o) level index here.stamp standing)

    -- An id of the active table is settled exactly where its place stands in a block that another slot has.
    settled_here : (b : Bool) → differs_in (trees_for d p x o) level index ≡ b → is_settled v (placed (owner_in o) (level, index)) ≡ (not (here.stamp == 0) && (not b && is_elsewhere x.map here.vvbn))
    settled_here b differs =
        ap (λ (at : Option ℕ). option_map_or (λ s. set.contains (settled_ids v) (placed (owner_in o) (level, index), s)) at false)
        (get-stamps_of v.active (owner_in o) (level, index) ∙ by_stamp (under (shows d p x)) x.active x.files o level index)
        ∙ so (here.stamp == 0) refl
      where
        meant : (h : Bool) → (not b && h) ≡ true → (b ≡ false) × (h ≡ true)
        meant h is = by b is
          where
            by : (c : Bool) → (not c && h) ≡ true → (c ≡ false) × (h ≡ true)
            by true is = absurd cc
            by false is = (refl, is)

        so : (z : Bool) → (here.stamp == 0) ≡ z → option_map_or (λ s. set.contains (settled_ids v) (placed (owner_in o) (level, index), s)) (if z then None else Some here.stamp) false ≡ (not z && (not b && is_elsewhere x.map here.vvbn))
        so true zero_is = refl
        so false other =
            let some : here.stamp ≢ 0 = λ none. (let is : (here.stamp == 0) ≡ true = grind (arith, nat_tests, none) in apart (sym is ∙ other)) in
            iff (set.contains (settled_ids v) its_id) (not b && is_elsewhere x.map here.vvbn)
            (λ has_it. let both = of_snap some has_it in λ i. not ((sym differs ∙ both.0) i) && both.1 i)
            (λ test. let both = meant (is_elsewhere x.map here.vvbn) test in to_snap some (differs ∙ both.0) both.1)
          where
            apart : true ≡ false → ⊥
            apart e = cc

  -- So its ids stay charged where its blocks are shared.
  pub settled_for : SettlesShared (volume_for d p x) (trees_for d p x) (is_elsewhere x.map)
  settled_for = record {
    each = λ o s at level index.
        settled_here o level index (s.changed level index) (ap (λ (t : Option Loaded). differs_in t level index) at)
        ∙ ap (λ (t : Option Loaded). not ((pointer_in t level index).stamp == 0) && (not (s.changed level index) && is_elsewhere x.map (pointer_in t level index).vvbn)) at;
  }
