-- Each volume of a sound view is one of the machine's.
use Rattle.std.proofs.Common.{◌≡◌, ℕ, ◌+◌, ◌^◌, ◌<◌, ◌≤◌, Bool, true, false, cond, List, [], ◌∷◌, length, inl, inr, refl, sym, ap, subst, ◌∙◌, arith}
use Rattle.std.specs.Prelude.{Option, Some, None, ◌==◌, nat_le, map, flat_map, find, if◌then◌else◌}
use Rattle.std.specs.List.{list_all}
use Rattle.std.specs.Option.{option_map, option_map_or, option_and_then}
use Rattle.std.specs.Ordering.{eq_by_cmp}
use Rattle.std.specs.FinMap as fin
use Rattle.std.specs.FinSet as set
use Rattle.std.proofs.lemmas.Bool.{and_parts}
use Rattle.std.proofs.lemmas.Bool.Decides.{nat_tests}
use Rattle.std.proofs.lemmas.List.{length-map}
use Rattle.std.proofs.lemmas.List.Folds.{list_all-map, list_all-append}
use Rattle.fv_model.specs.Spelling.{name_cmp}
use Rattle.fv_model.specs.Tables.{Table}
use Rattle.fv_model.specs.Volumes.{Base}
use Rattle.fv_model.specs.Space.{base_ids}
use Rattle.fv_laws.specs.WellFormed.{IsWellTable, IsWellVolume}
use Rattle.fv_laws.proofs.Orders.{name_total}
use Rattle.fv_laws.proofs.Lists.{In, in_map}
use Rattle.fv_tables.specs.Reached.{Item, items}
use Rattle.fv_tables.proofs.Lists.{all_flat}
use Rattle.fv_image.specs.Views.{Rooted, Snap, Footing, Head, View}
use Rattle.fv_image.specs.Volumes.{standing_of, table_at, snap_told, snap_at, base_on, base_told, base_from, volume_with, volume_told}
use Rattle.fv_image.specs.Seen.{Reached, Root, Based, roots_of, root_seen, base_root, based_at, based_on, base_seen, volume_seen, seen}
use Rattle.fv_image.specs.TableRules.{all_items, has_stamps_past}
use Rattle.fv_image.specs.VolumeRules.{has_wide_spans}
use Rattle.fv_image.specs.Soundness.{AreTables}
use Rattle.fv_image.specs.Staying.{items_of}
use Rattle.fv_image.proofs.Counting.{len_within}
use Rattle.fv_image.proofs.SameSeen.{of_volume, Stands, stands}
use Rattle.fv_image.proofs.OwnUses.{seen_items}
use Rattle.fv_image.proofs.WellRoots.{HasWholeBlocks, well_root}

-- the numbers of a head, as its label's shape gives them
pub record IsNumbered (h : Head) : Type 0 where
  pub changes : h.now ≤ 2 ^ 62
  pub size : h.size ≤ h.most
  pub narrow : h.span ≤ 1048576
  pub active : h.active.levels ≤ 2
  pub snapshots : list_all (λ (p : Snap). nat_le p.table.levels 2) h.snapshots ≡ true
  pub kept : length h.snapshots ≤ 24

-- ---- lists

all_member : {X : Type 0} (p : X → Bool) (xs : List X) (x : X) → list_all p xs ≡ true → In x xs → p x ≡ true
all_member p [] x all there = absurd there
all_member p (y ∷ ys) x all (inl e) = ap p (sym e) ∙ (and_parts (p y) _ all).0
all_member p (y ∷ ys) x all (inr there) = all_member p ys x (and_parts (p y) _ all).1 there

pub found_in : (test : Snap → Bool) (ps : List Snap) (p : Snap) → find test ps ≡ Some p → In p ps
found_in test [] p e = absurd cc
found_in test (q ∷ qs) p e = so (test q) (λ f. found_in test qs p f) e
  where
    so : (b : Bool) → (find test qs ≡ Some p → In p qs) → (if b then Some q else find test qs) ≡ Some p → In p (q ∷ qs)
    so true rest e = inl cc
    so false rest e = inr (rest e)

-- a table that is found under a name is that of a snapshot
pub named_snap : (w : View) (s : ℕ) (ps : List Snap) (name : List ℕ) (t : Table) → fin.find name_cmp name (map (snap_told w s) ps) ≡ Some t → (p : Snap) × (In p ps × (table_at w s p.table ≡ t))
named_snap w s [] name t e = absurd cc
named_snap w s (q ∷ qs) name t e = so (eq_by_cmp name_cmp name q.name) (λ f. named_snap w s qs name t f) e
  where
    so : (b : Bool) → (fin.find name_cmp name (map (snap_told w s) qs) ≡ Some t → (p : Snap) × (In p qs × (table_at w s p.table ≡ t))) → cond b (Some (table_at w s q.table)) (fin.find name_cmp name (map (snap_told w s) qs)) ≡ Some t
        → (p : Snap) × (In p (q ∷ qs) × (table_at w s p.table ≡ t))
    so true rest e = (q, (inl refl, cc))
    so false rest e = let p = rest e in (p.0, (inr p.1.0, p.1.1))

-- ---- a volume

module _ (w : View) (tables : AreTables (seen w)) (whole : HasWholeBlocks w) (numbered : (s : ℕ) (h : Head) → s < 64 → w.head s ≡ Some h → IsNumbered h) where
  snap_root : (h : Head) (p : Snap) → In p h.snapshots → In (p.slot, p.table) (roots_of h)
  snap_root h p one = inr (in_map (λ (p : Snap). (p.slot, p.table)) p h.snapshots one)

  few_levels : (s : ℕ) (h : Head) → s < 64 → w.head s ≡ Some h → (p : Snap) → In p h.snapshots → p.table.levels ≤ 2
  few_levels s h small there p one = let test : nat_le p.table.levels 2 ≡ true = all_member (λ p. nat_le p.table.levels 2) h.snapshots p (numbered s h small there).snapshots one in grind (arith, nat_tests, test)

  module _ (s : ℕ) (h : Head) (small : s < 64) (there : w.head s ≡ Some h) where
    past : (list_all (λ e. nat_le e.pointer.stamp h.now) (items_of w s (roots_of h)) ≡ true) × (list_all (λ e. nat_le e.pointer.stamp h.now) (map (λ (b : Based). b.item) (base_seen w s h.base)) ≡ true)
    unfolding has_stamps_past volume_seen
    past =
        let all = of_volume w (λ s x. list_all (λ e. nat_le e.pointer.stamp x.head.now) (all_items x)) s h tables.stamps small there in
        let parts = and_parts _ _ (sym (list_all-append (λ (e : Item). nat_le e.pointer.stamp h.now) (flat_map (λ (r : Root). map (λ (e : Reached). e.item) r.reached) (map (λ (r : ℕ × Rooted). root_seen w s r.0 r.1) (roots_of h))) (map (λ (b : Based). b.item) (base_seen w s h.base))) ∙ all) in
        (sym (ap (λ (es : List Item). list_all (λ e. nat_le e.pointer.stamp h.now) es) (seen_items w s (roots_of h))) ∙ parts.0, parts.1)

    root_stamps : (r : ℕ × Rooted) → In r (roots_of h) → list_all (λ e. nat_le e.pointer.stamp h.now) (items (standing_of w s r.1)) ≡ true
    root_stamps r one = all_member (λ r. list_all (λ e. nat_le e.pointer.stamp h.now) (items (standing_of w s r.1))) (roots_of h) r
        (sym (all_flat (λ (e : Item). nat_le e.pointer.stamp h.now) (λ (r : ℕ × Rooted). items (standing_of w s r.1)) (roots_of h)) ∙ past.0) one

    base_stamps : (b : Footing) (r : Rooted) → h.base ≡ Some b → base_root w b ≡ Some r → list_all (λ e. nat_le e.pointer.stamp h.now) (items (standing_of w b.parent r)) ≡ true
    unfolding base_seen
    base_stamps b r based root =
        let all : list_all (λ (b : Based). nat_le b.item.pointer.stamp h.now) (base_seen w s h.base) ≡ true = sym (list_all-map (λ (e : Item). nat_le e.pointer.stamp h.now) (λ (b : Based). b.item) (base_seen w s h.base)) ∙ past.1 in
        let here : list_all (λ (b : Based). nat_le b.item.pointer.stamp h.now) (base_seen w s (Some b)) ≡ true = subst (λ (o : Option Footing). list_all (λ (b : Based). nat_le b.item.pointer.stamp h.now) (base_seen w s o) ≡ true) based all in
        sym (list_all-map (λ (b : Based). nat_le b.item.pointer.stamp h.now) (based_at w s b.splitting) (items (standing_of w b.parent r)))
        ∙ subst (λ (o : Option Rooted). list_all (λ (b : Based). nat_le b.item.pointer.stamp h.now) (option_map_or (based_on w s b) o []) ≡ true) root here

    -- what the volume stands on, as it is told
    pub base_is : (b : Footing) → h.base ≡ Some b → (st : Stands w b) → base_from w h.base ≡ Some (base_on w b st.parent st.snap)
    base_is b based st =
        ap (base_from w) based
        ∙ ap (λ (g : Option Head). base_told w b g) st.there
        ∙ ap (λ (p : Option Snap). option_map (base_on w b st.parent) p) st.found

    well_base : (base : Base) → base_from w h.base ≡ Some base → IsWellTable h.now base.table
    unfolding snap_at
    well_base base e = so h.base refl
      where
        with_base : (b : Footing) → h.base ≡ Some b → IsWellTable h.now base.table
        with_base b based =
            let st : Stands w b = stands w tables.bases tables.rests s h b small there based in
            let one : In st.snap st.parent.snapshots = found_in (λ p. p.slot == b.slot) st.parent.snapshots st.snap st.found in
            let root : base_root w b ≡ Some st.snap.table = ap (λ (g : Option Head). option_and_then (λ g. option_map (λ (p : Snap). p.table) (snap_at g b.slot)) g) st.there ∙ ap (λ (p : Option Snap). option_map (λ (p : Snap). p.table) p) st.found in
            let same : base_on w b st.parent st.snap ≡ base = some_is (sym (base_is b based st) ∙ e) in
            subst (λ (base : Base). IsWellTable h.now base.table) same
            (well_root w tables whole b.parent st.parent st.inside st.there (st.snap.slot, st.snap.table) (snap_root st.parent st.snap one) h.now (base_stamps b st.snap.table based root) (few_levels b.parent st.parent st.inside st.there st.snap one))
          where
            some_is : {x y : Base} → Some x ≡ Some y → x ≡ y
            some_is e = cc

        so : (o : Option Footing) → h.base ≡ o → IsWellTable h.now base.table
        so None based = absurd (none_is (sym (ap (base_from w) based) ∙ e))
          where
            none_is : ◌≡◌ {A = Option Base} None (Some base) → ⊥
            none_is e = cc
        so (Some b) based = with_base b based

    -- The volume is one of the machine's.
    pub well_volume : IsWellVolume (volume_told w s h)
    unfolding volume_with has_wide_spans volume_seen
    well_volume =
        let numbers = numbered s h small there in
        record {
          changes = numbers.changes;
          active = well_root w tables whole s h small there (0, h.active) (inl refl) h.now (root_stamps (0, h.active) (inl refl)) numbers.active;
          snapshots = λ name t e.
              let p = named_snap w s h.snapshots name t (sym (fin.get-from_entries name_total (map (snap_told w s) h.snapshots) name) ∙ e) in
              let one = snap_root h p.0 p.1.0 in
              subst (IsWellTable h.now) p.1.1 (well_root w tables whole s h small there (p.0.slot, p.0.table) one h.now (root_stamps (p.0.slot, p.0.table) one) (few_levels s h small there p.0 p.1.0));
          base = well_base;
          kept =
              let put = len_within name_total (map (snap_told w s) h.snapshots) in
              let all = length-map h.snapshots (snap_told w s) in
              omega (arith, put, all, numbers.kept);
          size = numbers.size;
          room =
              let test : nat_le (h.most + (set.len (base_ids (base_from w h.base)) + 256)) h.span ≡ true = of_volume w (λ s x. nat_le (x.head.most + (set.len (base_ids x.volume.base) + 256)) x.head.span) s h tables.spans small there in
              wide h.most (set.len (base_ids (base_from w h.base))) h.span test;
          narrow = numbers.narrow;
        }
      where
        wide : (most ids span : ℕ) → nat_le (most + (ids + 256)) span ≡ true → most + ids + 256 ≤ span
        wide most ids span test = let le : most + (ids + 256) ≤ span = grind (arith, nat_tests, test) in omega (arith, le)
