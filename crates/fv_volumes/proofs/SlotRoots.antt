-- The roots of a volume and the slots of its maps: which slot each root has, and that a slot has what its root reaches.
use Rattle.std.proofs.Common.{◌≡◌, ◌≢◌, ◌<◌, ◌≤◌, ℕ, Bool, true, false, map, take, inl, inr, refl, sym, ap, subst, ◌∙◌, arith}
use Rattle.std.specs.Prelude.{Some, None, ◌&&◌, ◌||◌, ◌==◌, find, get_or, is_some, nat_le, nat_lt, if◌then◌else◌}
use Rattle.std.specs.List.{list_all, range_with_len}
use Rattle.std.specs.Option.{option_and_then, option_map}
use Rattle.std.proofs.lemmas.Bool.{and_parts}
use Rattle.std.proofs.lemmas.Bool.Decides.{nat_tests}
use Rattle.fv_laws.proofs.Lists.{In, from_flat_map, from_map, in_map, in_range}
use Rattle.fv_laws.proofs.Tests.{from_all, to_any}
use Rattle.fv_tables.specs.Reached.{Item, items, is_listed}
use Rattle.fv_tables.proofs.Listed.{picked, picked_all, picked_in, picked_is}
use Rattle.fv_image.specs.Views.{Footing, Head, Rooted, Snap, View, used_slots}
use Rattle.fv_image.specs.Volumes.{snap_at, standing_of}
use Rattle.fv_image.specs.Seen.{Reached, base_root, roots_of, seen, volume_seen}
use Rattle.fv_image.specs.ReachRules.{has_pointers_in_range, is_hint}
use Rattle.fv_image.specs.Mapped.{AreInSlots, root_at, stored_slots}
use Rattle.fv_image.specs.Staying.{own_items}
use Rattle.fv_image.proofs.MapSteps.{found_rising}
use Rattle.fv_image.proofs.SameSeen.{of_items, of_volume}
use Rattle.fv_volmap.specs.Slots.{Slot, Volume as Maps, has, slot_at, stored_count, taken_in}
use Rattle.fv_volume.specs.declared.state.VolumeState.{VolumeState}
use Rattle.fv_volume.specs.Files.{HasSlotsOf}
use Rattle.fv_volumes.specs.Housed.{ReachesAll}
use Rattle.fv_delay.specs.Delay.{is_used_slot}
use Rattle.fv_volume.specs.States.{head_in}
use Rattle.fv_volume.proofs.CountedMaps.{any_taken}
use Rattle.fv_volume.proofs.KeptSlots.{root_used, snap_low, used_is}
use Rattle.fv_volumes.proofs.Reaches.{root_listed}

-- ---- the slot of a root

slot_in : (h : Head) (r : ℕ × Rooted) → In r (roots_of h) → In r.0 (used_slots h)
slot_in h r (inl e) = inl (ap (λ (q : ℕ × Rooted). q.0) e)
slot_in h r (inr there) =
    let p = from_map (λ (p : Snap). (p.slot, p.table)) r h.snapshots there in
    inr (subst (λ (n : ℕ). In n (map (λ (p : Snap). p.slot) h.snapshots)) (ap (λ (q : ℕ × Rooted). q.0) p.2) (in_map (λ (p : Snap). p.slot) p.0 h.snapshots p.1))

-- it is a stored one,
pub slot_stored : (h : Head) → AreInSlots h → (r : ℕ × Rooted) → In r (roots_of h) → r.0 < stored_count
slot_stored h order r there = by (slot_in h r there)
  where
    by : In r.0 (used_slots h) → r.0 < stored_count
    by (inl e) = omega (arith, e)
    by (inr later) = snap_low h order r.0 later

-- has this root and no other,
pub slot_rooted : (h : Head) → AreInSlots h → (r : ℕ × Rooted) → In r (roots_of h) → root_at h r.0 ≡ Some r.1
unfolding snap_at
slot_rooted h order r (inl e) = subst (λ (q : ℕ × Rooted). root_at h q.0 ≡ Some q.1) e refl
slot_rooted h order r (inr there) =
    let p = from_map (λ (p : Snap). (p.slot, p.table)) r h.snapshots there in
    let least = (and_parts (nat_le 1 p.0.slot) (nat_lt p.0.slot stored_slots) (from_all (λ q. nat_le 1 q.slot && nat_lt q.slot stored_slots) h.snapshots order.within p.0 p.1)).0 in
    let later : (p.0.slot == 0) ≡ false = grind (arith, nat_tests, least) in
    subst (λ (q : ℕ × Rooted). root_at h q.0 ≡ Some q.1) p.2
    (ap (λ (b : Bool). if b then Some h.active else option_map (λ (p : Snap). p.table) (find (λ q. q.slot == p.0.slot) h.snapshots)) later
    ∙ ap (option_map (λ (p : Snap). p.table)) (found_rising h.snapshots order.rising p.0 p.1))

-- The slot of a snapshot has its root,
pub snap_rooted : (h : Head) (k : ℕ) (p : Snap) → k ≢ 0 → snap_at h k ≡ Some p → root_at h k ≡ Some p.table
snap_rooted h k p above found =
    let test : (k == 0) ≡ false = grind (arith, nat_tests, above) in
    ap (λ (t : Bool). if t then Some h.active else option_map (λ (p : Snap). p.table) (snap_at h k)) test ∙ ap (option_map (λ (p : Snap). p.table)) found

-- which is the one of the base table of a clone that stands on it,
pub base_rooted : (w : View) (b : Footing) (g : Head) (p : Snap) → w.head b.parent ≡ Some g → snap_at g b.slot ≡ Some p → base_root w b ≡ Some p.table
base_rooted w b g p there found = ap (option_and_then (λ (g : Head). option_map (λ (p : Snap). p.table) (snap_at g b.slot))) there ∙ ap (option_map (λ (p : Snap). p.table)) found

-- and is used in the maps.
pub root_slot : (w : View) (s : ℕ) (h : Head) (m : Maps) → HasSlotsOf h m → AreInSlots h → (r : ℕ × Rooted) → In r (roots_of h) → is_used_slot m r.0 ≡ true
root_slot w s h m slots order r there =
    let itself : (r.0 == r.0) ≡ true = grind (arith, nat_tests) in
    used_is w s h m slots order r.0 (slot_stored h order r there) ∙ to_any (λ slot. slot == r.0) r.0 (used_slots h) (slot_in h r there) itself

-- a slot that has a number is used
has_used : (m : Maps) (k v : ℕ) → has v (slot_at m k) ≡ true → is_used_slot m k ≡ true
has_used m k v is = by (slot_at m k) is (k == 0)
  where
    by : (o : Slot) → has v o ≡ true → (b : Bool) → (b || is_some o) ≡ true
    by None is b = absurd cc
    by (Some map) is true = refl
    by (Some map) is false = refl

-- ---- what the roots reach

-- it lies below the span
pub own_below : (w : View) (s : ℕ) (h : Head) (v : ℕ) → has_pointers_in_range (seen w) ≡ true → s < 64 → w.head s ≡ Some h → is_listed (own_items w s h) v ≡ true → v < h.span
unfolding has_pointers_in_range volume_seen seen
own_below w s h v ranges inside there listed =
    let test : Reached → Bool = λ e. nat_lt e.item.pointer.vvbn h.span && is_hint w.blocks e.item.pointer.pvbn in
    let all = of_items w s test (roots_of h) (of_volume w (λ s x. list_all (λ r. list_all (λ e. nat_lt e.item.pointer.vvbn x.head.span && is_hint w.blocks e.item.pointer.pvbn) r.reached) x.roots) s h ranges inside there) in
    let passes = (and_parts (nat_lt (picked (own_items w s h) v).pointer.vvbn h.span) _
    (picked_all (λ e. nat_lt e.pointer.vvbn h.span && is_hint w.blocks e.pointer.pvbn) (own_items w s h) v listed all)).0 in
    let low : (picked (own_items w s h) v).pointer.vvbn < h.span = grind (arith, nat_tests, passes) in
    let at = picked_is (own_items w s h) v listed in
    omega (arith, low, at)

module _ (w : View) (s : ℕ) (x : VolumeState) (reach : ReachesAll w s x) (order : AreInSlots (head_in x)) where
  -- The slot of a root has what the root reaches.
  pub root_has : (r : ℕ × Rooted) → In r (roots_of (head_in x)) → (v : ℕ) → has v (slot_at x.map r.0) ≡ is_listed (items (standing_of w s r.1)) v
  root_has r there v = reach r.0 r.1 (slot_rooted (head_in x) order r there) v

  -- So the stored slots have what the roots reach,
  pub own_taken : (v : ℕ) → is_listed (own_items w s (head_in x)) v ≡ true → taken_in (take stored_count x.map.slots) v ≡ true
  own_taken v listed =
      let e : Item = picked (own_items w s (head_in x)) v in
      let item = picked_in (own_items w s (head_in x)) v listed in
      let r = from_flat_map (λ (r : ℕ × Rooted). items (standing_of w s r.1)) e (roots_of (head_in x)) item.0 in
      let at = item.1 in
      let test : (e.pointer.vvbn == v) ≡ true = grind (arith, nat_tests, at) in
      let here : is_listed (items (standing_of w s r.0.1)) v ≡ true = to_any (λ e. e.pointer.vvbn == v) e (items (standing_of w s r.0.1)) r.2 test in
      let low = slot_stored (head_in x) order r.0 r.1 in
      any_taken (has v) None refl x.map.slots stored_count
      ∙ to_any (λ k. has v (get_or x.map.slots k None)) r.0.0 (range_with_len 0 stored_count) (in_range 0 stored_count r.0.0 (omega arith) (omega (arith, low))) (root_has r.0 r.1 v ∙ here)

  -- and no number past the span.
  pub none_past : HasSlotsOf (head_in x) x.map → has_pointers_in_range (seen w) ≡ true → s < 64 → w.head s ≡ Some (head_in x) → (k v : ℕ) → k < stored_count → x.span ≤ v → has v (slot_at x.map k) ≡ false
  none_past slots ranges inside there k v few past = so (has v (slot_at x.map k)) refl
    where
      so : (t : Bool) → has v (slot_at x.map k) ≡ t → t ≡ false
      so false e = refl
      so true e =
          let r = root_used (head_in x) k (sym (used_is w s (head_in x) x.map slots order k few) ∙ has_used x.map k v e) in
          let at : root_at (head_in x) k ≡ Some r.0 = slot_rooted (head_in x) order (k, r.0) r.1 in
          let low = own_below w s (head_in x) v ranges inside there (root_listed w s (head_in x) k r.0 at v (sym (reach k r.0 at v) ∙ e)) in
          absurd (omega (arith, low, past))
