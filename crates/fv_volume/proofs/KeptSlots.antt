-- What the stored slots of a volume's maps hold is what the image's view says is held.
use Rattle.std.proofs.Common.{◌≡◌, ◌≢◌, ◌<◌, ◌≤◌, ℕ, Bool, true, false, List, [], ◌∷◌, map, take, inl, inr, refl, sym, ap, subst, ◌∙◌, ⊎_elim, arith}
use Rattle.std.specs.Prelude.{Some, None, ◌&&◌, ◌||◌, ◌==◌, find, get_or, is_some, nat_le, nat_lt, if◌then◌else◌}
use Rattle.std.specs.List.{list_all, list_any, range_with_len}
use Rattle.std.proofs.lemmas.Bool.{and_from, and_parts, cases_eq, cases_lt}
use Rattle.std.proofs.lemmas.Bool.Decides.{nat_tests}
use Rattle.fv_laws.proofs.Lists.{In, from_range, in_map, in_range}
use Rattle.fv_laws.proofs.Tests.{from_all, from_any, iff, to_any}
use Rattle.fv_image.specs.Views.{Head, Rooted, Snap, View, used_slots, volume_bit}
use Rattle.fv_image.specs.Seen.{roots_of}
use Rattle.fv_image.specs.Volumes.{snap_at}
use Rattle.fv_image.proofs.OwnUses.{HasLabelNumbers}
use Rattle.fv_image.specs.Mapped.{AreInSlots, stored_slots}
use Rattle.fv_volmap.specs.Slots.{Slot, Volume as Maps, has, slot_at, slot_of_base, stored_count, taken_in}
use Rattle.fv_volume.specs.declared.state.Snap.{Snap as StateSnap}
use Rattle.fv_volume.specs.Files.{HasSlotsOf}
use Rattle.fv_delay.specs.Delay.{is_used, is_used_slot}
use Rattle.fv_delay.specs.Holding.{AreMapsOf}
use Rattle.fv_volume.specs.Loading.{HaveBits, is_slot_with}
use Rattle.fv_volume.specs.SlotReads.{AreUsedBeside}
use Rattle.fv_volume.specs.Snapshots.{has_slot}
use Rattle.fv_volume.specs.States.{snaps_in}
use Rattle.fv_volume.proofs.CountedMaps.{any_taken}

-- a snapshot of a slot is found where there is one
pub found_snap : (ps : List Snap) (k : ℕ) → is_some (find (λ p. p.slot == k) ps) ≡ list_any (λ p. p.slot == k) ps
found_snap [] k = refl
found_snap (p ∷ ps) k = so (p.slot == k) (found_snap ps k)
  where
    so : (b : Bool) → is_some (find (λ q. q.slot == k) ps) ≡ list_any (λ q. q.slot == k) ps → is_some (if b then Some p else find (λ q. q.slot == k) ps) ≡ (b || list_any (λ q. q.slot == k) ps)
    so true rest = refl
    so false rest = rest

any_named : (ps : List Snap) (k : ℕ) → list_any (λ p. p.slot == k) ps ≡ list_any (λ slot. slot == k) (map (λ (p : Snap). p.slot) ps)
any_named [] k = refl
any_named (p ∷ ps) k = ap (λ (b : Bool). (p.slot == k) || b) (any_named ps k)

found_any : (ps : List Snap) (k : ℕ) → is_some (find (λ p. p.slot == k) ps) ≡ list_any (λ slot. slot == k) (map (λ (p : Snap). p.slot) ps)
found_any ps k = found_snap ps k ∙ any_named ps k

snap_of : (ps : List Snap) (k : ℕ) → In k (map (λ (p : Snap). p.slot) ps) → (p : Snap) × (In p ps × (p.slot ≡ k))
snap_of [] k there = absurd there
snap_of (p ∷ ps) k (inl e) = (p, (inl refl, e))
snap_of (p ∷ ps) k (inr there) = let rest = snap_of ps k there in (rest.0, (inr rest.1.0, rest.1.1))

-- the slot of a snapshot is a stored one
pub snap_low : (h : Head) → AreInSlots h → (k : ℕ) → In k (map (λ (p : Snap). p.slot) h.snapshots) → k < stored_count
snap_low h order k there =
    let p = snap_of h.snapshots k there in
    let bounds = and_parts (nat_le 1 p.0.slot) (nat_lt p.0.slot stored_slots) (from_all (λ q. nat_le 1 q.slot && nat_lt q.slot stored_slots) h.snapshots order.within p.0 p.1.0) in
    let low : p.0.slot < stored_slots = (let second = bounds.1 in grind (arith, nat_tests, second)) in
    let at = p.1.1 in
    omega (arith, low, at)

-- ---- which slots are used

any_slot : (ps : List StateSnap) (k : ℕ) → has_slot ps k ≡ list_any (λ slot. slot == k) (map (λ (p : Snap). p.slot) (snaps_in ps))
any_slot [] k = refl
any_slot (p ∷ ps) k = ap (λ (b : Bool). (p.slot == k) || b) (any_slot ps k)

turned : (a b : ℕ) → (a == b) ≡ (b == a)
turned a b = ⊎_elim
    (λ (e : a ≡ b). (let one : (a == b) ≡ true = grind (arith, nat_tests, e) in one) ∙ sym (let two : (b == a) ≡ true = grind (arith, nat_tests, e) in two))
    (λ (other : a ≢ b). (let one : (a == b) ≡ false = grind (arith, nat_tests, other) in one) ∙ sym (let two : (b == a) ≡ false = grind (arith, nat_tests, other) in two))
    (cases_eq a b)

-- the map slots of a head are those of its snapshots, and the active one
pub slots_with : (h : Head) (ps : List StateSnap) → snaps_in ps ≡ h.snapshots → (k : ℕ) → is_slot_with ps k ≡ list_any (λ slot. slot == k) (used_slots h)
slots_with h ps said k =
    ap (λ (b : Bool). b || has_slot ps k) (turned k 0)
    ∙ ap (λ (b : Bool). (0 == k) || b) (any_slot ps k ∙ ap (λ (qs : List Snap). list_any (λ slot. slot == k) (map (λ (p : Snap). p.slot) qs)) said)

-- Where the slots of its snapshots were read, and the active one, they are those of a head.
pub slots_read : (h : Head) (ps : List StateSnap) (m : Maps) → snaps_in ps ≡ h.snapshots → AreInSlots h → AreUsedBeside ps h.base m → HasSlotsOf h m
unfolding snap_at
slots_read h ps m said order used = record {
  each = λ k other not_base.
      let later : (k == 0) ≡ false = grind (arith, nat_tests, other) in
      let here : is_slot_with ps k ≡ list_any (λ slot. slot == k) (map (λ (p : Snap). p.slot) h.snapshots) = ap (λ (b : Bool). b || has_slot ps k) later ∙ any_slot ps k ∙ ap (λ (qs : List Snap). list_any (λ slot. slot == k) (map (λ (p : Snap). p.slot) qs)) said in
      used.each k not_base ∙ ap (λ (b : Bool). nat_lt k stored_count && b) here ∙ within k (list_any (λ slot. slot == k) (map (λ (p : Snap). p.slot) h.snapshots)) refl ∙ sym (found_any h.snapshots k);
  base = used.base;
}
  where
    within : (k : ℕ) (b : Bool) → list_any (λ slot. slot == k) (map (λ (p : Snap). p.slot) h.snapshots) ≡ b → (nat_lt k stored_count && b) ≡ b
    within k false e = never (nat_lt k stored_count)
      where
        never : (t : Bool) → (t && false) ≡ false
        never true = refl
        never false = refl
    within k true e =
        let one = from_any (λ slot. slot == k) (map (λ (p : Snap). p.slot) h.snapshots) e in
        let at : one.0 ≡ k = (let test = one.1.1 in grind (arith, nat_tests, test)) in
        let low = snap_low h order one.0 one.1.0 in
        ap (λ (t : Bool). t && true) (let test : nat_lt k stored_count ≡ true = grind (arith, nat_tests, low, at) in test)

-- ---- the roots of used slots

-- a used slot has a root
pub root_used : (h : Head) (k : ℕ) → list_any (λ slot. slot == k) (used_slots h) ≡ true → (r : Rooted) × In {X = ℕ × Rooted} (k, r) (roots_of h)
root_used h k used =
    let one = from_any (λ slot. slot == k) (used_slots h) used in
    let same : one.0 ≡ k = (let test = one.1.1 in grind (arith, nat_tests, test)) in
    subst (λ (n : ℕ). (r : Rooted) × In {X = ℕ × Rooted} (n, r) (roots_of h)) same (of_slot one.0 one.1.0)
  where
    of_slot : (n : ℕ) → In n (used_slots h) → (r : Rooted) × In {X = ℕ × Rooted} (n, r) (roots_of h)
    of_slot n (inl e) = (h.active, inl (λ j. (e j, h.active)))
    of_slot n (inr there) =
        let p = snap_of h.snapshots n there in
        subst (λ (m : ℕ). (r : Rooted) × In {X = ℕ × Rooted} (m, r) (roots_of h)) p.1.1 (p.0.table, inr (in_map (λ (p : Snap). (p.slot, p.table)) p.0 h.snapshots p.1.0))

-- and its table has few levels
pub root_few : (h : Head) → HasLabelNumbers h → (k : ℕ) (r : Rooted) → In {X = ℕ × Rooted} (k, r) (roots_of h) → r.levels ≤ 2
root_few h numbers k r (inl e) = subst (λ (t : Rooted). t.levels ≤ 2) (ap (λ (p : ℕ × Rooted). p.1) e) numbers.active
root_few h numbers k r (inr there) = of_snaps h.snapshots numbers.snapshots there
  where
    of_snaps : (ps : List Snap) → list_all (λ (p : Snap). nat_le p.table.levels 2) ps ≡ true → In {X = ℕ × Rooted} (k, r) (map (λ (p : Snap). (p.slot, p.table)) ps) → r.levels ≤ 2
    of_snaps [] few in_none = absurd in_none
    of_snaps (p ∷ ps) few (inl e) =
        let first = (and_parts (nat_le p.table.levels 2) _ few).0 in
        subst (λ (t : Rooted). t.levels ≤ 2) (ap (λ (p : ℕ × Rooted). p.1) e) (let low : p.table.levels ≤ 2 = grind (arith, nat_tests, first) in low)
    of_snaps (p ∷ ps) few (inr later) = of_snaps ps (and_parts (nat_le p.table.levels 2) _ few).1 later

-- and the slot of a root is a used one
root_slot : (h : Head) (k : ℕ) (r : Rooted) → In {X = ℕ × Rooted} (k, r) (roots_of h) → In k (used_slots h)
root_slot h k r (inl e) = inl (ap (λ (p : ℕ × Rooted). p.0) e)
root_slot h k r (inr there) = inr (among h.snapshots there)
  where
    among : (ps : List Snap) → In {X = ℕ × Rooted} (k, r) (map (λ (p : Snap). (p.slot, p.table)) ps) → In k (map (λ (p : Snap). p.slot) ps)
    among [] there = there
    among (p ∷ ps) (inl e) = inl (ap (λ (q : ℕ × Rooted). q.0) e)
    among (p ∷ ps) (inr there) = inr (among ps there)

-- ---- what the slots hold

module _ (w : View) (s : ℕ) (h : Head) (m : Maps) (slots : HasSlotsOf h m) (order : AreInSlots h) where
  -- a stored slot is used exactly where the head uses it
  pub used_is : (k : ℕ) → k < stored_count → is_used_slot m k ≡ list_any (λ slot. slot == k) (used_slots h)
  unfolding snap_at
  used_is k low = ⊎_elim
      (λ (e : k ≡ 0). subst (λ (n : ℕ). is_used_slot m n ≡ list_any (λ slot. slot == n) (used_slots h)) (sym e) refl)
      (λ (e : k ≢ 0). ap (λ (b : Bool). (k == 0) || b) (slots.each k e (λ f. absurd (omega (arith, low, f))) ∙ found_any h.snapshots k)
      ∙ ap (λ (b : Bool). b || list_any (λ slot. slot == k) (map (λ (p : Snap). p.slot) h.snapshots)) (turned k 0))
      (cases_eq k 0)

  lower : (k : ℕ) → k < stored_count → nat_lt k stored_count ≡ true
  lower k low = grind (arith, nat_tests, low)

  used_low : (k : ℕ) → In k (used_slots h) → k < stored_count
  used_low k (inl e) = omega (arith, e)
  used_low k (inr there) = snap_low h order k there

  module _ (bits : HaveBits w s h.span m) where
    -- Where each used slot has the bits of its blocks, so has that of each root,
    pub root_bits : (k : ℕ) (r : Rooted) → In {X = ℕ × Rooted} (k, r) (roots_of h) → (v : ℕ) → has v (slot_at m k) ≡ volume_bit w s h.span k v
    root_bits k r one v =
        let there = root_slot h k r one in
        let low = used_low k there in
        let itself : (k == k) ≡ true = grind (arith, nat_tests) in
        let used : is_used_slot m k ≡ true = used_is k low ∙ to_any (λ slot. slot == k) k (used_slots h) there itself in
        bits k v low ∙ ap (λ (b : Bool). b && volume_bit w s h.span k v) used

    -- the stored slots have together those that the view tells,
    pub taken_bits : (v : ℕ) → taken_in (take stored_count m.slots) v ≡ list_any (λ slot. volume_bit w s h.span slot v) (used_slots h)
    taken_bits v = any_taken (has v) None refl m.slots stored_count ∙ iff _ _ there back
      where
        there : list_any (λ k. has v (get_or m.slots k None)) (range_with_len 0 stored_count) ≡ true → list_any (λ slot. volume_bit w s h.span slot v) (used_slots h) ≡ true
        there e =
            let one = from_any (λ k. has v (get_or m.slots k None)) (range_with_len 0 stored_count) e in
            let low : one.0 < stored_count = (let bounds = from_range 0 stored_count one.0 one.1.0 in let high = bounds.1 in omega (arith, high)) in
            let both = and_parts (is_used_slot m one.0) (volume_bit w s h.span one.0 v) (sym (bits one.0 v low) ∙ one.1.1) in
            let user = from_any (λ slot. slot == one.0) (used_slots h) (sym (used_is one.0 low) ∙ both.0) in
            let same : user.0 ≡ one.0 = (let test = user.1.1 in grind (arith, nat_tests, test)) in
            to_any (λ slot. volume_bit w s h.span slot v) user.0 (used_slots h) user.1.0 (ap (λ (k : ℕ). volume_bit w s h.span k v) same ∙ both.1)

        back : list_any (λ slot. volume_bit w s h.span slot v) (used_slots h) ≡ true → list_any (λ k. has v (get_or m.slots k None)) (range_with_len 0 stored_count) ≡ true
        back e =
            let one = from_any (λ slot. volume_bit w s h.span slot v) (used_slots h) e in
            let low = used_low one.0 one.1.0 in
            let itself : (one.0 == one.0) ≡ true = grind (arith, nat_tests) in
            let used : is_used_slot m one.0 ≡ true = used_is one.0 low ∙ to_any (λ slot. slot == one.0) one.0 (used_slots h) one.1.0 itself in
            to_any (λ k. has v (get_or m.slots k None)) one.0 (range_with_len 0 stored_count) (in_range 0 stored_count one.0 (omega arith) (omega (arith, low))) (bits one.0 v low ∙ and_from (is_used_slot m one.0) (volume_bit w s h.span one.0 v) used one.1.1)

    -- So the maps are those that the view tells.
    pub maps_of : m.span ≡ h.span → AreMapsOf w s h m
    maps_of span = record { span = span; used = used_of; bits = λ v low. taken_bits v }
      where
        used_of : (slot : ℕ) → is_used m slot ≡ list_any (λ k. k == slot) (used_slots h)
        used_of slot = ⊎_elim
            (λ (low : slot < stored_count). ap (λ (b : Bool). b && is_used_slot m slot) (lower slot low) ∙ used_is slot low)
            (λ (past : stored_count ≤ slot).
            let test : nat_lt slot stored_count ≡ false = grind (arith, nat_tests, past) in
            ap (λ (b : Bool). b && is_used_slot m slot) test ∙ sym (none_there slot past))
            (cases_lt slot stored_count)
          where
            none_there : (slot : ℕ) → stored_count ≤ slot → list_any (λ k. k == slot) (used_slots h) ≡ false
            none_there slot past = so (list_any (λ k. k == slot) (used_slots h)) refl
              where
                so : (b : Bool) → list_any (λ k. k == slot) (used_slots h) ≡ b → b ≡ false
                so false e = refl
                so true e =
                    let one = from_any (λ k. k == slot) (used_slots h) e in
                    let same : one.0 ≡ slot = (let test = one.1.1 in grind (arith, nat_tests, test)) in
                    absurd (let low = used_low one.0 one.1.0 in omega (arith, low, same, past))
