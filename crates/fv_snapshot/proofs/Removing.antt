-- A list of snapshots in the order of their slots without the one at a place.
use Rattle.std.proofs.Common.{◌≡◌, ◌≢◌, ℕ, zero, suc, ◌<◌, ◌≤◌, Bool, true, false, ◌&&◌, List, [], ◌∷◌, ◌++◌, length, map, take, drop, Some, None, refl, sym, ap, ap₂, ◌∙◌, arith}
use Rattle.std.specs.Prelude.{◌==◌, All, find, nat_le, nat_lt, slice_index_or, if◌then◌else◌}
use Rattle.std.specs.List.{list_all}
use Rattle.std.proofs.lemmas.Bool.{and_from, and_parts, both_ways}
use Rattle.std.proofs.lemmas.Bool.Decides.{nat_tests}
use Rattle.std.proofs.lemmas.List.Elements.{All-cons, All-head, All-nil, All-tail}
use Rattle.fv_tables.specs.Spelled.{Under}
use Rattle.fv_image.specs.Mapped.{AreInSlots, is_rising, stored_slots}
use Rattle.fv_image.specs.Views.{Head, Snap as HeadSnap}
use Rattle.fv_volume.specs.declared.state.Snap.{Snap}
use Rattle.fv_volume.specs.OneVolume.{snap_by}
use Rattle.fv_volume.specs.States.{snap_in, snaps_in}

-- what is left without the one at a place
abbrev pub left_of : ℕ → List Snap → List Snap
left_of at snaps = take at snaps ++ drop (suc at) snaps

abbrev pub slots_of : List Snap → List ℕ
slots_of snaps = map (λ p. p.slot) (snaps_in snaps)

-- what holds of all numbers of a list holds of those of each
all_at : (test : ℕ → Bool) (snaps : List Snap) (at : ℕ) (d : Snap) → list_all test (slots_of snaps) ≡ true → at < length snaps → test (slice_index_or snaps at d).slot ≡ true
all_at test [] at d all within = absurd (omega (arith, within))
all_at test (q ∷ qs) zero d all within = (and_parts (test q.slot) (list_all test (slots_of qs)) all).0
all_at test (q ∷ qs) (suc at) d all within = all_at test qs at d (and_parts (test q.slot) (list_all test (slots_of qs)) all).1 (omega (arith, within))

-- and of those that are left
all_left : (test : ℕ → Bool) (snaps : List Snap) (at : ℕ) → list_all test (slots_of snaps) ≡ true → list_all test (slots_of (left_of at snaps)) ≡ true
all_left test [] zero all = refl
all_left test [] (suc at) all = refl
all_left test (q ∷ qs) zero all = (and_parts (test q.slot) (list_all test (slots_of qs)) all).1
all_left test (q ∷ qs) (suc at) all = let parts = and_parts (test q.slot) (list_all test (slots_of qs)) all in and_from (test q.slot) _ parts.0 (all_left test qs at parts.1)

-- The slots rise still,
rising_left : (snaps : List Snap) (at : ℕ) → is_rising (slots_of snaps) ≡ true → is_rising (slots_of (left_of at snaps)) ≡ true
rising_left [] zero rising = refl
rising_left [] (suc at) rising = refl
rising_left (q ∷ qs) zero rising = (and_parts (list_all (nat_lt q.slot) (slots_of qs)) (is_rising (slots_of qs)) rising).1
rising_left (q ∷ qs) (suc at) rising =
    let parts = and_parts (list_all (nat_lt q.slot) (slots_of qs)) (is_rising (slots_of qs)) rising in
    and_from (list_all (nat_lt q.slot) (slots_of (left_of at qs))) _ (all_left (nat_lt q.slot) qs at parts.0) (rising_left qs at parts.1)

-- and lie where snapshots' slots do,
within_left : (snaps : List Snap) (at : ℕ) → list_all (λ p. nat_le 1 p.slot && nat_lt p.slot stored_slots) (snaps_in snaps) ≡ true → list_all (λ p. nat_le 1 p.slot && nat_lt p.slot stored_slots) (snaps_in (left_of at snaps)) ≡ true
within_left [] zero all = refl
within_left [] (suc at) all = refl
within_left (q ∷ qs) zero all = (and_parts (nat_le 1 q.slot && nat_lt q.slot stored_slots) _ all).1
within_left (q ∷ qs) (suc at) all = let parts = and_parts (nat_le 1 q.slot && nat_lt q.slot stored_slots) _ all in and_from (nat_le 1 q.slot && nat_lt q.slot stored_slots) _ parts.0 (within_left qs at parts.1)

-- so snapshots stand in their slots.
pub slots_left : (h : Head) (snaps : List Snap) (at : ℕ) → h.snapshots ≡ snaps_in snaps → AreInSlots h → AreInSlots (record h { snapshots = snaps_in (left_of at snaps) })
slots_left h snaps at same is = record {
  within = within_left snaps at (ap (list_all (λ p. nat_le 1 p.slot && nat_lt p.slot stored_slots)) (sym same) ∙ is.within);
  rising = rising_left snaps at (ap (λ (ps : List HeadSnap). is_rising (map (λ p. p.slot) ps)) (sym same) ∙ is.rising);
}

-- the slot of the one at a place is one that a snapshot can have
pub slot_there : (snaps : List Snap) (at : ℕ) (d : Snap) → list_all (λ p. nat_le 1 p.slot && nat_lt p.slot stored_slots) (snaps_in snaps) ≡ true → at < length snaps
    → (1 ≤ (slice_index_or snaps at d).slot) × ((slice_index_or snaps at d).slot < stored_slots)
slot_there [] at d all within = absurd (omega (arith, within))
slot_there (q ∷ qs) zero d all within =
    let bounds = and_parts (nat_le 1 q.slot) (nat_lt q.slot stored_slots) (and_parts (nat_le 1 q.slot && nat_lt q.slot stored_slots) _ all).0 in
    let least = bounds.0 in
    let most = bounds.1 in
    (grind (arith, nat_tests, least), grind (arith, nat_tests, most))
slot_there (q ∷ qs) (suc at) d all within = slot_there qs at d (and_parts (nat_le 1 q.slot && nat_lt q.slot stored_slots) _ all).1 (omega (arith, within))

-- ---- what is found

-- no snapshot behind a slot has it
none_after : (n : ℕ) (snaps : List Snap) → list_all (nat_lt n) (slots_of snaps) ≡ true → find (λ p. p.slot == n) (snaps_in snaps) ≡ None
none_after n [] all = refl
none_after n (q ∷ qs) all =
    let parts = and_parts (nat_lt n q.slot) (list_all (nat_lt n) (slots_of qs)) all in
    let past = parts.0 in
    let other : (q.slot == n) ≡ false = grind (arith, nat_tests, past) in
    ap (λ (b : Bool). if b then Some (snap_in q) else find (λ p. p.slot == n) (snaps_in qs)) other ∙ none_after n qs parts.1

-- The slot of the one that went is no snapshot's, and each other is whose it was.
pub find_left : (snaps : List Snap) (at : ℕ) (d : Snap) → is_rising (slots_of snaps) ≡ true → at < length snaps → (k : ℕ)
    → find (λ p. p.slot == k) (snaps_in (left_of at snaps)) ≡ (if k == (slice_index_or snaps at d).slot then None else find (λ p. p.slot == k) (snaps_in snaps))
find_left [] at d rising within k = absurd (omega (arith, within))
find_left (q ∷ qs) zero d rising within k = by (k == q.slot) refl (q.slot == k) refl
  where
    parts : (list_all (nat_lt q.slot) (slots_of qs) ≡ true) × (is_rising (slots_of qs) ≡ true)
    parts = and_parts (list_all (nat_lt q.slot) (slots_of qs)) (is_rising (slots_of qs)) rising

    equal : (a b : ℕ) → (a == b) ≡ true → a ≡ b
    equal a b e = grind (arith, nat_tests, e)

    turned : (k == q.slot) ≡ false → (q.slot == k) ≡ false
    turned e = grind (arith, nat_tests, e)

    by : (b : Bool) → (k == q.slot) ≡ b → (c : Bool) → (q.slot == k) ≡ c → find (λ p. p.slot == k) (snaps_in qs) ≡ (if b then None else (if c then Some (snap_in q) else find (λ p. p.slot == k) (snaps_in qs)))
    by true e c there = ap (λ (n : ℕ). find (λ p. p.slot == n) (snaps_in qs)) (equal k q.slot e) ∙ none_after q.slot qs parts.0
    by false e true there = absurd (both_ways (q.slot == k) (turned e) there)
    by false e false there = refl
find_left (q ∷ qs) (suc at) d rising within k = by (k == (slice_index_or qs at d).slot) refl (q.slot == k) refl (find_left qs at d parts.1 (omega (arith, within)) k)
  where
    parts : (list_all (nat_lt q.slot) (slots_of qs) ≡ true) × (is_rising (slots_of qs) ≡ true)
    parts = and_parts (list_all (nat_lt q.slot) (slots_of qs)) (is_rising (slots_of qs)) rising

    apart : (k == (slice_index_or qs at d).slot) ≡ true → (q.slot == k) ≡ true → ⊥
    apart e there =
        let past = all_at (nat_lt q.slot) qs at d parts.0 (omega (arith, within)) in
        let later : q.slot < (slice_index_or qs at d).slot = grind (arith, nat_tests, past) in
        let first : k ≡ (slice_index_or qs at d).slot = grind (arith, nat_tests, e) in
        let second : q.slot ≡ k = grind (arith, nat_tests, there) in
        omega (arith, later, first, second)

    by : (b : Bool) → (k == (slice_index_or qs at d).slot) ≡ b → (c : Bool) → (q.slot == k) ≡ c → find (λ p. p.slot == k) (snaps_in (left_of at qs)) ≡ (if b then None else find (λ p. p.slot == k) (snaps_in qs))
        → (if c then Some (snap_in q) else find (λ p. p.slot == k) (snaps_in (left_of at qs))) ≡ (if b then None else (if c then Some (snap_in q) else find (λ p. p.slot == k) (snaps_in qs)))
    by true e true there rest = absurd (apart e there)
    by true e false there rest = rest
    by false e true there rest = refl
    by false e false there rest = rest

-- ---- what holds of each

-- a slot behind another isn't that
past_other : (a b : ℕ) → nat_lt a b ≡ true → b ≢ a
past_other a b past = λ same. let lt : a < b = grind (arith, nat_tests, past) in absurd (omega (arith, lt, same))

-- What holds of each turns to what it becomes in slots that aren't this one,
later_apart : (P Q : Snap → Type 0) (n : ℕ) → ((q : Snap) → q.slot ≢ n → P q → Q q) → (snaps : List Snap) → list_all (nat_lt n) (slots_of snaps) ≡ true → All P snaps → All Q snaps
later_apart P Q n keep [] past all = All-nil Q
later_apart P Q n keep (q ∷ qs) past all =
    let parts = and_parts (nat_lt n q.slot) (list_all (nat_lt n) (slots_of qs)) past in
    All-cons Q q qs (keep q (past_other n q.slot parts.0) (All-head P q qs all)) (later_apart P Q n keep qs parts.1 (All-tail P q qs all))

-- nor is one before another
before_other : (snaps : List Snap) (n at : ℕ) (d : Snap) → list_all (nat_lt n) (slots_of snaps) ≡ true → at < length snaps → n ≢ (slice_index_or snaps at d).slot
before_other snaps n at d past within = λ same. past_other n (slice_index_or snaps at d).slot (all_at (nat_lt n) snaps at d past within) (sym same)

-- so it does for all that are left.
pub left_apart : (P Q : Snap → Type 0) (snaps : List Snap) (at : ℕ) (d : Snap) → is_rising (slots_of snaps) ≡ true → at < length snaps
    → ((q : Snap) → q.slot ≢ (slice_index_or snaps at d).slot → P q → Q q) → All P snaps → All Q (left_of at snaps)
left_apart P Q [] at d rising within keep all = absurd (omega (arith, within))
left_apart P Q (q ∷ qs) zero d rising within keep all =
    later_apart P Q q.slot keep qs (and_parts (list_all (nat_lt q.slot) (slots_of qs)) (is_rising (slots_of qs)) rising).0 (All-tail P q qs all)
left_apart P Q (q ∷ qs) (suc at) d rising within keep all =
    let parts = and_parts (list_all (nat_lt q.slot) (slots_of qs)) (is_rising (slots_of qs)) rising in
    let low : at < length qs = omega (arith, within) in
    All-cons Q q (left_of at qs) (keep q (before_other qs q.slot at d parts.0 low) (All-head P q qs all)) (left_apart P Q qs at d parts.1 low keep (All-tail P q qs all))

-- What is told of each that is left stays, where it does in those slots.
module _ (b c : ℕ → Under) where
  -- the same of those behind a slot
  told_later : (n : ℕ) → ((k : ℕ) → k ≢ n → b k ≡ c k) → (snaps : List Snap) → list_all (nat_lt n) (slots_of snaps) ≡ true → map (snap_by b) snaps ≡ map (snap_by c) snaps
  told_later n same [] past = refl
  told_later n same (q ∷ qs) past =
      let parts = and_parts (nat_lt n q.slot) (list_all (nat_lt n) (slots_of qs)) past in
      ap₂ (λ t ts. t ∷ ts) (ap (λ (u : Under). snap_by (λ k. u) q) (same q.slot (past_other n q.slot parts.0))) (told_later n same qs parts.1)

  pub told_left : (snaps : List Snap) (at : ℕ) (d : Snap) → is_rising (slots_of snaps) ≡ true → at < length snaps → ((k : ℕ) → k ≢ (slice_index_or snaps at d).slot → b k ≡ c k)
      → map (snap_by b) (left_of at snaps) ≡ map (snap_by c) (left_of at snaps)
  told_left [] at d rising within same = absurd (omega (arith, within))
  told_left (q ∷ qs) zero d rising within same = told_later q.slot same qs (and_parts (list_all (nat_lt q.slot) (slots_of qs)) (is_rising (slots_of qs)) rising).0
  told_left (q ∷ qs) (suc at) d rising within same =
      let parts = and_parts (list_all (nat_lt q.slot) (slots_of qs)) (is_rising (slots_of qs)) rising in
      let low : at < length qs = omega (arith, within) in
      ap₂ (λ t ts. t ∷ ts) (ap (λ (u : Under). snap_by (λ k. u) q) (same q.slot (before_other qs q.slot at d parts.0 low))) (told_left qs at d parts.1 low same)
