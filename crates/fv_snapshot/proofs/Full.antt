-- How many snapshots a volume has whose slots are all taken, or of which one is free.
use Rattle.std.proofs.Common.{◌≡◌, ℕ, zero, suc, ◌+◌, ◌<◌, ◌≤◌, Bool, true, false, ◌||◌, List, [], ◌∷◌, length, refl, sym, ap, ◌∙◌, ⊎_elim, inl, inr, arith}
use Rattle.std.specs.Prelude.{◌⊎◌, ◌==◌, ◌&&◌, map, nat_le, nat_lt}
use Rattle.std.specs.List.{list_all}
use Rattle.std.proofs.lemmas.Bool.{and_from, and_parts, or_cases, or_parts, true≢false}
use Rattle.std.proofs.lemmas.Bool.Decides.{nat_tests}
use Rattle.fv_image.specs.Mapped.{AreInSlots, is_rising, stored_slots}
use Rattle.fv_image.specs.Views.{Head, Snap as HeadSnap}
use Rattle.fv_model.specs.Numbers.{most_snapshots}
use Rattle.fv_volume.specs.declared.state.Snap.{Snap}
use Rattle.fv_volume.specs.Snapshots.{AreSlotsFull, IsLeastFree, has_slot}
use Rattle.fv_volume.specs.States.{snaps_in}
use Rattle.fv_snapshot.proofs.Removing.{slots_of}

-- the test on lesser numbers
lt_of : (a b : ℕ) → nat_lt a b ≡ true → a < b
lt_of a b e = grind (arith, nat_tests, e)

-- the test on equal numbers
equal : (a b : ℕ) → (a == b) ≡ true → a ≡ b
equal a b e = grind (arith, nat_tests, e)

-- no snapshot behind a number has one up to it
none_up_to : (snaps : List Snap) (n k : ℕ) → list_all (nat_lt n) (slots_of snaps) ≡ true → k ≤ n → has_slot snaps k ≡ false
none_up_to [] n k past low = refl
none_up_to (q ∷ qs) n k past low =
    let parts = and_parts (nat_lt n q.slot) (list_all (nat_lt n) (slots_of qs)) past in
    let lt = lt_of n q.slot parts.0 in
    let other : (q.slot == k) ≡ false = grind (arith, nat_tests, lt, low) in
    ap (λ (b : Bool). b || has_slot qs k) other ∙ none_up_to qs n k parts.1 low

-- the slots of snapshots that stand in them are from 1 to 24
pub some_slots : (snaps : List Snap) → list_all (λ p. nat_le 1 p.slot && nat_lt p.slot stored_slots) (snaps_in snaps) ≡ true → (list_all (nat_lt 0) (slots_of snaps) ≡ true) × (list_all (λ k. nat_lt k stored_slots) (slots_of snaps) ≡ true)
some_slots [] all = (refl, refl)
some_slots (q ∷ qs) all =
    let parts = and_parts (nat_le 1 q.slot && nat_lt q.slot stored_slots) _ all in
    let bounds = and_parts (nat_le 1 q.slot) (nat_lt q.slot stored_slots) parts.0 in
    let rest = some_slots qs parts.1 in
    let least = bounds.0 in
    let above : nat_lt 0 q.slot ≡ true = grind (arith, nat_tests, least) in
    (and_from (nat_lt 0 q.slot) _ above rest.0, and_from (nat_lt q.slot stored_slots) _ bounds.1 rest.1)

-- ---- all are taken

-- as many snapshots as slots in a row that are all taken
many_from : (n m : ℕ) (snaps : List Snap) → is_rising (slots_of snaps) ≡ true → list_all (nat_lt m) (slots_of snaps) ≡ true → ((k : ℕ) → m < k → k ≤ m + n → has_slot snaps k ≡ true) → n ≤ length snaps
many_from zero m snaps rising past full = omega arith
many_from (suc n) m [] rising past full = absurd (true≢false (sym (full (m + 1) (omega arith) (omega arith))))
many_from (suc n) m (q ∷ qs) rising past full =
    let parts = and_parts (list_all (nat_lt q.slot) (slots_of qs)) (is_rising (slots_of qs)) rising in
    let first = lt_of m q.slot (and_parts (nat_lt m q.slot) (list_all (nat_lt m) (slots_of qs)) past).0 in
    let here : q.slot ≡ m + 1 = ⊎_elim (λ e. equal q.slot (m + 1) e) (λ later. absurd (true≢false (sym later ∙ none_up_to qs q.slot (m + 1) parts.0 (omega (arith, first))))) (or_cases (q.slot == (m + 1)) (has_slot qs (m + 1)) (full (m + 1) (omega arith) (omega arith))) in
    let rest = many_from n q.slot qs parts.1 parts.0 (λ k low high. ⊎_elim
    (λ e. let same = equal q.slot k e in absurd (omega (arith, same, low)))
    (λ later. later)
    (or_cases (q.slot == k) (has_slot qs k) (full k (omega (arith, here, low)) (omega (arith, here, high))))) in
    omega (arith, rest)

-- A volume whose slots are all snapshots' has 24 at least.
pub full_many : (snaps : List Snap) → is_rising (slots_of snaps) ≡ true → list_all (nat_lt 0) (slots_of snaps) ≡ true → AreSlotsFull snaps → most_snapshots ≤ length snaps
full_many snaps rising some full = many_from most_snapshots 0 snaps rising some (λ k low high. full.full k (omega (arith, low)) (omega (arith, high)))

-- ---- one is free

-- at most as many snapshots as slots behind a number
few_from : (m : ℕ) (snaps : List Snap) → is_rising (slots_of snaps) ≡ true → list_all (nat_lt m) (slots_of snaps) ≡ true → list_all (λ k. nat_lt k stored_slots) (slots_of snaps) ≡ true → m < stored_slots → length snaps + m + 1 ≤ stored_slots
few_from m [] rising past low within = omega (arith, within)
few_from m (q ∷ qs) rising past low within =
    let parts = and_parts (list_all (nat_lt q.slot) (slots_of qs)) (is_rising (slots_of qs)) rising in
    let first = lt_of m q.slot (and_parts (nat_lt m q.slot) (list_all (nat_lt m) (slots_of qs)) past).0 in
    let bounds = and_parts (nat_lt q.slot stored_slots) (list_all (λ k. nat_lt k stored_slots) (slots_of qs)) low in
    let rest = few_from q.slot qs parts.1 parts.0 bounds.1 (lt_of q.slot stored_slots bounds.0) in
    omega (arith, rest, first)

-- and one fewer where one of those is free
few_free : (m slot : ℕ) (snaps : List Snap) → is_rising (slots_of snaps) ≡ true → list_all (nat_lt m) (slots_of snaps) ≡ true → list_all (λ k. nat_lt k stored_slots) (slots_of snaps) ≡ true → m < slot → slot < stored_slots → has_slot snaps slot ≡ false → length snaps + m + 2 ≤ stored_slots
few_free m slot [] rising past low above within free = omega (arith, above, within)
few_free m slot (q ∷ qs) rising past low above within free =
    let parts = and_parts (list_all (nat_lt q.slot) (slots_of qs)) (is_rising (slots_of qs)) rising in
    let first = lt_of m q.slot (and_parts (nat_lt m q.slot) (list_all (nat_lt m) (slots_of qs)) past).0 in
    let bounds = and_parts (nat_lt q.slot stored_slots) (list_all (λ k. nat_lt k stored_slots) (slots_of qs)) low in
    let others = or_parts (q.slot == slot) (has_slot qs slot) free in ⊎_elim
    (λ (before : q.slot < slot). let rest = few_free q.slot slot qs parts.1 parts.0 bounds.1 before within others.1 in omega (arith, rest, first))
    (λ (behind : slot < q.slot). let rest = few_from q.slot qs parts.1 parts.0 bounds.1 (lt_of q.slot stored_slots bounds.0) in omega (arith, rest, behind, above))
    (apart q.slot slot others.0)
  where
    apart : (a b : ℕ) → (a == b) ≡ false → (a < b) ⊎ (b < a)
    apart a b e = by (nat_lt a b) refl
      where
        by : (t : Bool) → nat_lt a b ≡ t → (a < b) ⊎ (b < a)
        by true is = inl (lt_of a b is)
        by false is = inr (grind (arith, nat_tests, is, e))

-- One of which a slot is free has fewer.
pub free_few : (snaps : List Snap) (slot : ℕ) → is_rising (slots_of snaps) ≡ true → list_all (nat_lt 0) (slots_of snaps) ≡ true → list_all (λ k. nat_lt k stored_slots) (slots_of snaps) ≡ true → IsLeastFree snaps slot → length snaps < most_snapshots
free_few snaps slot rising some low free = let few = few_free 0 slot snaps rising some low free.above free.stored free.free in omega (arith, few)

-- However many there are, they are at most 24.
pub few_snaps : (h : Head) (snaps : List Snap) → h.snapshots ≡ snaps_in snaps → AreInSlots h → length snaps ≤ most_snapshots
few_snaps h snaps same is =
    let slots = some_slots snaps (ap (list_all (λ p. nat_le 1 p.slot && nat_lt p.slot stored_slots)) (sym same) ∙ is.within) in
    let few = few_from 0 snaps (ap (λ (ps : List HeadSnap). is_rising (map (λ p. p.slot) ps)) (sym same) ∙ is.rising) slots.0 slots.1 (omega arith) in
    omega (arith, few)
