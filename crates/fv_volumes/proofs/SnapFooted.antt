-- The snapshots of one volume of a session change: each clone stands on what it stood on, where none stands on one that goes.
use Rattle.std.proofs.Common.{◌≡◌, ◌≢◌, ◌⊎◌, ◌+◌, ◌<◌, ◌≤◌, ℕ, zero, suc, Bool, true, false, List, [], ◌∷◌, ◌++◌, length, take, drop, Option, Some, None, inl, inr, is_some, refl, sym, ap, subst, ◌∙◌, ⊎_elim, arith, get_or-set_same, get_or-set_other, length-set}
use Rattle.std.specs.Prelude.{find, map, nat_le, nat_lt, slice_index_or, slice_set, ◌==◌, ◌&&◌, if◌then◌else◌}
use Rattle.std.specs.Option.{option_map_or}
use Rattle.std.proofs.lemmas.Bool.{and_parts, cases_eq, cases_lt, false≢true}
use Rattle.std.proofs.lemmas.Bool.Decides.{nat_tests}
use Rattle.std.proofs.lemmas.List.{get_or_past}
use Rattle.std.proofs.lemmas.Option.{same_Some}
use Rattle.fv_bits.specs.Members.{is_member}
use Rattle.fv_bits.proofs.Laws.{is_member-replicate}
use Rattle.fv_image.specs.Mapped.{stored_slots}
use Rattle.fv_model.specs.Spelling.{is_same_name}
use Rattle.fv_laws.proofs.Lists.{In, in_map}
use Rattle.fv_laws.proofs.Tests.{from_all}
use Rattle.fv_charge.specs.declared.ledger.Ledger.{Ledger}
use Rattle.fv_image.specs.Views.{Snap as HeadSnap}
use Rattle.fv_image.specs.Volumes.{snap_at}
use Rattle.fv_image.proofs.MapSteps.{find_added}
use Rattle.fv_container.specs.Chains.{Slots, slot_count}
use Rattle.fv_volmap.specs.Slots.{Slot, Volume as Maps, active_of, has, map_or_empty, slot_at, slot_of_base, stored_count, with_slot}
use Rattle.fv_volume.specs.declared.state.Base.{Base}
use Rattle.fv_volume.specs.declared.state.Snap.{Snap}
use Rattle.fv_volume.specs.declared.state.VolumeState.{VolumeState}
use Rattle.fv_volume.specs.Asking.{snap_named}
use Rattle.fv_volume.specs.Files.{IsLabelled}
use Rattle.fv_volume.specs.Snaps.{turned_to, with_snapshot, without_snapshot}
use Rattle.fv_volume.specs.Snapshots.{IsLeastFree}
use Rattle.fv_volume.specs.States.{States, head_in, snap_in, snaps_in, state_at, with_state}
use Rattle.fv_volume.proofs.SnapSlots.{added_in, least_is_free}
use Rattle.fv_volumes.specs.Footing.{AreFooted, is_snap_stood_on, some_stands, stands_by}
use Rattle.fv_volumes.proofs.CalledFooted.{footed_active, footed_changed, keeps_footing, HoldsNoMore}
use Rattle.fv_volumes.proofs.Footed.{each_stands, KeepsFooting}
use Rattle.fv_volumes.proofs.StoodOn.{stands_not}
use Rattle.fv_volumes.proofs.Told.{is_inside}

-- where no base of a session passes a test, that of a clone doesn't
pub none_stands : (states : States) (test : Base → Bool) → length states ≡ slot_count → some_stands states test ≡ false → (s : ℕ) (c : VolumeState) (b : Base) → state_at states s ≡ Some c → c.base ≡ Some b → test b ≡ false
none_stands states test long none s c b there based =
    sym (ap (stands_by test) there ∙ ap (λ (o : Option Base). option_map_or test o false) based) ∙ stands_not states test none s (is_inside states s c long there)

-- ---- maps

-- what a slot has of a volume's maps of which one is another, that one has, or the slot had
set_has : (m : Maps) (k : ℕ) (new : Slot) (j v : ℕ) → has v (slot_at (with_slot m k new) j) ≡ true → ((j ≡ k) × (has v new ≡ true)) ⊎ (has v (slot_at m j) ≡ true)
set_has m k new j v here = ⊎_elim
    (λ (same : j ≡ k). ⊎_elim
    (λ (low : k < length m.slots). inl (same, ap (has v) (sym (ap (slot_at (with_slot m k new)) same ∙ get_or-set_same m.slots k new None low)) ∙ here))
    (λ (past : length m.slots ≤ k). absurd (false≢true (sym (ap (has v) (ap (slot_at (with_slot m k new)) same ∙ get_or_past (slice_set m.slots k new) k None (let long = length-set m.slots k new in omega (arith, long, past)))) ∙ here)))
    (cases_lt k (length m.slots)))
    (λ (other : j ≢ k). inr (ap (has v) (sym (get_or-set_other m.slots k j new None other)) ∙ here))
    (cases_eq j k)

-- the active slot has what its map has
active_has : (m : Maps) (v : ℕ) → is_member (active_of m) v ≡ true → has v (slot_at m 0) ≡ true
active_has m v here = by (slot_at m 0) here
  where
    by : (o : Slot) → is_member (map_or_empty m.span o) v ≡ true → has v o ≡ true
    by None e = absurd (false≢true (sym (is_member-replicate m.span v) ∙ e))
    by (Some map) e = e

-- ---- lists of snapshots

-- the slot of a snapshot is one of those that snapshots can have
pub in_bounds : (s : ℕ) (x : VolumeState) → IsLabelled s x → (q : Snap) → In q x.snapshots → (1 ≤ q.slot) × (q.slot < stored_count)
in_bounds s x labelled q there =
    let parts = and_parts (nat_le 1 q.slot) (nat_lt q.slot stored_slots) (from_all (λ (p : HeadSnap). nat_le 1 p.slot && nat_lt p.slot stored_slots) (head_in x).snapshots labelled.snapshots.slots.within (snap_in q) (in_map snap_in q x.snapshots there)) in
    let least = parts.0 in
    let greatest = parts.1 in
    (grind (arith, nat_tests, least), grind (arith, nat_tests, greatest))

-- what is found of a list is in it
found_in : (test : Snap → Bool) (qs : List Snap) (q : Snap) → find test qs ≡ Some q → In q qs
found_in test [] q found = absurd cc
found_in test (p ∷ ps) q found = by (found_in test ps q) (test p) found
  where
    by : (find test ps ≡ Some q → In q ps) → (t : Bool) → (if t then Some p else find test ps) ≡ Some q → In q (p ∷ ps)
    by next true e = inl (same_Some p q e)
    by next false e = inr (next e)

-- the snapshot at a place of a list is in it
at_in : (qs : List Snap) (at : ℕ) (q : Snap) → at < length qs → ((some : Snap) → slice_index_or qs at some ≡ q) → In q qs
at_in [] at q within there = absurd (omega (arith, within))
at_in (p ∷ ps) zero q within there = inl (there q)
at_in (p ∷ ps) (suc at) q within there = inr (at_in ps at q (omega (arith, within)) there)

-- a snapshot of another slot than the one that goes is found as before
left_found : (qs : List Snap) (at k : ℕ) → at < length qs → ((some : Snap) → (slice_index_or qs at some).slot ≢ k) → find (λ (p : HeadSnap). p.slot == k) (map snap_in (take at qs ++ drop (suc at) qs)) ≡ find (λ (p : HeadSnap). p.slot == k) (map snap_in qs)
left_found [] at k within other = absurd (omega (arith, within))
left_found (q ∷ qs) zero k within other = let differ = other q in
    let test : (q.slot == k) ≡ false = grind (arith, nat_tests, differ) in sym (ap (λ (t : Bool). if t then Some (snap_in q) else find (λ (p : HeadSnap). p.slot == k) (map snap_in qs)) test)
left_found (q ∷ qs) (suc at) k within other = ap (λ (o : Option HeadSnap). if q.slot == k then Some (snap_in q) else o) (left_found qs at k (omega (arith, within)) other)

-- ---- the steps

module _ (states : States) (s : ℕ) (x : VolumeState) (there : state_at states s ≡ Some x) (slots : Slots) (footed : AreFooted states slots) where
  -- A snapshot is made under a free map slot, with the active map.
  module _ (slot : ℕ) (name : List ℕ) (free : IsLeastFree x.snapshots slot) where
    abbrev made : VolumeState
    made = with_snapshot x slot name

    abbrev IsUsed : ℕ → Type 0
    IsUsed k = is_some (snap_at (head_in x) k) ≡ true

    none_there : snap_at (head_in x) slot ≡ None
    none_there = least_is_free (head_in x) x.snapshots slot refl free

    not_slot : (k : ℕ) → IsUsed k → k ≢ slot
    not_slot k used same = false≢true (sym (ap is_some (ap (snap_at (head_in x)) same ∙ none_there)) ∙ used)

    found_more : (k : ℕ) → snap_at (head_in made) k ≡ (if slot == k then Some (snap_in (record { slot = slot; name = name; table = x.active })) else snap_at (head_in x) k)
    unfolding snap_at
    found_more k = ap (find (λ (p : HeadSnap). p.slot == k)) (added_in (record { slot = slot; name = name; table = x.active }) x.snapshots)
        ∙ find_added (snap_in (record { slot = slot; name = name; table = x.active })) (snaps_in x.snapshots) k none_there

    made_keeps : KeepsFooting IsUsed x made
    made_keeps = record {
      slot = refl;
      name = refl;
      span = refl;
      known = refl;
      base = refl;
      found = λ k used q at.
          let differ = not_slot k used in
          let test : (slot == k) ≡ false = grind (arith, nat_tests, differ) in
          found_more k ∙ ap (λ (t : Bool). if t then Some (snap_in (record { slot = slot; name = name; table = x.active })) else snap_at (head_in x) k) test ∙ at;
      maps = λ k used v. ap (has v) (get_or-set_other x.map.slots slot k (Some (active_of x.map)) None (not_slot k used));
      based = λ v. ap (has v) (get_or-set_other x.map.slots slot slot_of_base (Some (active_of x.map)) None (λ same. let low = free.stored in absurd (omega (arith, low, same))));
    }

    made_fewer : HoldsNoMore x made
    made_fewer k v low here = ⊎_elim
        (λ (of : (k ≡ slot) × (has v (Some (active_of x.map)) ≡ true)). (0, omega arith, active_has x.map v of.1))
        (λ (was : has v (slot_at x.map k) ≡ true). (k, low, was))
        (set_has x.map slot (Some (active_of x.map)) k v here)

    pub made_footed : AreFooted (with_state states s (Some made)) slots
    made_footed = footed_changed states s x made there slots IsUsed made_keeps
        (λ k c b at based up.
        let is = (each_stands states slots footed k c b at based).0 in
        let one : is.parent ≡ x = same_Some is.parent x (sym is.there ∙ ap (state_at states) up ∙ there) in
        ap is_some (subst (λ (z : VolumeState). snap_at (head_in z) b.slot ≡ Some (snap_in is.snap)) one is.found))
        made_fewer footed

  -- One is removed that no clone stands on, with its map.
  module _ (long : length states ≡ slot_count) (labelled : IsLabelled s x) (at : ℕ) (within : at < length x.snapshots) (snap : Snap) (lies : (some : Snap) → slice_index_or x.snapshots at some ≡ snap)
      (ledger : Ledger) (unused : is_snap_stood_on states s snap.slot ≡ false) where
    abbrev removed : VolumeState
    removed = record (without_snapshot x at snap.slot) { ledger = ledger }

    abbrev bounds : (1 ≤ snap.slot) × (snap.slot < stored_count)
    bounds = in_bounds s x labelled snap (at_in x.snapshots at snap within lies)

    removed_keeps : KeepsFooting (λ k. k ≢ snap.slot) x removed
    unfolding snap_at
    removed_keeps = record {
      slot = refl;
      name = refl;
      span = refl;
      known = refl;
      base = refl;
      found = λ k other q found.
          let next : at + 1 ≡ suc at = omega arith in
          ap (λ (n : ℕ). find (λ (p : HeadSnap). p.slot == k) (map snap_in (take at x.snapshots ++ drop n x.snapshots))) next
          ∙ left_found x.snapshots at k within (λ some same. other (sym same ∙ ap (λ (q : Snap). q.slot) (lies some))) ∙ found;
      maps = λ k other v. ap (has v) (get_or-set_other x.map.slots snap.slot k None None other);
      based = λ v. ap (has v) (get_or-set_other x.map.slots snap.slot slot_of_base None None (λ same. let low = bounds.1 in absurd (omega (arith, low, same))));
    }

    removed_fewer : HoldsNoMore x removed
    removed_fewer k v low here = ⊎_elim
        (λ (of : (k ≡ snap.slot) × (has v None ≡ true)). absurd (false≢true of.1))
        (λ (was : has v (slot_at x.map k) ≡ true). (k, low, was))
        (set_has x.map snap.slot None k v here)

    pub removed_footed : AreFooted (with_state states s (Some removed)) slots
    removed_footed = footed_changed states s x removed there slots (λ k. k ≢ snap.slot) removed_keeps
        (λ k c b here based up same.
        let none = none_stands states (λ b. (b.parent == s) && (b.slot == snap.slot)) long unused k c b here based in
        let one : (b.parent == s) ≡ true = grind (arith, nat_tests, up) in
        let two : (b.slot == snap.slot) ≡ true = grind (arith, nat_tests, same) in
        absurd (false≢true (sym none ∙ (λ i. one i && two i))))
        removed_fewer footed

  -- The table of one is the active one, with its map.
  pub turned_footed : IsLabelled s x → (name : List ℕ) (snap : Snap) → snap_named x.snapshots name ≡ Some snap → (ledger : Ledger)
      → AreFooted (with_state states s (Some (record (turned_to x snap.table) { map = with_slot x.map 0 (slot_at x.map snap.slot); ledger = ledger }))) slots
  turned_footed labelled name snap named ledger = footed_active states s x (record (turned_to x snap.table) { map = with_slot x.map 0 (slot_at x.map snap.slot); ledger = ledger }) there slots
      (keeps_footing (λ k. k ≢ 0) x (record (turned_to x snap.table) { map = with_slot x.map 0 (slot_at x.map snap.slot); ledger = ledger }) refl refl refl refl refl refl
      (λ k other. get_or-set_other x.map.slots 0 k (slot_at x.map snap.slot) None other) (get_or-set_other x.map.slots 0 slot_of_base (slot_at x.map snap.slot) None (λ e. absurd (omega (arith, e)))))
      (λ v here. ⊎_elim
      (λ (of : (0 ≡ 0) × (has v (slot_at x.map snap.slot) ≡ true)). (snap.slot, (in_bounds s x labelled snap (found_in (λ q. is_same_name name q.name) x.snapshots snap named)).1, of.1))
      (λ (was : has v (slot_at x.map 0) ≡ true). (0, omega arith, was))
      (set_has x.map 0 (slot_at x.map snap.slot) 0 v here))
      footed
