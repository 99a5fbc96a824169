-- A volume's snapshots and the slots of its maps, where a snapshot is made, removed or restored; and the union of the slots.
use Rattle.std.proofs.Common.{◌≡◌, ◌≢◌, ℕ, suc, ◌+◌, ◌<◌, ◌≤◌, Bool, true, false, cond, not, List, [], ◌∷◌, ◌++◌, length, map, take, drop, inl, inr, refl, sym, ap, ◌∙◌, ⊎_elim, arith}
use Rattle.std.specs.Prelude.{Option, Some, None, ◌==◌, ◌||◌, find, is_some, nat_lt, insert, if◌then◌else◌}
use Rattle.std.specs.List.{list_any, position_or_len}
use Rattle.std.proofs.lemmas.Bool.{and_parts, cases_eq, not-true, or_parts}
use Rattle.std.proofs.lemmas.Bool.Decides.{nat_tests}
use Rattle.std.proofs.lemmas.Cmp.{eq_by_cmp_equiv}
use Rattle.std.proofs.lemmas.List.{take_all}
use Rattle.std.proofs.lemmas.List.Folds.{list_any_more}
use Rattle.fv_model.specs.Spelling.{is_same_name}
use Rattle.fv_laws.proofs.Lists.{In}
use Rattle.fv_laws.proofs.Orders.{name_total}
use Rattle.fv_image.specs.Views.{Head, Rooted, Snap}
use Rattle.fv_image.specs.Volumes.{snap_at}
use Rattle.fv_image.specs.ReachRules.{are_distinct}
use Rattle.fv_image.specs.Turned.{added as head_added, turned, without}
use Rattle.fv_image.proofs.MapSteps.{find_added}
use Rattle.fv_volmap.specs.Slots.{Slot, Volume as Maps, has, slot_at, slot_of_base, stored_count, taken_in, with_slot, slot_count}
use Rattle.fv_volume.specs.declared.state.Snap.{Snap as StateSnap}
use Rattle.fv_volume.specs.Files.{HasSlotsOf}
use Rattle.fv_volume.specs.Snapshots.{FindsSnap, IsLeastFree, added, has_slot}
use Rattle.fv_volume.specs.States.{snap_in, snaps_in}
use Rattle.fv_volume.proofs.CountedMaps.{slot_with}
use Rattle.fv_volume.proofs.MapSlots.{slots_kept}
use Rattle.fv_volume.proofs.Positions.{first_of, first_within}

-- ---- the list of a volume, and that of its head

-- with one more snapshot each
pub added_in : (p : StateSnap) (ps : List StateSnap) → snaps_in (added p ps) ≡ head_added (snap_in p) (snaps_in ps)
unfolding head_added
added_in p [] = refl
added_in p (q ∷ qs) = so (nat_lt p.slot q.slot) (added_in p qs)
  where
    so : (b : Bool) → snaps_in (insert qs (position_or_len (λ r. nat_lt p.slot r.slot) qs) p) ≡ head_added (snap_in p) (snaps_in qs)
        → snaps_in (insert (q ∷ qs) (cond (not b) (1 + position_or_len (λ r. nat_lt p.slot r.slot) qs) 0) p) ≡ (if b then snap_in p ∷ (snap_in q ∷ snaps_in qs) else snap_in q ∷ head_added (snap_in p) (snaps_in qs))
    so true rest = refl
    so false rest =
        ap (λ (n : ℕ). snaps_in (insert (q ∷ qs) n p)) (let next : 1 + position_or_len (λ r. nat_lt p.slot r.slot) qs ≡ suc (position_or_len (λ r. nat_lt p.slot r.slot) qs) = omega arith in next)
        ∙ ap (λ (ds : List Snap). snap_in q ∷ ds) rest

none_named : (test : List ℕ → Bool) (ps : List Snap) → list_any test (map (λ p. p.name) ps) ≡ false → (q : Snap) → In q ps → test q.name ≡ false
none_named test [] none q there = absurd there
none_named test (p ∷ ps) none q (inl e) = ap (λ (d : Snap). test d.name) (sym e) ∙ (or_parts (test p.name) (list_any test (map (λ p. p.name) ps)) none).0
none_named test (p ∷ ps) none q (inr there) = none_named test ps (or_parts (test p.name) (list_any test (map (λ p. p.name) ps)) none).1 q there

all_stay : (name : List ℕ) (ps : List Snap) → ((q : Snap) → In q ps → is_same_name q.name name ≡ false) → without name ps ≡ ps
all_stay name [] other = refl
all_stay name (p ∷ ps) other = ap (λ (b : Bool). cond (not b) (p ∷ without name ps) (without name ps)) (other p (inl refl)) ∙ ap (λ (qs : List Snap). p ∷ qs) (all_stay name ps (λ q there. other q (inr there)))

-- another snapshot hasn't the name of one that has it
other_name : (p q name : List ℕ) → is_same_name p name ≡ true → is_same_name p q ≡ false → is_same_name q name ≡ false
other_name p q name has differ =
    let equal = eq_by_cmp_equiv name_total in
    equal.symm q name ∙ sym (equal.congr p name q has) ∙ differ

without_first : (ps : List StateSnap) (name : List ℕ) (n : ℕ) → n ≡ position_or_len (λ p. is_same_name p.name name) ps → n < length ps → are_distinct (map (λ p. p.name) (snaps_in ps)) ≡ true → snaps_in (take n ps ++ drop (suc n) ps) ≡ without name (snaps_in ps)
without_first [] name n is within distinct = absurd (omega (arith, within))
without_first (p ∷ ps) name n is within distinct = so (is_same_name p.name name) refl is (λ m same low. without_first ps name m same low parts.1)
  where
    parts : (not (list_any (is_same_name p.name) (map (λ q. q.name) (snaps_in ps))) ≡ true) × (are_distinct (map (λ q. q.name) (snaps_in ps)) ≡ true)
    parts = and_parts (not (list_any (is_same_name p.name) (map (λ q. q.name) (snaps_in ps)))) _ distinct

    so : (b : Bool) → is_same_name p.name name ≡ b → n ≡ cond (not b) (1 + position_or_len (λ q. is_same_name q.name name) ps) 0
        → ((m : ℕ) → m ≡ position_or_len (λ q. is_same_name q.name name) ps → m < length ps → snaps_in (take m ps ++ drop (suc m) ps) ≡ without name (snaps_in ps))
        → snaps_in (take n (p ∷ ps) ++ drop (suc n) (p ∷ ps)) ≡ cond (not b) (snap_in p ∷ without name (snaps_in ps)) (without name (snaps_in ps))
    so true has at rest =
        ap (λ (m : ℕ). snaps_in (take m (p ∷ ps) ++ drop (suc m) (p ∷ ps))) at
        ∙ sym (all_stay name (snaps_in ps) (λ q there. other_name p.name q.name name has (none_named (is_same_name p.name) (snaps_in ps) (not-true _ parts.0) q there)))
    so false hasnt at rest =
        let next : n ≡ suc (position_or_len (λ q. is_same_name q.name name) ps) = omega (arith, at) in
        ap (λ (m : ℕ). snaps_in (take m (p ∷ ps) ++ drop (suc m) (p ∷ ps))) next
        ∙ ap (λ (qs : List Snap). snap_in p ∷ qs) (rest (position_or_len (λ q. is_same_name q.name name) ps) refl (omega (arith, next, within)))

-- without the snapshot of a name
pub removed_in : (ps : List StateSnap) (name : List ℕ) (at : ℕ) → FindsSnap ps name (Some at) → are_distinct (map (λ p. p.name) (snaps_in ps)) ≡ true → snaps_in (take at ps ++ drop (at + 1) ps) ≡ without name (snaps_in ps)
removed_in ps name at is distinct =
    ap (λ (m : ℕ). snaps_in (take at ps ++ drop m ps)) (let next : at + 1 ≡ suc at = omega arith in next)
    ∙ without_first ps name at (first_of (λ p. is_same_name p.name name) ps at is) (first_within (λ p. is_same_name p.name name) ps at is) distinct

-- a slot that no snapshot has
none_found : (ps : List StateSnap) (slot : ℕ) → has_slot ps slot ≡ false → find (λ p. p.slot == slot) (snaps_in ps) ≡ None
none_found [] slot none = refl
none_found (p ∷ ps) slot none =
    let both = or_parts (p.slot == slot) (has_slot ps slot) none in
    ap (λ (b : Bool). if b then Some (snap_in p) else find (λ q. q.slot == slot) (snaps_in ps)) both.0 ∙ none_found ps slot both.1

pub least_is_free : (h : Head) (ps : List StateSnap) (slot : ℕ) → h.snapshots ≡ snaps_in ps → IsLeastFree ps slot → snap_at h slot ≡ None
unfolding snap_at
least_is_free h ps slot same is = ap (find (λ p. p.slot == slot)) same ∙ none_found ps slot is.free

-- ---- the slots of the maps

same_test : (a b : ℕ) → a ≡ b → (a == b) ≡ true
same_test a b e = grind (arith, nat_tests, e)

other_test : (a b : ℕ) → a ≢ b → (a == b) ≡ false
other_test a b e = grind (arith, nat_tests, e)

module _ (h : Head) (a : Rooted) (m : Maps) (long : stored_count < length m.slots) (is : HasSlotsOf h m) where
  -- the map that is kept under a free slot is the new snapshot's
  pub slots_more : (p : Snap) (map : List Bool) → 1 ≤ p.slot → p.slot < stored_count → snap_at h p.slot ≡ None → HasSlotsOf (turned h a (head_added p h.snapshots)) (with_slot m p.slot (Some map))
  unfolding snap_at
  slots_more p map some low free = record {
    each = λ k other not_base. ap (λ (s : Slot). is_some s) (slot_with m p.slot (Some map) (omega (arith, low, long)) k) ∙ ⊎_elim
        (λ (e : k ≡ p.slot). ap (λ (b : Bool). is_some (if b then Some map else slot_at m k)) (same_test k p.slot e)
        ∙ sym (ap (λ (b : Bool). is_some (if b then Some p else find (λ q. q.slot == k) h.snapshots)) (same_test p.slot k (sym e))))
        (λ (e : k ≢ p.slot). ap (λ (b : Bool). is_some (if b then Some map else slot_at m k)) (other_test k p.slot e) ∙ is.each k other not_base
        ∙ sym (ap (λ (b : Bool). is_some (if b then Some p else find (λ q. q.slot == k) h.snapshots)) (other_test p.slot k (λ f. e (sym f)))))
        (cases_eq k p.slot)
        ∙ ap (λ (o : Option Snap). is_some o) (sym (find_added p h.snapshots k free));
    base = ap (λ (s : Slot). is_some s) (slot_with m p.slot (Some map) (omega (arith, low, long)) slot_of_base)
        ∙ ap (λ (b : Bool). is_some (if b then Some map else slot_at m slot_of_base)) (other_test slot_of_base p.slot (λ e. absurd (omega (arith, low, e)))) ∙ is.base;
  }

  -- another active map changes nothing of the others
  pub slots_turned : (s : Slot) → HasSlotsOf (turned h a h.snapshots) (with_slot m 0 s)
  unfolding snap_at
  slots_turned s =
      let kept = slots_kept h m (with_slot m 0 s) (λ k other. slot_with m 0 s (omega (arith, long)) k ∙ ap (λ (b : Bool). if b then s else slot_at m k) (other_test k 0 other)) is in
      record { each = kept.each; base = kept.base }

-- ---- the union of the slots

-- where no base has one, the stored slots have all
pub stored_taken : (slots : List Slot) (v : ℕ) → length slots ≡ slot_count → has v (slot_at (record { span = 0; slots = slots }) slot_of_base) ≡ false → taken_in slots v ≡ taken_in (take stored_count slots) v
stored_taken slots v long free =
    sym (ap (λ (s : List Slot). taken_in s v) (take_all slot_count slots (omega (arith, long))))
    ∙ list_any_more (has v) slots slot_of_base None (omega (arith, long)) ∙ ap (λ (b : Bool). taken_in (take stored_count slots) v || b) free ∙ or_none (taken_in (take stored_count slots) v)
  where
    or_none : (b : Bool) → (b || false) ≡ b
    or_none true = refl
    or_none false = refl
