-- The slots of a volume's maps against its snapshots.
use Rattle.std.proofs.Common.{◌≡◌, ◌≢◌, ℕ, zero, suc, replicate, false, Some, None, [], List, map, refl, sym, ap, subst, ◌∙◌, Option}
use Rattle.std.specs.Prelude.{◌==◌, ◌&&◌, find, is_some, nat_le, nat_lt, slice_index_or}
use Rattle.std.specs.List.{All, list_all}
use Rattle.fv_image.specs.Views.{Head, Snap, Footing}
use Rattle.fv_image.specs.Volumes.{snap_at}
use Rattle.fv_image.specs.Mapped.{is_rising, stored_slots}
use Rattle.fv_volmap.specs.Slots.{Slot, Volume as Maps, empty_volume, slot_at, slot_of_base, stored_count}
use Rattle.fv_volume.specs.Files.{HasSlotsOf, IsOneMap}
use Rattle.fv_volume.specs.SnapRecords.{AreSayable, IsSayableSnap}

pub is_free : (slot : Slot) → is_some slot ≡ false → slot ≡ None
is_free None none = refl
is_free (Some map) none = absurd cc

pub no_snap : (h : Head) → h.snapshots ≡ [] → (k : ℕ) → is_some (snap_at h k) ≡ false
unfolding snap_at
no_snap h empty k = ap (λ (ps : List Snap). is_some (find (λ p. p.slot == k) ps)) empty

pub slots_of_one : (h : Head) (maps : Maps) → h.base ≡ None → h.snapshots ≡ [] → IsOneMap maps → HasSlotsOf h maps
slots_of_one h maps none empty one = record {
  each = λ k other not_base. ap (λ (slot : Slot). is_some slot) (one k other) ∙ sym (no_snap h empty k);
  base = ap (λ (slot : Slot). is_some slot) (one slot_of_base (λ e. absurd cc)) ∙ sym (ap (λ (o : Option Footing). is_some o) none);
}

-- Heads with the same snapshots have the same slots, and can be said alike.
pub same_slots : (g h : Head) (maps : Maps) → g.base ≡ h.base → g.snapshots ≡ h.snapshots → HasSlotsOf h maps → HasSlotsOf g maps
unfolding snap_at
same_slots g h maps base same is = record {
  each = λ k other not_base. is.each k other not_base ∙ ap (λ (ps : List Snap). is_some (find (λ p. p.slot == k) ps)) (sym same);
  base = is.base ∙ ap (λ (o : Option Footing). is_some o) (sym base);
}

pub same_sayable : (g h : Head) → g.snapshots ≡ h.snapshots → AreSayable h → AreSayable g
same_sayable g h same is = record {
  slots = record {
    within = ap (λ (ps : List Snap). list_all (λ p. nat_le 1 p.slot && nat_lt p.slot stored_slots) ps) same ∙ is.slots.within;
    rising = ap (λ (ps : List Snap). is_rising (map (λ p. p.slot) ps)) same ∙ is.slots.rising;
  };
  each = subst (All IsSayableSnap) (sym same) is.each;
}

-- Maps with the same slots beside the active one serve the same snapshots.
pub slots_kept : (h : Head) (old new : Maps) → ((k : ℕ) → k ≢ 0 → slot_at new k ≡ slot_at old k) → HasSlotsOf h old → HasSlotsOf h new
slots_kept h old new same is = record {
  each = λ k other not_base. ap (λ (slot : Slot). is_some slot) (same k other) ∙ is.each k other not_base;
  base = ap (λ (slot : Slot). is_some slot) (same slot_of_base (λ e. absurd cc)) ∙ is.base;
}

-- A new volume has one map.
pub one_empty : (span : ℕ) → IsOneMap (empty_volume span)
one_empty span zero other = absurd (other refl)
one_empty span (suc k) other = none stored_count k
  where
    none : (n k : ℕ) → slice_index_or {A = Slot} (replicate n None) k None ≡ None
    none zero k = refl
    none (suc n) zero = refl
    none (suc n) (suc k) = none n k
