-- A new volume that is yet to be written: no map of it lies on the disk, and none waits.
use Rattle.std.proofs.Common.{◌≡◌, ◌≢◌, ℕ, Bool, true, false, not, ◌&&◌, List, refl, ap, ◌∙◌, ⊎_elim}
use Rattle.std.specs.Prelude.{is_some, nat_lt}
use Rattle.std.proofs.lemmas.Bool.{cases_eq}
use Rattle.fv_image.specs.Volumes.{snap_at}
use Rattle.fv_volmap.specs.Slots.{slot_at, slot_of_base, stored_count}
use Rattle.fv_volume.specs.declared.state.Snap.{Snap as StateSnap}
use Rattle.fv_volume.specs.declared.state.VolumeState.{VolumeState}
use Rattle.fv_volume.specs.States.{head_in}
use Rattle.fv_volume.specs.Stored.{has_stored_map, is_rewritten}
use Rattle.fv_volume.specs.Writing.{map_wait}
use Rattle.fv_volume.proofs.MapCounts.{alone_waits}
use Rattle.fv_volume.proofs.StayingMaps.{active_moves}
use Rattle.fv_aggregate.specs.Adding.{IsYetToWrite}

none_and : (a : Bool) (b : Bool) → a ≡ false → (a && b) ≡ false
none_and false b e = refl
none_and true b e = absurd cc

and_none : (a b c : Bool) → b ≡ false → (a && (b && c)) ≡ false
and_none true false c e = refl
and_none false b c e = refl
and_none true true c e = absurd cc

-- no snapshot's map is there, the active one is written with it, and that of its base never lies on the disk
pub none_stored : (x : VolumeState) → IsYetToWrite x → (k : ℕ) → has_stored_map x k ≡ false
unfolding snap_at
none_stored x is k = ⊎_elim
    (λ (first : k ≡ 0). ap (has_stored_map x) first ∙ active_moves x)
    (λ (some : k ≢ 0). ⊎_elim
    (λ (base : k ≡ slot_of_base). ap (λ (n : ℕ). nat_lt n stored_count && (is_some (slot_at x.map n) && not (is_rewritten x n))) base)
    (λ (other : k ≢ slot_of_base). and_none (nat_lt k stored_count) (is_some (slot_at x.map k)) (not (is_rewritten x k)) (is.labelled.slots.each k some other ∙ none_kept))
    (cases_eq k slot_of_base))
    (cases_eq k 0)
  where
    none_kept : is_some (snap_at (head_in x) k) ≡ false
    none_kept = ap (λ (ps : List StateSnap). is_some (snap_at (head_in (record x { snapshots = ps })) k)) is.snapshots

pub none_waits : (x : VolumeState) → IsYetToWrite x → map_wait x ≡ 0
none_waits x is = alone_waits x.slot x is.labelled (ap (λ (ps : List StateSnap). (head_in (record x { snapshots = ps })).snapshots) is.snapshots)
