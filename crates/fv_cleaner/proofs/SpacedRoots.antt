-- After any clean step the volumes of a session are spaced as before, and each slot stands beside what the root on the disk names.
use Rattle.std.proofs.Common.{◌≡◌, ◌≢◌, ◌<◌, ℕ, Bool, true, false, true≢false, List, Option, Some, None, inl, inr, refl, sym, ap, subst, ◌∙◌, ⊎_elim, arith, get_or-set_same, get_or-set_other}
use Rattle.std.specs.Prelude.{IfSome, ◌||◌}
use Rattle.std.proofs.lemmas.Bool.{cases_eq}
use Rattle.fv_disk.specs.Shown.{Image, Shown as Disk}
use Rattle.fv_disk.specs.DiskCalls.{OnlyReads}
use Rattle.fv_aggmap.specs.Space.{Space, blocks_of}
use Rattle.fv_container.specs.Mapped.{Mapped}
use Rattle.fv_container.specs.Paged.{Paged}
use Rattle.fv_container.specs.Spelled.{is_at, names}
use Rattle.fv_image.specs.Views.{entry_count}
use Rattle.fv_container.specs.Chains.{Slots, container_at, paged_at, slot_count}
use Rattle.fv_root.specs.declared.find.Found.{Found}
use Rattle.fv_pool.specs.declared.pool.Pool.{Pool}
use Rattle.fv_pool.specs.BlocksOver.{LeavesPool}
use Rattle.fv_volume.specs.declared.state.VolumeState.{VolumeState}
use Rattle.fv_volume.specs.Held.{IsHeldIn}
use Rattle.fv_volume.specs.Loading.{Houses}
use Rattle.fv_volume.specs.Placements.{with_places}
use Rattle.fv_volume.specs.States.{States, state_at, with_state}
use Rattle.fv_volume.specs.Stored.{AreSpacedIn, has_block, leads}
use Rattle.fv_volumes.specs.UnderRoot.{IsLentAt, IsLentSlot}
use Rattle.fv_volumes.proofs.LentSlots.{lent_slot}
use Rattle.fv_cleaner.specs.Staying.{MayBeCleaned}
use Rattle.fv_cleaner.specs.Stepping.{CleansVolume}
use Rattle.fv_cleaner.proofs.Spaced.{housed_some, slots_now, some_paged, spaced_now}

-- spaced alike where each slot has the blocks that it had
spaced_alike : (blocks : ℕ) (next : List Bool) (state now : ℕ → Option VolumeState) (container left : ℕ → Option Mapped) → ((s b : ℕ) → has_block (now s) (left s) b ≡ has_block (state s) (container s) b)
    → AreSpacedIn blocks next state container → AreSpacedIn blocks next now left
spaced_alike blocks next state now container left has is = record {
  apart = λ s k b small large other here there. is.apart s k b small large other (sym (has s b) ∙ here) (sym (has k b) ∙ there);
  held = λ s b small there. is.held s b small (sym (has s b) ∙ there);
  set = λ b bit. let s = is.set b bit in (s.0, s.1, has s.0 b ∙ s.2);
}

-- a volume whose label waits to be written, with other places in it
lent_label : (i : Image) (found : Found) (s : ℕ) (x : VolumeState) (places : List ℕ) (paged : Paged) → IsLentSlot i found s x paged → IsLentSlot i found s (with_places x places) paged
lent_label i found s x places paged is = record {
  label = is.label;
  nodes = is.nodes;
  clean = is.clean;
  apart = record { some = is.apart.some; entries = is.apart.entries; nodes = is.apart.nodes; label = is.apart.label };
  maps = λ k j stored low. let m = is.maps k j stored low in record { place = m.place; some = m.some; there = m.there; held = m.held; bits = m.bits };
  unchanged = λ e. absurd (true≢false e);
}

module _ (disk after : Disk) (pool left : Pool) (states : States) (x y : VolumeState) (may : MayBeCleaned disk pool states x.slot x) (reads : OnlyReads disk after)
    (size : blocks_of pool.map ≡ pool.found.blocks) (slots : (k : ℕ) → k < slot_count → IsLentAt disk.reads pool.found k (state_at states k) (paged_at pool.containers k))
    (spaced : AreSpacedIn pool.found.blocks pool.map.next (state_at states) (container_at pool.containers)) where
  abbrev s : ℕ
  s = x.slot

  abbrev stay : States
  stay = with_state states s (Some y)

  mine : IsHeldIn disk pool s x
  mine = subst (λ (o : Option VolumeState). IfSome o (IsHeldIn disk pool s)) may.there (may.each s)

  inside : s < 64
  inside = mine.ready.lent.within

  here : state_at stay s ≡ Some y
  here = get_or-set_same states s (Some y) None (let long = may.housed.long in omega (arith, inside, long))

  other_state : (k : ℕ) → k ≢ s → state_at stay k ≡ state_at states k
  other_state k differ = get_or-set_other states s k (Some y) None differ

  -- where the label alone changed, or nothing
  module _ (leaves : LeavesPool pool left) (label_is : y.label ≡ x.label) (span_is : y.span ≡ x.span)
      (lent_y : (paged : Paged) → IsLentSlot disk.reads pool.found s x paged → IsLentSlot disk.reads pool.found s y paged) where
    has : (k b : ℕ) → has_block (state_at stay k) (container_at left.containers k) b ≡ has_block (state_at states k) (container_at pool.containers k) b
    has k b = (λ i. has_block (state_at stay k) (container_at (leaves.containers i) k) b) ∙ ⊎_elim
        (λ (e : k ≡ s). subst (λ (n : ℕ). has_block (state_at stay n) (container_at pool.containers n) b ≡ has_block (state_at states n) (container_at pool.containers n) b) (sym e)
        ((λ i. has_block (here i) (container_at pool.containers s) b) ∙ same (container_at pool.containers s) ∙ (λ i. has_block (sym may.there i) (container_at pool.containers s) b)))
        (λ (differ : k ≢ s). (λ i. has_block (other_state k differ i) (container_at pool.containers k) b))
        (cases_eq k s)
      where
        same : (c : Option Mapped) → has_block (Some y) c b ≡ has_block (Some x) c b
        same None = refl
        same (Some m) = λ i. is_at b (label_is i) || (names m.tree b || leads m (entry_count (span_is i)) b)

    label_spaced : AreSpacedIn left.found.blocks left.map.next (state_at stay) (container_at left.containers)
    label_spaced = subst (λ (f : Found). AreSpacedIn f.blocks left.map.next (state_at stay) (container_at left.containers)) (sym leaves.found)
        (subst (λ (m : Space). AreSpacedIn pool.found.blocks m.next (state_at stay) (container_at left.containers)) (sym leaves.map)
        (spaced_alike pool.found.blocks pool.map.next (state_at states) (state_at stay) (container_at pool.containers) (container_at left.containers) has spaced))

    was : (paged : Paged) × (paged_at pool.containers s ≡ Some paged)
    was = some_paged (paged_at pool.containers s) (housed_some x (container_at pool.containers s) (subst (λ (o : Option VolumeState). Houses o (container_at pool.containers s)) may.there (may.housed.each s))).0

    slot_pool : (k : ℕ) → k < 64 → IsLentAt disk.reads pool.found k (state_at stay k) (paged_at pool.containers k)
    slot_pool k low = ⊎_elim
        (λ (e : k ≡ s). subst (λ (n : ℕ). IsLentAt disk.reads pool.found n (state_at stay n) (paged_at pool.containers n)) (sym e)
        (subst (λ (o : Option VolumeState). IsLentAt disk.reads pool.found s o (paged_at pool.containers s)) (sym here) (subst (λ (c : Option Paged). IsLentAt disk.reads pool.found s (Some y) c) (sym was.1)
        (lent_y was.0 (lent_slot disk.reads pool.found s (state_at states s) (paged_at pool.containers s) x was.0 may.there was.1 (slots s inside))))))
        (λ (differ : k ≢ s). subst (λ (o : Option VolumeState). IsLentAt disk.reads pool.found k o (paged_at pool.containers k)) (sym (other_state k differ)) (slots k low))
        (cases_eq k s)

    label_lent : (k : ℕ) → k < 64 → IsLentAt after.reads left.found k (state_at stay k) (paged_at left.containers k)
    label_lent k low = subst (λ (i : Image). IsLentAt i left.found k (state_at stay k) (paged_at left.containers k)) (sym reads.stays.reads) (subst (λ (f : Found). IsLentAt disk.reads f k (state_at stay k) (paged_at left.containers k)) (sym leaves.found)
        (subst (λ (c : Slots). IsLentAt disk.reads pool.found k (state_at stay k) (paged_at c k)) (sym leaves.containers) (slot_pool k low)))

  -- So it is after any step.
  pub spaced_after : (took : Bool) → CleansVolume disk pool x left y took → AreSpacedIn left.found.blocks left.map.next (state_at stay) (container_at left.containers)
  spaced_after true (inl block) = spaced_now disk after pool left states x y may block reads size slots spaced
  spaced_after true (inr roots) = label_spaced roots.leaves (ap (λ (z : VolumeState). z.label) roots.roots.state) (ap (λ (z : VolumeState). z.span) roots.roots.state)
      (λ paged is. subst (λ (z : VolumeState). IsLentSlot disk.reads pool.found s z paged) (sym roots.roots.state) (lent_label disk.reads pool.found s x roots.roots.places paged is))
  spaced_after false roots = label_spaced roots.leaves (ap (λ (z : VolumeState). z.label) roots.roots.1) (ap (λ (z : VolumeState). z.span) roots.roots.1)
      (λ paged is. subst (λ (z : VolumeState). IsLentSlot disk.reads pool.found s z paged) (sym roots.roots.1) is)

  pub lent_after : (took : Bool) → CleansVolume disk pool x left y took → (k : ℕ) → k < 64 → IsLentAt after.reads left.found k (state_at stay k) (paged_at left.containers k)
  lent_after true (inl block) = slots_now disk after pool left states x y may block reads size slots spaced
  lent_after true (inr roots) = label_lent roots.leaves (ap (λ (z : VolumeState). z.label) roots.roots.state) (ap (λ (z : VolumeState). z.span) roots.roots.state)
      (λ paged is. subst (λ (z : VolumeState). IsLentSlot disk.reads pool.found s z paged) (sym roots.roots.state) (lent_label disk.reads pool.found s x roots.roots.places paged is))
  lent_after false roots = label_lent roots.leaves (ap (λ (z : VolumeState). z.label) roots.roots.1) (ap (λ (z : VolumeState). z.span) roots.roots.1)
      (λ paged is. subst (λ (z : VolumeState). IsLentSlot disk.reads pool.found s z paged) (sym roots.roots.1) is)
