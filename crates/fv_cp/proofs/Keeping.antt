-- Through a point the blocks stay that the volumes hold, along the chains of their containers.
use Rattle.std.proofs.Common.{◌≡◌, ◌≤◌, ◌<◌, ◌⊎◌, ⊎_elim, ℕ, Bool, true, false, true≢false, Option, Some, None, refl, sym, ap, subst, ◌∙◌, arith}
use Rattle.std.specs.Prelude.{IfSome, List, is_some, nat_lt, take, if◌then◌else◌}
use Rattle.std.specs.Option.{option_map}
use Rattle.std.proofs.lemmas.Bool.{cases_Bool, false≢true}
use Rattle.std.proofs.lemmas.Bool.Decides.{nat_tests}
use Rattle.std.proofs.lemmas.Option.{none-some, same_Some}
use Rattle.fv_disk.specs.Shown.{Image, Shown}
use Rattle.fv_model.specs.Machines.{Machine}
use Rattle.fv_image.specs.Views.{Placed}
use Rattle.fv_container.specs.declared.entry.Entry.{Entry}
use Rattle.fv_container.specs.Chains.{container_at, own_entry, parent_at, slot_count}
use Rattle.fv_container.specs.Mapped.{Mapped, entry_under}
use Rattle.fv_volmap.specs.Slots.{IsVolume, has, slot_at, slot_of_base, stored_count, taken_in}
use Rattle.fv_volmap.proofs.Rows.{past_all}
use Rattle.fv_delay.specs.declared.regions.Region.{Region}
use Rattle.fv_delay.specs.Holding.{has_region}
use Rattle.fv_delay.specs.Reclaims.{goes_with}
use Rattle.fv_pool.specs.declared.pool.Pool.{Pool}
use Rattle.fv_pool.specs.BlocksOver.{held_entry}
use Rattle.fv_pool.specs.Keeping.{Blocks}
use Rattle.fv_pool.proofs.AlongChains.{held_found, held_stays}
use Rattle.fv_pool.proofs.Holding.{has_taken}
use Rattle.fv_volume.specs.declared.state.Base.{Base}
use Rattle.fv_volume.specs.declared.state.VolumeState.{VolumeState}
use Rattle.fv_volume.specs.Files.{IsLabelled}
use Rattle.fv_volume.specs.Loading.{Houses}
use Rattle.fv_volume.specs.States.{States, footing_in, placed_in, state_at}
use Rattle.fv_volume.specs.Stored.{has_stored_map, map_slot, stays}
use Rattle.fv_volume.proofs.SettledTables.{taken_some}
use Rattle.fv_volume.proofs.SnapSlots.{stored_taken}
use Rattle.fv_volume.proofs.StayingMaps.{written_low}
use Rattle.fv_volumes.specs.Footing.{AreFooted}
use Rattle.fv_volumes.specs.Housed.{AreHoused, settled_as}
use Rattle.fv_volumes.proofs.Footed.{each_stands}
use Rattle.fv_volumes.proofs.OnChains.{rests_above, some_slot}
use Rattle.fv_volumes.proofs.Told.{is_inside}
use Rattle.fv_cp.specs.Choosing.{marked_as, regions_chosen}
use Rattle.fv_cp.specs.Held.{IsHeld}
use Rattle.fv_cp.specs.Placing.{HasWholeMap, HaveNoFiles}
use Rattle.fv_cp.specs.Points.{is_due}
use Rattle.fv_cp.specs.Settling.{IsHeldPoint, KeepsBlocks, LeavesPlaced}

-- the volume of a slot has a number in some slot of its maps
record Has (states : States) (s v : ℕ) : Type 0 where
  volume : VolumeState
  there : state_at states s ≡ Some volume
  slot : ℕ
  has_it : has v (slot_at volume.map slot) ≡ true

-- entries with the same blocks are the same
same_entry : (k l : Blocks) (i j : Image) (a b : Option Entry) → placed_in k i a ≡ placed_in l j b → a ≡ b
same_entry k l i j None None is = refl
same_entry k l i j None (Some e) is = absurd (none-some _ is)
same_entry k l i j (Some d) None is = absurd (none-some _ (sym is))
same_entry k l i j (Some d) (Some e) is =
    let one = same_Some _ _ is in
    λ t. Some (record { pvbn = ap (λ (p : Placed). p.pvbn) one t; kind = ap (λ (p : Placed). p.kind) one t })

-- Each own entry stays that a map has but for the base, with its block, and each hole below a span stays one.
module _ (pool left : Pool) (states : States) (i j : Image) (housed : AreHoused pool.containers states) (footed : AreFooted states pool.containers) (whole : (s : ℕ) → HasWholeMap (state_at states s))
    (parents : (s : ℕ) → parent_at left.containers s ≡ parent_at pool.containers s)
    (kept : (s v : ℕ) (x : VolumeState) → s < slot_count → state_at states s ≡ Some x → stays x v ≡ true
    → placed_in left.kept j (own_entry (container_at left.containers s) v) ≡ placed_in pool.kept i (own_entry (container_at pool.containers s) v))
    (holes : (s v : ℕ) (x : VolumeState) → s < slot_count → state_at states s ≡ Some x → v < x.span → own_entry (container_at pool.containers s) v ≡ None → own_entry (container_at left.containers s) v ≡ None) where
  labelled : (s : ℕ) (x : VolumeState) → state_at states s ≡ Some x → IsLabelled s x
  labelled s x there = subst (λ (o : Option VolumeState). IfSome o (IsLabelled s)) there (housed.volumes s)

  valid : (s : ℕ) (x : VolumeState) → state_at states s ≡ Some x → IsVolume x.map
  valid s x there = subst HasWholeMap there (whole s)

  abbrev On : ℕ → ℕ → Type 0
  On = Has states

  taken : (s v : ℕ) (r : On s v) → taken_in r.volume.map.slots v ≡ true
  taken s v r = has_taken r.volume.map.slots r.slot v r.has_it

  -- what a map has is below the span
  low : (s v : ℕ) (r : On s v) → v < r.volume.span
  low s v r = ⊎_elim
      (λ (past : r.volume.map.span ≤ v). absurd (true≢false (sym (taken s v r) ∙ past_all r.volume.map.span v r.volume.map.slots (valid s r.volume r.there).long past)))
      (λ (under : v < r.volume.map.span). let same = (labelled s r.volume r.there).map in omega (arith, under, same))
      (let either : (r.volume.map.span ≤ v) ⊎ (v < r.volume.map.span) = grind (arith) in either)

  -- under a number of the base there is no own entry
  none_based : (s v : ℕ) (r : On s v) → has v (slot_at r.volume.map slot_of_base) ≡ true → own_entry (container_at pool.containers s) v ≡ None
  none_based s v r here = by r.volume.base refl
    where
      used : (o : Option Base) → r.volume.base ≡ o → is_some (option_map footing_in o) ≡ true
      used o at =
          ap (λ (b : Option Base). is_some (option_map footing_in b)) (sym at) ∙ sym (labelled s r.volume r.there).slots.base
          ∙ some_slot_used (slot_at r.volume.map slot_of_base) here
        where
          some_slot_used : (m : Option (List Bool)) → has v m ≡ true → is_some m ≡ true
          some_slot_used None e = absurd (false≢true e)
          some_slot_used (Some m) e = refl

      by : (o : Option Base) → r.volume.base ≡ o → own_entry (container_at pool.containers s) v ≡ None
      by None at = absurd (false≢true (used None at))
      by (Some b) at =
          ap (λ (n : ℕ). own_entry (container_at pool.containers n) v) (sym (labelled s r.volume r.there).slot_is)
          ∙ (each_stands states pool.containers footed s r.volume b r.there at).1.leaves v here

  block_same : (s v : ℕ) → On s v → placed_in left.kept j (own_entry (container_at left.containers s) v) ≡ placed_in pool.kept i (own_entry (container_at pool.containers s) v)
  block_same s v r = ⊎_elim
      (λ (here : has v (slot_at r.volume.map slot_of_base) ≡ true).
      let none = none_based s v r here in
      ap (placed_in left.kept j) (holes s v r.volume inside r.there (low s v r) none) ∙ sym (ap (placed_in pool.kept i) none))
      (λ (off : has v (slot_at r.volume.map slot_of_base) ≡ false).
      kept s v r.volume inside r.there (stays_on off))
      (cases_Bool (has v (slot_at r.volume.map slot_of_base)))
    where
      inside : s < 64
      inside = is_inside states s r.volume housed.long r.there

      stays_on : has v (slot_at r.volume.map slot_of_base) ≡ false → stays r.volume v ≡ true
      stays_on off =
          let here : taken_in (take stored_count r.volume.map.slots) v ≡ true =
          sym (stored_taken r.volume.map.slots v (valid s r.volume r.there).count off) ∙ taken s v r in
          let test : nat_lt v r.volume.span ≡ true = (let under = low s v r in grind (arith, nat_tests, under)) in
          ap (λ (t : Bool). if t then taken_in (take stored_count r.volume.map.slots) v else has_stored_map r.volume (map_slot r.volume.span v)) test ∙ here

  own_same : (s v : ℕ) → On s v → own_entry (container_at left.containers s) v ≡ own_entry (container_at pool.containers s) v
  own_same s v r = same_entry left.kept pool.kept j i (own_entry (container_at left.containers s) v) (own_entry (container_at pool.containers s) v) (block_same s v r)

  goes_up : (s v t : ℕ) → On s v → own_entry (container_at pool.containers s) v ≡ None → parent_at pool.containers s ≡ Some t → On t v
  goes_up s v t r none up =
      let y = rests_above states pool.containers housed.parents footed
      (λ s x there. ((labelled s x there).slot_is, λ k v here. some_slot s x (labelled s x there) k v here)) s v t r.volume r.slot r.there r.has_it none up in
      record { volume = y.volume; there = y.there; slot = y.slot; has_it = y.has_it }

  module _ (s : ℕ) (x : VolumeState) (there : state_at states s ≡ Some x) where
    on : (v : ℕ) → taken_in x.map.slots v ≡ true → On s v
    on v is = let at = taken_some x.map.slots v is in record { volume = x; there = there; slot = at.0; has_it = at.1 }

    pub held_same : (v : ℕ) → placed_in left.kept j (held_entry x.map left.containers s v) ≡ placed_in pool.kept i (held_entry x.map pool.containers s v)
    held_same v = ap (placed_in left.kept j) (held_stays pool.containers left.containers On (λ s v r. parents s) own_same goes_up x.map s on v) ∙ so (held_entry x.map pool.containers s v) refl
      where
        so : (o : Option Entry) → held_entry x.map pool.containers s v ≡ o → placed_in left.kept j o ≡ placed_in pool.kept i o
        so None is = refl
        so (Some e) is =
            let at = (held_found pool.containers left.containers On (λ s v r. parents s) own_same goes_up x.map s on v e is).1 in
            ap (placed_in left.kept j) (sym (own_same at.slot v at.rests ∙ at.own)) ∙ block_same at.slot v at.rests ∙ ap (placed_in pool.kept i) at.own

-- ---- of a point

module _ (old : Shown) (pool : Pool) (states : States) (want : ℕ) (new : Shown) (left : Pool) (stay : States) (marks : List Bool) (is : IsHeldPoint old pool states want new left stay marks) where
  abbrev e : LeavesPlaced pool states want left stay
  e = is.entries

  abbrev chosen : List Region
  chosen = regions_chosen e.mid e.between want

  -- a hole stays one
  hole_left : (s v : ℕ) (x : VolumeState) → s < 64 → state_at e.between s ≡ Some x → v < x.span
      → own_entry (container_at e.mid.containers s) v ≡ None → own_entry (container_at left.containers s) v ≡ None
  hole_left s v x inside there low none = by (container_at e.mid.containers s) refl
    where
      none_of : (t : Bool) (o : Option Entry) → o ≡ None → ◌≡◌ {A = Option Entry} (if t then None else o) None
      none_of true o at = refl
      none_of false o at = at

      written : (map : Mapped) → container_at e.mid.containers s ≡ Some map → (b : Bool) → is_due chosen s x ≡ b → own_entry (container_at left.containers s) v ≡ None
      written map lies true due =
          let one = e.containers.written s x map inside there due lies in
          ap (λ (c : Option Mapped). own_entry c v) one.1.0 ∙ one.1.1.reclaimed v (written_low x v low)
          ∙ none_of (goes_with x.map map (has_region chosen s) v) (entry_under map v) (sym (ap (λ (c : Option Mapped). own_entry c v) lies) ∙ none)
      written map lies false due =
          ap (λ (c : Option Mapped). own_entry c v) (e.containers.stays s inside (subst (λ (o : Option VolumeState). IfSome o (λ x. is_due chosen s x ≡ false)) (sym there) due))
          ∙ none

      by : (c : Option Mapped) → container_at e.mid.containers s ≡ c → own_entry (container_at left.containers s) v ≡ None
      by None lies = absurd (subst (λ (c : Option Mapped). Houses (Some x) c) lies (subst (λ (o : Option VolumeState). Houses o (container_at e.mid.containers s)) there (e.housed.each s)))
      by (Some map) lies = written map lies _ refl

  pub keeps_blocks : HaveNoFiles states → (before : Machine) → IsHeld old pool states before → AreHoused pool.containers states
      → ((s : ℕ) → parent_at left.containers s ≡ parent_at pool.containers s) → KeepsBlocks old pool states new left stay
  keeps_blocks bare before held housed parents = record {
    written = λ s. let one = e.written s in (one.0, (one.1.0, one.1.1 ∙ ap (λ (o : Option VolumeState). option_map (settled_as one.1.0) (option_map (marked_as one.0) o)) (between s)));
    blocks = λ s v x there. held_same pool left states old.reads new.reads housed held.footed (λ s. subst HasWholeMap (between s) (e.whole s)) parents
        (λ s v x inside there on. is.kept s v x inside (between s ∙ there) on ∙ (λ t. placed_in (is.idle bare t) old.reads (own_entry (lies s t) v)))
        (λ s v x inside there low none. hole_left s v x inside (between s ∙ there) low (ap (λ (c : Option Mapped). own_entry c v) (lies s) ∙ none)) s x there v;
  }
    where
      between : (s : ℕ) → state_at e.between s ≡ state_at states s
      between s = (e.rest s (bare s)).0

      lies : (s : ℕ) → container_at e.mid.containers s ≡ container_at pool.containers s
      lies s = (e.rest s (bare s)).1
