-- One volume of a session becomes another, in its slot: what holds of each slot then, and what the sums over the slots are.
use Rattle.std.proofs.Common.{◌≡◌, ◌≢◌, ◌<◌, ◌≤◌, ◌+◌, ℕ, Bool, false, List, length, Option, Some, None, sum_by, ⊎_elim, refl, sym, ap, subst, ◌∙◌, arith, length-set, get_or-set_other, get_or-set_same}
use Rattle.std.specs.Prelude.{IfSome}
use Rattle.std.proofs.lemmas.Bool.{cases_eq}
use Rattle.std.proofs.lemmas.List.Sums.{sum_by-set}
use Rattle.fv_disk.specs.Shown.{Image}
use Rattle.fv_image.specs.Views.{entry_count}
use Rattle.fv_root.specs.declared.find.Found.{Found}
use Rattle.fv_container.specs.Chains.{Slots, container_at, paged_at}
use Rattle.fv_container.specs.Mapped.{Mapped}
use Rattle.fv_container.specs.Paged.{Paged}
use Rattle.fv_volume.specs.declared.state.VolumeState.{VolumeState}
use Rattle.fv_volume.specs.Files.{AreNamed, IsLabelled}
use Rattle.fv_volume.specs.Loading.{Houses, IsLoaded}
use Rattle.fv_volume.specs.States.{States, parent_in, state_at, with_state}
use Rattle.fv_volume.specs.Stored.{AreApartIn, AreSpacedIn, has_block, is_of, leads}
use Rattle.fv_volumes.specs.Housed.{AreHoused}
use Rattle.fv_volumes.specs.UnderRoot.{IsLentAt, StandMaps}
use Rattle.fv_volumes.proofs.Made.{from_pairs, to_pair}
use Rattle.fv_volumes.proofs.Told.{is_inside}

module _ (states : States) (long : length states ≡ 64) (s : ℕ) (x y : VolumeState) (there : state_at states s ≡ Some x) where
  abbrev stay : States
  stay = with_state states s (Some y)

  pub within : s < length states
  within = let low = is_inside states s x long there in omega (arith, low, long)

  pub here : state_at stay s ≡ Some y
  here = get_or-set_same states s (Some y) None within

  pub other : (k : ℕ) → k ≢ s → state_at stay k ≡ state_at states k
  other k differ = get_or-set_other states s k (Some y) None differ

  -- ---- slot by slot

  -- what holds of the new volume, and of each other slot, holds of each
  pub each_slot : (P : ℕ → Option VolumeState → Type 0) → P s (Some y) → ((k : ℕ) → k ≢ s → P k (state_at states k)) → (k : ℕ) → P k (state_at stay k)
  each_slot P own others k = ⊎_elim
      (λ (at : k ≡ s). subst (λ (n : ℕ). P n (state_at stay n)) (sym at) (subst (P s) (sym here) own))
      (λ (differ : k ≢ s). subst (P k) (sym (other k differ)) (others k differ))
      (cases_eq k s)

  -- what the new volume has of the one before it, each slot has of what it was
  pub same_slot : {A : Type 0} (f : ℕ → Option VolumeState → A) → f s (Some y) ≡ f s (Some x) → (k : ℕ) → f k (state_at stay k) ≡ f k (state_at states k)
  same_slot f same = each_slot (λ k o. f k o ≡ f k (state_at states k)) (same ∙ sym (ap (f s) there)) (λ k differ. refl)

  houses : y.span ≡ x.span → (c : Option Mapped) → Houses (Some x) c → Houses (Some y) c
  houses span None never = never
  houses span (Some map) count = count ∙ ap (λ (n : ℕ). entry_count n) (sym span)

  -- the volumes are housed
  pub housed_as : (c : Slots) → IsLabelled y.slot y → y.slot ≡ x.slot → y.span ≡ x.span → parent_in (Some y) ≡ parent_in (Some x) → AreHoused c states → AreHoused c stay
  housed_as c labelled slot span parent was = record {
    long = length-set states s (Some y) ∙ long;
    volumes = each_slot (λ k o. IfSome o (IsLabelled k))
        (subst (λ (n : ℕ). IsLabelled n y) (slot ∙ (subst (λ (o : Option VolumeState). IfSome o (IsLabelled s)) there (was.volumes s)).slot_is) labelled) (λ k differ. was.volumes k);
    each = each_slot (λ k o. Houses o (container_at c k)) (houses span (container_at c s) (subst (λ (o : Option VolumeState). Houses o (container_at c s)) there (was.each s))) (λ k differ. was.each k);
    parents = λ k. was.parents k ∙ sym (same_slot (λ k o. parent_in o) parent k);
  }

  -- the slots stand in an image, where its maps do, and it does where it hasn't changed
  module _ (i : Image) (found : Found) (label : y.label ≡ x.label) (span : y.span ≡ x.span) (maps : (map : Mapped) → StandMaps i found x map → StandMaps i found y map)
      (unchanged : (map : Paged) → (x.changed ≡ false → IsLoaded i found s (Some x) (Some map)) → y.changed ≡ false → IsLoaded i found s (Some y) (Some map)) where
    apart_as : (map : Mapped) → AreApartIn x map → AreApartIn y map
    apart_as map is = record {
      some = is.some;
      entries = λ v w lt low. is.entries v w lt (subst (λ (n : ℕ). w < entry_count n) span low);
      nodes = λ b names. ap (λ (n : ℕ). leads map (entry_count n) b) span ∙ is.nodes b names;
      label = (λ j. leads map (entry_count (span j)) (label j)) ∙ is.label;
    }

    slot_as : (o : Option Paged) → IsLentAt i found s (Some x) o → IsLentAt i found s (Some y) o
    slot_as None never = never
    slot_as (Some paged) l = record {
      label = λ some. label ∙ l.label (λ none. some (label ∙ none));
      nodes = l.nodes;
      clean = l.clean;
      apart = apart_as paged.map l.apart;
      maps = maps paged.map l.maps;
      unchanged = unchanged paged l.unchanged;
    }

    pub lent_as : (c : Slots) → ((k : ℕ) → k < 64 → IsLentAt i found k (state_at states k) (paged_at c k)) → (k : ℕ) → k < 64 → IsLentAt i found k (state_at stay k) (paged_at c k)
    lent_as c was = each_slot (λ k o. k < 64 → IsLentAt i found k o (paged_at c k))
        (λ low. slot_as (paged_at c s) (subst (λ (o : Option VolumeState). IsLentAt i found s o (paged_at c s)) there (was s low))) (λ k differ. was k)

  -- their blocks are spaced, where the new volume has the blocks of the one before it
  module _ (c : Slots) (same : (map : Mapped) (b : ℕ) → is_of y y.label map b ≡ is_of x x.label map b) where
    same_block : (o : Option Mapped) (b : ℕ) → has_block (Some y) o b ≡ has_block (Some x) o b
    same_block None b = refl
    same_block (Some map) b = same map b

    has_same : (k b : ℕ) → has_block (state_at stay k) (container_at c k) b ≡ has_block (state_at states k) (container_at c k) b
    has_same k b = same_slot (λ k o. has_block o (container_at c k) b) (same_block (container_at c s) b) k

    pub spaced_as : (blocks : ℕ) (next : List Bool) → AreSpacedIn blocks next (state_at states) (container_at c) → AreSpacedIn blocks next (state_at stay) (container_at c)
    spaced_as blocks next was = record {
      apart = λ k l b small large differ first second. was.apart k l b small large differ (sym (has_same k b) ∙ first) (sym (has_same l b) ∙ second);
      held = λ k b small has. was.held k b small (sym (has_same k b) ∙ has);
      set = λ b set. let one = was.set b set in (one.0, one.1, has_same one.0 b ∙ one.2);
    }

  -- no two have one name, where the new volume has the name of the one before it
  module _ (named : y.name ≡ x.name) where
    was_named : (k : ℕ) (a : VolumeState) → state_at stay k ≡ Some a → (o : VolumeState) × ((state_at states k ≡ Some o) × (a.name ≡ o.name))
    was_named k a at = ⊎_elim
        (λ (e : k ≡ s). (x, (ap (state_at states) e ∙ there, ap (λ (z : VolumeState). z.name) (same_some a y (sym at ∙ ap (state_at stay) e ∙ here)) ∙ named)))
        (λ (differ : k ≢ s). (a, (sym (other k differ) ∙ at, refl)))
        (cases_eq k s)
      where
        same_some : (a b : VolumeState) → ◌≡◌ {A = Option VolumeState} (Some a) (Some b) → a ≡ b
        same_some a b e = cc

    pub named_as : AreNamed states → AreNamed stay
    named_as was = from_pairs stay (λ k l a b first second same.
        let one = was_named k a first in
        let two = was_named l b second in
        to_pair states was k l one.0 two.0 one.1.0 two.1.0 (sym one.1.1 ∙ same ∙ two.1.1))

  -- ---- sums

  pub same_sum : (f : Option VolumeState → ℕ) → f (Some y) ≡ f (Some x) → sum_by f stay ≡ sum_by f states
  same_sum f same =
      let sum = sum_by-set f states s (Some y) None within in
      let own : f (state_at states s) ≡ f (Some y) = ap f there ∙ sym same in
      omega (arith, sum, own)

  -- a sum that grows by so much at most
  pub sum_within : (f : Option VolumeState → ℕ) (more : ℕ) → f (Some y) ≤ f (Some x) + more → sum_by f stay ≤ sum_by f states + more
  sum_within f more few =
      let sum = sum_by-set f states s (Some y) None within in
      let own : f (state_at states s) ≡ f (Some x) = ap f there in
      omega (arith, sum, own, few)
