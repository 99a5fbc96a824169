-- The volumes of a session beside what the root on the disk names, over an image that has the blocks which that root holds; and a mirror beside it.
use Rattle.std.proofs.Common.{◌≡◌, ◌≢◌, ◌<◌, ℕ, Bool, true, false, not, ◌&&◌, List, Option, Some, None, refl, sym, ap, subst, ◌∙◌, ⊎_elim, true≢false}
use Rattle.std.specs.Prelude.{is_some, nat_lt}
use Rattle.std.proofs.lemmas.Bool.{both_ways, cases_eq}
use Rattle.fv_disk.specs.Shown.{Image, Shown as Disk}
use Rattle.fv_bits.specs.Bits.{bit_of_bytes}
use Rattle.fv_container.specs.Chains.{paged_at}
use Rattle.fv_container.specs.Paged.{Paged}
use Rattle.fv_container.specs.Spelled.{names}
use Rattle.fv_container.proofs.Clean.{clean_still}
use Rattle.fv_image.specs.Held.{AgreeOnHeld, Layout, is_held, label_in, layout_at, with_bits}
use Rattle.fv_image.specs.Views.{entry_count}
use Rattle.fv_image.proofs.Named.{node_held}
use Rattle.fv_image.proofs.SameContainers.{AgreeOnTree, same_place}
use Rattle.fv_image.proofs.SameLayout.{held_with_bits, same_but_bits}
use Rattle.fv_model.specs.declared.commands.Kind.{Kind}
use Rattle.fv_root.specs.declared.find.Found.{Found}
use Rattle.fv_root.specs.Finding.{root_found}
use Rattle.fv_pool.specs.declared.pool.Pool.{Pool}
use Rattle.fv_volmap.specs.Slots.{slot_at, stored_count}
use Rattle.fv_volume.specs.declared.state.VolumeState.{VolumeState}
use Rattle.fv_volume.specs.Loading.{label_of}
use Rattle.fv_volume.specs.States.{States, state_at}
use Rattle.fv_volume.specs.Stored.{has_stored_map, is_rewritten}
use Rattle.fv_volume.proofs.StayingMaps.{active_moves}
use Rattle.fv_volumes.specs.Housed.{AreHoused}
use Rattle.fv_volumes.specs.UnderRoot.{IsLentAt, IsLentSlot}
use Rattle.fv_volumes.proofs.Added.{others_stay, paged_elsewhere, put_there, IsPut}
use Rattle.fv_volumes.proofs.StillLoaded.{still_loaded}
use Rattle.fv_mirror.specs.declared.admitting.Admitted.{Admitted}
use Rattle.fv_mirror.specs.Making.{HasCopies, IsMirrored}
use Rattle.fv_mirror.proofs.Labelled.{one_map}
use Rattle.fv_mirror.proofs.Placed.{home, made, put}
use Rattle.fv_mirror.proofs.Spaced.{mirror_apart}

-- ---- over an image that has the blocks which the root holds

module _ (found : Found) (i j : Image) (s : ℕ) (inside : s < 64) (agree : AgreeOnHeld (root_found found) i j) where
  same_images : layout_at (root_found found) j ≡ with_bits (layout_at (root_found found) j).bit (layout_at (root_found found) i)
  unfolding layout_at
  same_images = same_but_bits (root_found found) i j agree (layout_at (root_found found) j).bit (λ b. refl)

  same_label : label_of found j s ≡ label_of found i s
  unfolding layout_at
  same_label = ap (λ (y : Layout). label_in (y.label s)) same_images

  same_held : (b : ℕ) → is_held (layout_at (root_found found) j) b ≡ is_held (layout_at (root_found found) i) b
  same_held b = ap (λ (y : Layout). is_held y b) same_images ∙ held_with_bits (layout_at (root_found found) j).bit (layout_at (root_found found) i) b

  still_slot : (x : VolumeState) (paged : Paged) → IsLentSlot i found s x paged → IsLentSlot j found s x paged
  still_slot x paged is = record {
    label = is.label;
    nodes = λ b named.
        let l = is.nodes b named in
        let tree : AgreeOnTree i j l.0.container l.0.height (entry_count l.0.span) = λ n node. agree n (node_held (root_found found) i s n l.0 inside l.1 node) in (
          l.0,
          same_label ∙ l.1,
          record {
            level = l.2.level;
            number = l.2.number;
            below = l.2.below;
            within = l.2.within;
            place = l.2.place ∙ sym (same_place i j l.0.container l.0.height (entry_count l.0.span) l.2.level l.2.number tree l.2.below l.2.within);
            some = l.2.some;
          },
        );
    clean = clean_still i j paged (λ b named. let l = is.nodes b named in agree b (node_held (root_found found) i s b l.0 inside l.1 l.2)) is.clean;
    apart = is.apart;
    maps = λ k m on low. let map = is.maps k m on low in record {
      place = map.place;
      some = map.some;
      there = map.there;
      held = same_held map.place ∙ map.held;
      bits = λ b few. ap (λ (block : List ℕ). bit_of_bytes block b) (agree map.place map.held) ∙ map.bits b few;
    };
    unchanged = λ e. still_loaded found found i j s inside refl agree (Some x) (Some paged) (is.unchanged e);
  }

  -- What lies beside the root in one lies so in the other.
  pub still_lent : (o : Option VolumeState) (c : Option Paged) → IsLentAt i found s o c → IsLentAt j found s o c
  still_lent None None is = tt
  still_lent None (Some paged) is = absurd is
  still_lent (Some x) None is = absurd is
  still_lent (Some x) (Some paged) is = still_slot x paged is

-- ---- a mirror

-- no map of it lies on the disk: the active one is written with it
module _ (x : VolumeState) (alone : (k : ℕ) → k ≢ 0 → slot_at x.map k ≡ None) where
  none_and : (a b c : Bool) → b ≡ false → (a && (b && c)) ≡ false
  none_and true false c e = refl
  none_and false b c e = refl
  none_and true true c e = absurd (true≢false e)

  none_stored : (k : ℕ) → has_stored_map x k ≡ false
  none_stored k = ⊎_elim
      (λ (first : k ≡ 0). ap (has_stored_map x) first ∙ active_moves x)
      (λ (other : k ≢ 0). none_and (nat_lt k stored_count) (is_some (slot_at x.map k)) (not (is_rewritten x k)) (ap is_some (alone k other)))
      (cases_eq k 0)

module _ (disk : Disk) (pool : Pool) (states : States) (name : List ℕ) (size : ℕ) (kind : Kind) (a : Admitted) (after : Disk) (new : States) (left : Pool) (mirrored : IsMirrored disk states pool name size kind a after new left) (housed : AreHoused pool.containers states)
    (bits : List Bool) (copies : HasCopies disk pool a.source.parent bits mirrored.container after left) (found : Found) where
  abbrev x : VolumeState
  x = made disk pool states name size kind a after new left mirrored housed

  abbrev its : IsPut states pool.containers a.slot x mirrored.container None new left.containers
  its = put disk pool states name size kind a after new left mirrored housed

  abbrev y : VolumeState
  y = home disk pool states name size kind a after new left mirrored housed

  pub slot_new : IsLentSlot after.reads found a.slot x mirrored.container
  slot_new = record {
    label = λ some. absurd (some mirrored.is.label);
    nodes = λ b named. absurd (both_ways (names mirrored.container.map.tree b) (mirrored.nowhere b) named);
    clean = copies.clean;
    apart = mirror_apart disk pool a.source.parent bits mirrored.container after left copies mirrored.nowhere x mirrored.is.label;
    maps = λ k j on within. absurd (both_ways (has_stored_map x k) (none_stored x (one_map (slot_at y.map a.source.slot) a.span x.map mirrored.is.maps) k) on);
    unchanged = λ e. absurd (true≢false (sym mirrored.is.changed ∙ e));
  }

  module _ (agree : AgreeOnHeld (root_found found) disk.reads after.reads) (slots : (s : ℕ) → s < 64 → IsLentAt disk.reads found s (state_at states s) (paged_at pool.containers s)) where
    -- So all volumes lie beside the root as they did, and the mirror does.
    pub slots_now : (s : ℕ) → s < 64 → IsLentAt after.reads found s (state_at new s) (paged_at left.containers s)
    slots_now s inside = ⊎_elim
        (λ (here : s ≡ a.slot). subst (λ (k : ℕ). IsLentAt after.reads found k (state_at new k) (paged_at left.containers k)) (sym here)
        (subst (λ (o : Option VolumeState). IsLentAt after.reads found a.slot o (paged_at left.containers a.slot)) (sym (put_there its))
        (subst (λ (c : Option Paged). IsLentAt after.reads found a.slot (Some x) c) (sym mirrored.there) slot_new)))
        (λ (other : s ≢ a.slot). subst (λ (o : Option VolumeState). IsLentAt after.reads found s o (paged_at left.containers s)) (sym (others_stay its s other))
        (subst (λ (c : Option Paged). IsLentAt after.reads found s (state_at states s) c) (sym (paged_elsewhere its s other))
        (still_lent found disk.reads after.reads s inside agree (state_at states s) (paged_at pool.containers s) (slots s inside))))
        (cases_eq s a.slot)
