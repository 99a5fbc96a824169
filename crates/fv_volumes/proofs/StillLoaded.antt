-- A loaded volume stays loaded in an image that has the blocks which its slot holds.
use Rattle.std.proofs.Common.{Bool, ◌≡◌, ℕ, ◌*◌, ◌<◌, ◌≤◌, false, length, refl, sym, ap, subst, ◌∙◌, arith}
use Rattle.std.specs.Prelude.{Option, Some, None, IfSome, ◌&&◌, nat_lt}
use Rattle.std.specs.Option.{option_map}
use Rattle.fv_disk.specs.Shown.{Image}
use Rattle.fv_bits.specs.Bits.{bit_of_area}
use Rattle.fv_codec.specs.declared.label.Label.{Label}
use Rattle.fv_model.specs.Space.{map_blocks}
use Rattle.fv_image.specs.Layout.{block_bits}
use Rattle.fv_image.specs.Containers.{IsNodePlace}
use Rattle.fv_image.specs.Views.{entry_count, head_of, map_vvbn, block_in, volume_bit}
use Rattle.fv_image.specs.Held.{AgreeOnHeld, Layout, Lying, layout_at, view_at, label_place, label_lying, label_in, lying_at, entry_from, node_from, with_bits}
use Rattle.fv_image.specs.Maps.{area_bits}
use Rattle.fv_image.specs.Whole.{is_held_by}
use Rattle.fv_image.specs.Soundness.{IsSound}
use Rattle.fv_image.specs.SoundSlots.{HasSameSlot}
use Rattle.fv_image.proofs.Counted.{image_has_heads}
use Rattle.fv_image.proofs.HeldPlaces.{same_truth}
use Rattle.fv_image.proofs.SoundSlots.{held_lies, same_slot_test, same_slot_times, slot_from_blocks, slot_stays_sound}
use Rattle.fv_image.proofs.Spaced.{AreSpaced, spaced_from}
use Rattle.fv_image.proofs.SameContainers.{AgreeOnTree}
use Rattle.fv_image.proofs.SameLayout.{same_but_bits}
use Rattle.fv_image.proofs.Named.{node_held, slot_in}
use Rattle.fv_container.specs.Chains.{map_in}
use Rattle.fv_container.proofs.Clean.{clean_still}
use Rattle.fv_container.specs.Mapped.{Mapped}
use Rattle.fv_container.specs.Paged.{Paged}
use Rattle.fv_root.specs.declared.find.Found.{Found}
use Rattle.fv_root.specs.Finding.{root_found}
use Rattle.fv_volume.specs.declared.state.VolumeState.{VolumeState}
use Rattle.fv_delay.specs.Delay.{is_used_slot}
use Rattle.fv_volume.specs.Loading.{HaveBits, IsCleanOf, IsContainerOf, IsLoaded, label_of}
use Rattle.fv_volumes.specs.UnderRoot.{StandsUnder}
use Rattle.fv_volumes.proofs.LoadedBlocks.{loaded_holds}
use Rattle.fv_volumes.proofs.Spelling.{clean_tree_was, opened_kept}

-- a slot without a volume is free on the disk
pub none_loaded : (found : Found) (i : Image) (s : ℕ) → label_place (root_found found) s ≡ 0 → IsLoaded i found s None None
unfolding label_in
none_loaded found i s none = record {
  head = ap (λ (p : ℕ). option_map head_of (label_in (lying_at i p))) (sym none);
  tree = subst (λ (p : ℕ). IsContainerOf i (label_in (lying_at i p)) None) (sym none) tt;
  clean = subst (λ (p : ℕ). IsCleanOf i (label_in (lying_at i p)) None) (sym none) tt;
  label = sym none;
  bits = tt;
  changed = tt;
}

-- the slots of a sound layout are spaced
pub sound_spaced : (y : Layout) → IsSound y → AreSpaced y
sound_spaced y sound = spaced_from y sound.blocks.once sound.blocks.map (λ b held. let lies = held_lies y b sound.blocks held in within b lies.1)
  where
    within : (b : ℕ) → b < y.view.blocks → b < area_bits y.view.blocks
    within b low = omega (arith, low)

module _ (found next : Found) (i j : Image) (s : ℕ) (inside : s < 64) (place : label_place (root_found next) s ≡ label_place (root_found found) s) (agree : AgreeOnHeld (root_found found) i j) where
  same_images : layout_at (root_found found) j ≡ with_bits (layout_at (root_found found) j).bit (layout_at (root_found found) i)
  unfolding layout_at
  same_images = same_but_bits (root_found found) i j agree (layout_at (root_found found) j).bit (λ b. refl)

  same_label : label_lying (root_found next) j s ≡ label_lying (root_found found) i s
  unfolding layout_at
  same_label = ap (lying_at j) place ∙ ap (λ (y : Layout). y.label s) same_images

  same_entry : (v : ℕ) → (view_at (root_found next) j).entry s v ≡ (view_at (root_found found) i).entry s v
  unfolding layout_at view_at
  same_entry v = ap (λ (p : ℕ). entry_from (label_in (lying_at j p)) j v) place ∙ ap (λ (y : Layout). y.view.entry s v) same_images

  same_bit : (span k v : ℕ) → volume_bit (view_at (root_found next) j) s span k v ≡ volume_bit (view_at (root_found found) i) s span k v
  unfolding volume_bit
  same_bit span k v = λ n. nat_lt v (block_bits * map_blocks span) && bit_of_area (λ b. block_in (same_entry (map_vvbn span k b) n)) v

  container_kept : (o : Option Label) (c : Option Mapped) → label_of found i s ≡ o → IsContainerOf i o c → IsContainerOf j o c
  container_kept None None there is = tt
  container_kept None (Some map) there is = absurd is
  container_kept (Some l) None there is = absurd is
  container_kept (Some l) (Some map) there is =
      let agrees : AgreeOnTree i j l.container l.height (length map.entries) = λ b node. agree b (node_held (root_found found) i s b l inside there (subst (λ (n : ℕ). IsNodePlace i l.container l.height n b) is.1.0 node)) in
      (opened_kept i j l.container l.height map agrees is.0, is.1)

  clean_kept : (o : Option Label) (c : Option Paged) → label_of found i s ≡ o → IsContainerOf i o (map_in c) → IsCleanOf i o c → IsCleanOf j o c
  clean_kept None c there is clean = tt
  clean_kept (Some l) None there is clean = tt
  clean_kept (Some l) (Some paged) there is clean = λ whole.
      let tree : AgreeOnTree i j l.container l.height (entry_count l.span) = λ b node. agree b (node_held (root_found found) i s b l inside there node) in
      clean_still i j paged (λ b named. agree b (node_held (root_found found) i s b l inside there (subst (λ (n : ℕ). IsNodePlace i l.container l.height n b) is.1.0 (is.0.places b named))))
      (clean (clean_tree_was i j l.container l.height (entry_count l.span) tree whole))

  pub still_loaded : (state : Option VolumeState) (container : Option Paged) → IsLoaded i found s state container → IsLoaded j next s state container
  still_loaded state container is = record {
    head = is.head ∙ ap (λ (o : Option Lying). option_map head_of (label_in o)) (sym same_label);
    tree = subst (λ (o : Option Label). IsContainerOf j o (map_in container)) (sym (ap label_in same_label)) (container_kept (label_of found i s) (map_in container) refl is.tree);
    clean = subst (λ (o : Option Label). IsCleanOf j o container) (sym (ap label_in same_label)) (clean_kept (label_of found i s) container refl is.tree is.clean);
    label = is.label ∙ sym place;
    bits = bits_kept state is.bits;
    changed = is.changed;
  }
    where
      bits_kept : (o : Option VolumeState) → IfSome o (λ x. HaveBits (view_at (root_found found) i) s x.span x.map) → IfSome o (λ x. HaveBits (view_at (root_found next) j) s x.span x.map)
      bits_kept None are = tt
      bits_kept (Some x) are = λ k v low. are k v low ∙ ap (λ (b : Bool). is_used_slot x.map k && b) (sym (same_bit x.span k v))

  -- ---- a slot of a sound image

  module _ (sound : IsSound (layout_at (root_found found) i)) (blocks : next.blocks ≡ found.blocks) where
    same_slot : HasSameSlot (layout_at (root_found found) i) (layout_at (root_found next) j) s
    unfolding layout_at view_at
    same_slot = record {
      blocks = blocks;
      label = same_label;
      node = λ level number. ap (λ (p : ℕ). node_from (label_in (lying_at j p)) j level number) place ∙ ap (λ (z : Layout). z.node s level number) same_images;
      entry = same_entry;
    }

    never_first : is_held_by (layout_at (root_found next) j) s 0 ≡ false
    never_first = same_truth (is_held_by (layout_at (root_found next) j) s 0) false
        (λ held. let lies = held_lies (layout_at (root_found found) i) 0 sound.blocks (slot_in (layout_at (root_found found) i) s 0 inside (sym (same_slot_test (layout_at (root_found found) i) (layout_at (root_found next) j) s same_slot 0) ∙ held)) in absurd (omega (arith, lies.0)))
        (λ e. absurd cc)

    -- It stands under the next root, too.
    pub still_stands : (state : Option VolumeState) (container : Option Paged) → IsLoaded i found s state container → StandsUnder j next s state container
    still_stands state container is = record {
      loaded = still_loaded state container is;
      sound = slot_stays_sound (layout_at (root_found found) i) (layout_at (root_found next) j) s same_slot (slot_from_blocks (layout_at (root_found found) i) sound.blocks sound.maps.kinds (image_has_heads (root_found found) i) s inside);
      once = λ b. subst (λ (n : ℕ). n ≤ 1) (sym (same_slot_times (layout_at (root_found found) i) (layout_at (root_found next) j) s same_slot b)) ((sound_spaced (layout_at (root_found found) i) sound).each s b inside);
      holds = loaded_holds next j s never_first state container (still_loaded state container is);
    }
