-- Over a sound image the tree of each volume's container is whole, so a container that was loaded from there is clean.
use Rattle.std.proofs.Common.{◌≡◌, ◌≢◌, ℕ, zero, suc, ◌-◌, ◌/◌, ◌%◌, ◌<◌, ◌≤◌, Bool, true, false, length, get_or, Option, Some, None, Result, Ok, Err, refl, sym, ap, subst, ◌∙◌, ⊎_elim, arith}
use Rattle.std.specs.Prelude.{IfSome, ◌==◌, nat_le, nat_lt, ◌&&◌, if◌then◌else◌}
use Rattle.std.proofs.lemmas.Bool.{cases_lt}
use Rattle.std.proofs.lemmas.Bool.Decides.{nat_tests}
use Rattle.std.proofs.lemmas.List.{get_or_past}
use Rattle.std.proofs.lemmas.List.Elements.{All-get_or}
use Rattle.std.proofs.lemmas.Option.{same_Some}
use Rattle.fv_disk.specs.Shown.{Image}
use Rattle.fv_codec.specs.declared.container.ContainerInner.{ContainerInner}
use Rattle.fv_codec.specs.declared.label.Label.{Label}
use Rattle.fv_codec.specs.declared.shape.Shape.{Shape}
use Rattle.fv_codec.specs.Blocks.{inner_at, label_at, last_place}
use Rattle.fv_codec.proofs.Decoded.{inner_in_range, label_in_range}
use Rattle.fv_image.specs.NewerRoot.{Taken}
use Rattle.fv_image.specs.Containers.{child_in, level_width, lying, node_below, node_of, shaped}
use Rattle.fv_image.specs.Views.{entry_count}
use Rattle.fv_image.specs.Held.{Layout, Lying, label_in, label_lying, label_place, layout_at, lying_at, node_from}
use Rattle.fv_image.specs.Soundness.{IsSound}
use Rattle.fv_image.specs.SoundSlots.{IsSoundSlot, IsSoundVolume}
use Rattle.fv_image.proofs.Counted.{image_has_heads}
use Rattle.fv_image.proofs.SoundSlots.{slot_from_blocks}
use Rattle.fv_container.specs.Chains.{AreCleanOn, Slots, map_in, paged_at, slot_count}
use Rattle.fv_container.specs.Clean.{IsCleanOn, IsCleanTree}
use Rattle.fv_container.specs.Paged.{Paged}
use Rattle.fv_root.specs.declared.find.Found.{Found}
use Rattle.fv_root.specs.Finding.{root_found}
use Rattle.fv_volume.specs.declared.state.VolumeState.{VolumeState}
use Rattle.fv_volume.specs.Loading.{IsCleanOf, IsContainerOf, IsLoaded, LoadedTo, label_of}
use Rattle.fv_volume.specs.States.{States, state_at}

-- ---- places in a tree are places of the device

child_bounded : (i : Image) → ((b : ℕ) → length (i b) ≡ 4096) → (p c : ℕ) → child_in (lying inner_at i p) c ≤ last_place
child_bounded i whole zero c = omega arith
child_bounded i whole (suc p) c = by (inner_at (i (suc p))) refl
  where
    by : (r : Result ContainerInner Shape) → r ≡ inner_at (i (suc p)) → child_in (shaped r) c ≤ last_place
    by (Err fault) is = omega arith
    by (Ok n) is = ⊎_elim
        (λ (inside : c < length n.children). All-get_or (λ (place : ℕ). place ≤ last_place) n.children c 0 inside (inner_in_range (i (suc p)) (Ok n) (whole (suc p)) is).children)
        (λ (past : length n.children ≤ c). let none : get_or n.children c 0 ≡ 0 = get_or_past n.children c 0 past in omega (arith, none))
        (cases_lt c (length n.children))

below_bounded : (i : Image) → ((b : ℕ) → length (i b) ≡ 4096) → (root steps q : ℕ) → root ≤ last_place → node_below i root steps q ≤ last_place
unfolding node_below
below_bounded i whole root zero q fine = by (q == 0)
  where
    by : (t : Bool) → (if t then root else 0) ≤ last_place
    by true = fine
    by false = omega arith
below_bounded i whole root (suc steps) q fine = child_bounded i whole (node_below i root steps (q / 256)) (q % 256)

label_bounded : (i : Image) → ((b : ℕ) → length (i b) ≡ 4096) → (p : ℕ) (l : Label) → label_in (lying_at i p) ≡ Some l → l.container ≤ last_place
unfolding label_in
label_bounded i whole zero l said = cc
label_bounded i whole (suc p) l said = by (label_at (i (suc p))) refl said
  where
    by : (r : Result Label Shape) → r ≡ label_at (i (suc p)) → shaped r ≡ Some l → l.container ≤ last_place
    by (Err fault) is e = cc
    by (Ok m) is e = subst (λ (k : Label). k.container ≤ last_place) (same_Some m l e) (label_in_range (i (suc p)) (Ok m) (whole (suc p)) is).container

-- ---- a slot of a sound image

lying_there : (i : Image) (p : ℕ) → p ≢ 0 → lying_at i p ≡ Some (record { place = p; block = i p })
lying_there i zero some = absurd (some refl)
lying_there i (suc p) some = refl

module _ (t : Taken) (i : Image) (sound : IsSound (layout_at t i)) (full : (b : ℕ) → length (i b) ≡ 4096) (s : ℕ) (inside : s < 64) (l : Label) (lies : label_in (label_lying t i s) ≡ Some l) where
  abbrev y : Layout
  y = layout_at t i

  slot : IsSoundSlot y s
  slot = slot_from_blocks y sound.blocks sound.maps.kinds (image_has_heads t i) s inside

  volume_by : (o : Option Lying) → label_lying t i s ≡ o → label_in o ≡ Some l → IsSoundVolume y s l
  unfolding label_in layout_at
  volume_by None there said = cc
  volume_by (Some x) there said = let v = slot.volume x there in subst (IsSoundVolume y s) (same_Some v.0 l (sym (ap shaped v.1) ∙ said)) v.2

  volume : IsSoundVolume y s l
  volume = volume_by (label_lying t i s) refl lies

  node_lies : (level number : ℕ) → level ≤ l.height → number < level_width (entry_count l.span) level → node_of i l.container l.height level number ≢ 0
      → y.node s level number ≡ Some (record { place = node_of i l.container l.height level number; block = i (node_of i l.container l.height level number) })
  unfolding layout_at node_from
  node_lies level number low within some =
      let first : nat_le level l.height ≡ true = grind (arith, nat_tests, low) in
      let second : nat_lt number (level_width (entry_count l.span) level) ≡ true = grind (arith, nat_tests, within) in
      ap (λ (o : Option Label). node_from o i level number) lies
      ∙ (λ j. if (first j && second j) then lying_at i (node_of i l.container l.height level number) else None)
      ∙ lying_there i (node_of i l.container l.height level number) some

  -- The tree of the slot's label is whole.
  pub sound_tree : IsCleanTree i l.container l.height (entry_count l.span)
  sound_tree = record {
    whole = record { nodes = λ level number low within some. volume.nodes level number (record { place = node_of i l.container l.height level number; block = i (node_of i l.container l.height level number) }) low within (node_lies level number low within some) };
    ends = record { nodes = λ level number low within some. volume.ends level number (record { place = node_of i l.container l.height level number; block = i (node_of i l.container l.height level number) }) low within (node_lies level number low within some) };
    bounded = λ b node. subst (λ (n : ℕ). n ≤ last_place) (sym node.place) (below_bounded i full l.container (l.height - node.level) node.number (label_bounded i full (label_place t s) l lies));
  }

-- So a container that was loaded is clean,
pub slot_clean : (found : Found) (i : Image) → ((b : ℕ) → length (i b) ≡ 4096) → IsSound (layout_at (root_found found) i) → (s : ℕ) → s < slot_count → (state : Option VolumeState) (c : Option Paged) → IsLoaded i found s state c → IfSome c (IsCleanOn i)
slot_clean found i full sound s inside state c is = by (label_of found i s) refl c is.tree is.clean
  where
    by : (o : Option Label) → label_of found i s ≡ o → (c : Option Paged) → IsContainerOf i o (map_in c) → IsCleanOf i o c → IfSome c (IsCleanOn i)
    by None there None tree clean = tt
    by None there (Some paged) tree clean = absurd tree
    by (Some l) there None tree clean = tt
    by (Some l) there (Some paged) tree clean = clean (sound_tree (root_found found) i sound full s inside l there)

-- and so each is.
pub loaded_clean : (found : Found) (i : Image) (states : States) (containers : Slots) → ((b : ℕ) → length (i b) ≡ 4096) → IsSound (layout_at (root_found found) i) → length containers.containers ≡ slot_count → LoadedTo i found slot_count states containers → AreCleanOn i containers
loaded_clean found i states containers full sound few loaded s = ⊎_elim
    (λ (inside : s < 64). slot_clean found i full sound s inside (state_at states s) (paged_at containers s) (loaded.each s inside))
    (λ (past : 64 ≤ s). subst (λ (c : Option Paged). IfSome c (IsCleanOn i)) (sym (get_or_past containers.containers s None (omega (arith, past, few)))) tt)
    (cases_lt s 64)
