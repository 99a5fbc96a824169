-- Volumes that can be lent to a consistency point, and the blocks that the root on the disk holds.
use Rattle.std.proofs.Common.{◌≡◌, ℕ, ◌<◌, ◌≢◌, Bool, true, false, List, [], ◌∷◌, ⊎_elim, sym, ap, subst, ◌∙◌, refl, arith}
use Rattle.std.specs.Prelude.{◌||◌, Option, Some, None, IfSome}
use Rattle.std.specs.Option.{option_map}
use Rattle.std.proofs.lemmas.Bool.{both_ways, or_cases}
use Rattle.std.proofs.lemmas.Option.{none-some, same_Some}
use Rattle.fv_disk.specs.Shown.{Image}
use Rattle.fv_bits.specs.Members.{is_member}
use Rattle.fv_codec.specs.declared.label.Label.{Label}
use Rattle.fv_model.specs.Machines.{first_block}
use Rattle.fv_image.specs.Layout.{area_blocks, area_place}
use Rattle.fv_image.specs.Containers.{IsNodePlace}
use Rattle.fv_image.specs.Views.{entry_count, head_of}
use Rattle.fv_image.specs.Held.{is_held, label_place, layout_at, view_at}
use Rattle.fv_image.specs.Soundness.{IsSound}
use Rattle.fv_image.proofs.Different.{different_when_once}
use Rattle.fv_image.proofs.Kept.{area_before}
use Rattle.fv_image.proofs.Named.{label_held, node_held}
use Rattle.fv_image.proofs.Room.{bit_is_held}
use Rattle.fv_image.proofs.SoundSlots.{held_lies}
use Rattle.fv_container.specs.Chains.{map_in}
use Rattle.fv_container.specs.Clean.{IsCleanOn}
use Rattle.fv_container.specs.Mapped.{Mapped}
use Rattle.fv_container.specs.Paged.{Paged}
use Rattle.fv_container.specs.Spelled.{is_at, names}
use Rattle.fv_root.specs.declared.find.Found.{Found}
use Rattle.fv_root.specs.Finding.{root_found}
use Rattle.fv_aggmap.specs.Space.{Space, blocks_of}
use Rattle.fv_volume.specs.declared.state.VolumeState.{VolumeState}
use Rattle.fv_volume.specs.Loading.{IsCleanOf, IsContainerOf, IsLoaded, label_of}
use Rattle.fv_volume.specs.States.{head_in}
use Rattle.fv_volume.specs.Stored.{AreApartIn, is_of}
use Rattle.fv_volumes.specs.UnderRoot.{IsLentAt, IsLentSlot, IsMapOf, StandMaps}
use Rattle.fv_volume.specs.Writing.{HasOwnBlocks, IsTaken, on_disk}
use Rattle.fv_volumes.proofs.Drawing.{at_means, not_so}
use Rattle.fv_volumes.proofs.StillLoaded.{none_loaded, sound_spaced}

nodes_of : (i : Image) (found : Found) (s : ℕ) (o : Option Label) (map : Mapped) → label_of found i s ≡ o → IsContainerOf i o (Some map) → (b : ℕ) → names map.tree b ≡ true → (l : Label) × (label_of found i s ≡ Some l) × IsNodePlace i l.container l.height (entry_count l.span) b
nodes_of i found s None map there tree b named = absurd tree
nodes_of i found s (Some l) map there tree b named = (l, there, subst (λ (n : ℕ). IsNodePlace i l.container l.height n b) tree.1.0 (tree.0.places b named))

-- a slot has a volume where it has a container
both_or_none : (i : Image) (found : Found) (s : ℕ) (o : Option VolumeState) (c : Option Paged) (l : Option Label) → label_of found i s ≡ l → IsLoaded i found s o c → IsContainerOf i l (map_in c) × (option_map head_in o ≡ option_map head_of l)
both_or_none i found s o c l there is = (subst (λ (l : Option Label). IsContainerOf i l (map_in c)) there is.tree, is.head ∙ ap (option_map head_of) there)

-- the blocks of a volume that can be lent are apart
pub lent_apart : (i : Image) (found : Found) (s : ℕ) (o : Option VolumeState) (c : Option Paged) → IsLentAt i found s o c → IfSome o (λ x. IfSome (map_in c) (AreApartIn x))
lent_apart i found s None c at = tt
lent_apart i found s (Some x) None at = tt
lent_apart i found s (Some x) (Some paged) at = at.apart

-- a place that is named isn't 0
named_some : (places : List ℕ) (b : ℕ) → names places b ≡ true → b ≢ 0
named_some [] b is = absurd cc
named_some (p ∷ ps) b is = ⊎_elim (λ (here : is_at b p ≡ true). (at_means b p here).1) (λ (rest : names ps b ≡ true). named_some ps b rest) (or_cases (is_at b p) (names ps b) is)

-- A loaded volume whose blocks are apart, whose maps stand and whose container is clean can be lent.
pub lent_from_loaded : (i : Image) (found : Found) (s : ℕ) (o : Option VolumeState) (c : Option Paged) → IsLoaded i found s o c → IfSome o (λ x. IfSome (map_in c) (AreApartIn x)) → IfSome o (λ x. IfSome c (λ paged. StandMaps i found x paged.map)) → IfSome c (IsCleanOn i)
    → IsLentAt i found s o c
lent_from_loaded i found s None None is apart maps clean = tt
lent_from_loaded i found s None (Some paged) is apart maps clean = by (label_of found i s) refl
  where
    by : (l : Option Label) → label_of found i s ≡ l → ⊥
    by None there = (both_or_none i found s None (Some paged) None there is).0
    by (Some l) there = none-some (head_of l) (both_or_none i found s None (Some paged) (Some l) there is).1
lent_from_loaded i found s (Some x) None is apart maps clean = by (label_of found i s) refl
  where
    by : (l : Option Label) → label_of found i s ≡ l → ⊥
    by None there = none-some (head_in x) (sym (both_or_none i found s (Some x) None None there is).1)
    by (Some l) there = (both_or_none i found s (Some x) None (Some l) there is).0
lent_from_loaded i found s (Some x) (Some paged) is apart maps clean = record {
  label = λ some. is.label;
  nodes = nodes_of i found s (label_of found i s) paged.map refl is.tree;
  clean = clean;
  apart = apart;
  maps = maps;
  unchanged = λ unchanged. is;
}

-- A volume that is lent without a change is loaded. A slot without one is where the root names no label for it.
pub loaded_from_lent : (i : Image) (found : Found) (s : ℕ) (o : Option VolumeState) (c : Option Paged) → IsLentAt i found s o c → IfSome o (λ x. x.changed ≡ false) → (o ≡ None → label_place (root_found found) s ≡ 0) → IsLoaded i found s o c
loaded_from_lent i found s None None is unchanged none = none_loaded found i s (none refl)
loaded_from_lent i found s None (Some map) is unchanged none = absurd is
loaded_from_lent i found s (Some x) None is unchanged none = absurd is
loaded_from_lent i found s (Some x) (Some map) is unchanged none = is.unchanged unchanged

-- a slot with a volume and its container
pub lent_slot : (i : Image) (found : Found) (s : ℕ) (o : Option VolumeState) (c : Option Paged) (x : VolumeState) (paged : Paged) → o ≡ Some x → c ≡ Some paged → IsLentAt i found s o c → IsLentSlot i found s x paged
lent_slot i found s o c x paged there lies is = subst (λ (c : Option Paged). IsLentAt i found s (Some x) c) lies (subst (λ (o : Option VolumeState). IsLentAt i found s o c) there is)

-- ---- what came into memory changes nothing of it

clean_of : (i : Image) (l : Option Label) (paged : Paged) → IsCleanOn i paged → IsCleanOf i l (Some paged)
clean_of i None paged clean = tt
clean_of i (Some l) paged clean = λ whole. clean

slot_again : (i : Image) (found : Found) (s : ℕ) (x : VolumeState) (was now : Paged) → now.map ≡ was.map → IsCleanOn i now → IsLentSlot i found s x was → IsLentSlot i found s x now
slot_again i found s x was now same clean is = record {
  label = is.label;
  nodes = λ b node. is.nodes b (subst (λ (m : Mapped). names m.tree b ≡ true) same node);
  clean = clean;
  apart = subst (AreApartIn x) (sym same) is.apart;
  maps = subst (StandMaps i found x) (sym same) is.maps;
  unchanged = λ e.
      let loaded = is.unchanged e in
      record {
        head = loaded.head;
        tree = subst (λ (m : Mapped). IsContainerOf i (label_of found i s) (Some m)) (sym same) loaded.tree;
        clean = clean_of i (label_of found i s) now clean;
        label = loaded.label;
        bits = loaded.bits;
        changed = loaded.changed;
      };
}

-- A slot that is lent stays so where its container has the map that it had.
pub lent_again : (i : Image) (found : Found) (s : ℕ) (o : Option VolumeState) (c d : Option Paged) → map_in d ≡ map_in c → IfSome d (IsCleanOn i) → IsLentAt i found s o c → IsLentAt i found s o d
lent_again i found s None None None same clean is = tt
lent_again i found s None None (Some now) same clean is = absurd (none-some now.map (sym same))
lent_again i found s None (Some was) d same clean is = absurd is
lent_again i found s (Some x) None d same clean is = absurd is
lent_again i found s (Some x) (Some was) None same clean is = absurd (none-some was.map same)
lent_again i found s (Some x) (Some was) (Some now) same clean is = slot_again i found s x was now (same_Some now.map was.map same) clean is

-- ---- the blocks that the root holds

module _ (i : Image) (found : Found) (space : Space) (sound : IsSound (layout_at (root_found found) i)) (is_map : IsMapOf i found space) where
  -- a block that the root on the disk holds is committed,
  pub held_committed : (b : ℕ) → is_held (layout_at (root_found found) i) b ≡ true → is_member space.committed b ≡ true
  unfolding layout_at view_at
  held_committed b held =
      let lies = held_lies (layout_at (root_found found) i) b sound.blocks held in
      is_map.bits b ∙ bit_is_held (layout_at (root_found found) i) b sound.blocks.map (omega (arith, lies.1)) ∙ held

  -- so it isn't free
  pub held_taken : (b : ℕ) → is_held (layout_at (root_found found) i) b ≡ true → IsTaken (on_disk space) b
  held_taken b held free = so (is_member space.committed b) (held_committed b held) free.free
    where
      so : (m : Bool) → m ≡ true → (m || m) ≡ false → ⊥
      so true e none = both_ways _ none refl
      so false e none = both_ways _ refl e

  -- and neither is a block of the root's map area
  pub area_taken : (k : ℕ) → found.slot < 2 → k < area_blocks found.blocks → IsTaken (on_disk space) (area_place found.blocks found.slot k)
  area_taken k small within free =
      let low = area_before (root_found found) k small within in
      let first : first_block (blocks_of space) ≡ first_block found.blocks = ap first_block is_map.len in
      omega (arith, low, first, free.after)

  -- A volume that is lent has its own blocks where the next root is to hold them.
  pub own_blocks : (s : ℕ) (x : VolumeState) (paged : Paged) (now : Space) → s < 64 → IsLentSlot i found s x paged → now.committed ≡ space.committed → ((b : ℕ) → is_of x x.label paged.map b ≡ true → is_member now.next b ≡ true) → HasOwnBlocks x paged.map now
  own_blocks s x paged now inside is same held = record {
    entries = is.apart.entries;
    nodes = is.apart.nodes;
    label = is.apart.label;
    alone = not_so (names paged.map.tree x.label) (λ named.
        let node = is.nodes x.label named in
        (different_when_once (root_found found) i s node.0 node.1 (λ b. (sound_spaced (layout_at (root_found found) i) sound).each s b inside)).label_node (subst (λ (p : ℕ). IsNodePlace i node.0.container node.0.height (entry_count node.0.span) p) (is.label (named_some paged.map.tree x.label named)) node.2));
    old_nodes = λ b named. let node = is.nodes b named in ap (λ (c : List Bool). is_member c b) same ∙ held_committed b (node_held (root_found found) i s b node.0 inside node.1 node.2);
    old_label = λ some. ap (λ (c : List Bool). is_member c x.label) same ∙ subst (λ (p : ℕ). is_member space.committed p ≡ true) (sym (is.label some)) (held_committed (label_place (root_found found) s) (label_held (root_found found) i s (λ none. some (is.label some ∙ none))));
    held = held;
  }
