-- The blocks of a loaded volume, in its image and in memory.
use Rattle.std.proofs.Common.{◌≡◌, ℕ, false, length, refl, sym, ap, subst, ◌∙◌}
use Rattle.std.specs.Prelude.{Option, Some, None}
use Rattle.std.specs.Option.{option_map}
use Rattle.std.proofs.lemmas.Option.{none-some, same_Some}
use Rattle.fv_disk.specs.Shown.{Image}
use Rattle.fv_codec.specs.declared.label.Label.{Label}
use Rattle.fv_image.specs.NewerRoot.{Taken}
use Rattle.fv_image.specs.Views.{Head, entry_count, head_of}
use Rattle.fv_image.specs.Held.{label_place, layout_at}
use Rattle.fv_image.specs.Whole.{is_held_by}
use Rattle.fv_image.proofs.HeldPlaces.{none_held}
use Rattle.fv_container.specs.Mapped.{IsMapped, Mapped}
use Rattle.fv_container.specs.Chains.{map_in}
use Rattle.fv_container.specs.Paged.{Paged}
use Rattle.fv_container.specs.Spelled.{IsOpened}
use Rattle.fv_root.specs.declared.find.Found.{Found}
use Rattle.fv_root.specs.Finding.{root_found}
use Rattle.fv_volume.specs.declared.state.VolumeState.{VolumeState}
use Rattle.fv_volume.specs.Loading.{IsContainerOf, IsLoaded, label_of}
use Rattle.fv_volume.specs.States.{head_in, label_in_state}
use Rattle.fv_volume.specs.Stored.{has_block, is_of}
use Rattle.fv_volumes.proofs.SlotBlocks.{entry_kinds, held_is_of}

pub span_of : (l : Label) (x : VolumeState) → head_in x ≡ head_of l → x.span ≡ l.span
unfolding head_of
span_of l x same = ap (λ (h : Head). h.span) same

module _ (f : Found) (i : Image) (s : ℕ) where
  abbrev u : Taken
  u = root_found f

  -- the slot holds the blocks of its volume, where block 0 isn't held
  pub loaded_holds : is_held_by (layout_at u i) s 0 ≡ false → (o : Option VolumeState) (c : Option Paged) → IsLoaded i f s o c → (b : ℕ) → is_held_by (layout_at u i) s b ≡ has_block o (map_in c) b
  loaded_holds none o c is_loaded b = so (label_of f i s) refl o (map_in c) is_loaded.head is_loaded.tree is_loaded.label
    where
      so : (l : Option Label) → label_of f i s ≡ l → (o : Option VolumeState) (c : Option Mapped) → option_map head_in o ≡ option_map head_of (label_of f i s) → IsContainerOf i (label_of f i s) c → label_in_state o ≡ label_place u s
          → is_held_by (layout_at u i) s b ≡ has_block o c b
      so None there None c head tree label = none_held u i s b (sym label)
      so None there (Some x) c head tree label = absurd (none-some (head_in x) (sym (head ∙ ap (option_map head_of) there)))
      so (Some l) there None c head tree label = absurd (none-some (head_of l) (head ∙ ap (option_map head_of) there))
      so (Some l) there (Some x) None head tree label = absurd (subst (λ (o : Option Label). IsContainerOf i o None) there tree)
      so (Some l) there (Some x) (Some map) head tree label =
          let of : IsOpened i l.container l.height map × ((length map.entries ≡ entry_count l.span) × IsMapped map) = subst (λ (o : Option Label). IsContainerOf i o (Some map)) there tree in
          let same : head_in x ≡ head_of l = same_Some (head_in x) (head_of l) (head ∙ ap (option_map head_of) there) in
          held_is_of u i s l x map there (span_of l x same) of.0 of.1.0 (entry_kinds map of.1.1) none b ∙ ap (λ (p : ℕ). is_of x p map b) (sym label)
