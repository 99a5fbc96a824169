-- The label of a slot, as it was read; what is loaded from it, and why it isn't.
use Rattle.std.proofs.Common.{◌≡◌, ◌≢◌, ◌<◌, ℕ, zero, suc, true, false, cond, nat_lt, List, length, Option, Some, None, get_or, inl, inr, refl, sym, ap, subst, ◌∙◌, arith, ⊎_elim}
use Rattle.std.specs.Prelude.{◌⊎◌, IfErr, Result, Ok, Err}
use Rattle.std.specs.Result.{IsErrAnd}
use Rattle.std.specs.Option.{option_map}
use Rattle.std.proofs.lemmas.Bool.Decides.{nat_tests}
use Rattle.fv_disk.specs.Shown.{Image}
use Rattle.fv_codec.specs.declared.label.Label.{Label}
use Rattle.fv_codec.specs.Blocks.{label_at}
use Rattle.fv_image.specs.Containers.{IsNodeFault, shaped}
use Rattle.fv_image.specs.Views.{entry_count, head_of, snaps_from}
use Rattle.fv_image.specs.Held.{label_in, label_place, lying_at, view_at}
use Rattle.fv_disk.specs.Faults.{HasBlockCause}
use Rattle.fv_disk.specs.declared.fault.BlockFault.{BlockFault}
use Rattle.fv_disk.specs.declared.fault.BlockFault.TheVariants.{DiskFault, Damaged, Memory}
use Rattle.fv_container.specs.Chains.{IsBadLeaf, map_in}
use Rattle.fv_container.specs.Clean.{IsCleanOn, IsCleanTree}
use Rattle.fv_container.specs.Mapped.{IsMapped, Mapped}
use Rattle.fv_container.specs.Paged.{Paged}
use Rattle.fv_container.specs.Spelled.{IsFault, IsOpened}
use Rattle.fv_container.proofs.Damage.{opened_fault}
use Rattle.fv_root.specs.declared.find.Found.{Found}
use Rattle.fv_root.specs.Finding.{root_found}
use Rattle.fv_volume.specs.declared.state.VolumeState.{VolumeState}
use Rattle.fv_volume.specs.Loading.{HaveBits, IsBadLabel, IsBadMap, IsCleanOf, IsContainerOf, IsLoadFault, IsLoaded, IsMapFault, IsPastSpan, IsTreeFault, form_in, is_slot_with, label_of}
use Rattle.fv_volume.specs.declared.state.Snap.{Snap}
use Rattle.fv_volume.specs.States.{head_in, snaps_in}
use Rattle.fv_volume.proofs.KeptSlots.{slots_with}

-- a fault that was handed on
pub handed : {T : Type 0} (P : BlockFault → Type 0) (e : BlockFault) (result : Result T BlockFault) → IsErrAnd result (λ f. f ≡ e) → P e → IfErr result P
handed P e (Ok x) is holds = tt
handed P e (Err f) is holds = subst P (sym is) holds

-- memory lacks where the disk raised no fault
pub lacks_memory : {T : Type 0} (before now : ℕ) (result : Result T BlockFault) → IsErrAnd result (λ f. f ≡ Memory) → now ≡ before → HasBlockCause before now result
lacks_memory before now (Ok x) is same = same
lacks_memory {T} before now (Err f) is same = subst (λ (g : BlockFault). HasBlockCause {T = T} before now (Err g)) (sym is) same

module _ (found : Found) (i : Image) (s : ℕ) (lt : s < 64) where
  place_there : label_place (root_found found) s ≡ get_or found.root.labels s 0
  unfolding label_place
  place_there = let test : nat_lt s 64 ≡ true = grind (arith, nat_tests) in ap (λ t. cond t (get_or found.root.labels s 0) 0) test

  pub no_label : get_or found.root.labels s 0 ≡ 0 → label_of found i s ≡ None
  unfolding label_in
  no_label none = ap (λ p. label_in (lying_at i p)) (place_there ∙ none)

  spelled_at : (p : ℕ) (l : Label) → p ≢ 0 → label_at (i p) ≡ Ok l → label_in (lying_at i p) ≡ Some l
  unfolding label_in
  spelled_at zero l some said = absurd (some refl)
  spelled_at (suc p) l some said = ap shaped said

  pub is_label : (p : ℕ) (l : Label) → p ≡ get_or found.root.labels s 0 → p ≢ 0 → label_at (i p) ≡ Ok l → label_of found i s ≡ Some l
  is_label p l is some said = ap (λ q. label_in (lying_at i q)) (place_there ∙ sym is) ∙ spelled_at p l some said

  pub loaded_none : (c : Option Paged) → get_or found.root.labels s 0 ≡ 0 → c ≡ None → IsLoaded i found s None c
  loaded_none c none empty = record {
    head = ap (option_map head_of) (sym (no_label none));
    tree = subst (λ (l : Option Label). IsContainerOf i l (map_in c)) (sym (no_label none)) (subst (λ (o : Option Paged). IsContainerOf i None (map_in o)) (sym empty) tt);
    clean = subst (λ (l : Option Label). IsCleanOf i l c) (sym (no_label none)) tt;
    label = sym (place_there ∙ none);
    bits = tt;
    changed = tt;
  }

  pub loaded_some : (l : Label) (y : VolumeState) (paged : Paged) (c : Option Paged) → label_of found i s ≡ Some l → head_in y ≡ head_of l → y.label ≡ get_or found.root.labels s 0 → c ≡ Some paged
      → IsOpened i l.container l.height paged.map → (IsCleanTree i l.container l.height (entry_count l.span) → IsCleanOn i paged) → length paged.map.entries ≡ entry_count l.span → IsMapped paged.map
      → HaveBits (view_at (root_found found) i) s y.span y.map → y.changed ≡ false → IsLoaded i found s (Some y) c
  loaded_some l y paged c lies head place there opened clean size valid bits changed = record {
    head = ap Some head ∙ ap (option_map head_of) (sym lies);
    tree = subst (λ (o : Option Label). IsContainerOf i o (map_in c)) (sym lies) (subst (λ (o : Option Paged). IsContainerOf i (Some l) (map_in o)) (sym there) (opened, (size, valid)));
    clean = subst (λ (o : Option Label). IsCleanOf i o c) (sym lies) (subst (IsCleanOf i (Some l)) (sym there) clean);
    label = place ∙ sym place_there;
    bits = bits;
    changed = changed;
  }

  pub bad_label : (p : ℕ) (e : BlockFault) → p ≡ get_or found.root.labels s 0 → p ≢ 0 → IsBadLabel (i p) p e → IsLoadFault i found e
  bad_label p (Damaged at want number) is some bad = inl (record {
    slot = s;
    place = bad.0 ∙ is ∙ sym place_there;
    some = λ none. some (sym bad.0 ∙ none);
    fault = (refl, subst (λ (b : List ℕ). (label_at b ≡ Err (record { want = want; found = number })) ⊎ ((l : Label) × ((label_at b ≡ Ok l) × (form_in l ≡ Some (want, number))))) (ap i (sym bad.0)) bad.1);
  })
  bad_label p DiskFault is some bad = tt
  bad_label p Memory is some bad = absurd bad

  pub bad_tree : (l : Label) (e : BlockFault) → label_of found i s ≡ Some l → IsFault i l.container l.height (entry_count l.span) e → IsLoadFault i found e
  bad_tree l (Damaged at want number) lies bad = inr (inl (record { slot = s; label = l; lies = lies; fault = bad }))
  bad_tree l DiskFault lies bad = tt
  bad_tree l Memory lies bad = tt

  -- a bit past the span in the map of a slot that the label uses
  pub bad_bits : (l : Label) (map : Mapped) (snaps : List Snap) (at want number k : ℕ) → label_of found i s ≡ Some l → IsOpened i l.container l.height map → length map.entries ≡ entry_count l.span → IsMapped map → snaps_in snaps ≡ snaps_from 1 l.snapshots
      → is_slot_with snaps k ≡ true → IsPastSpan i map l.span k at want number → IsMapFault i found at want number
  unfolding head_of
  bad_bits l map snaps at want number k lies opened long valid said used past = record {
    slot = s;
    label = l;
    lies = lies;
    map = map;
    opened = opened;
    long = long;
    valid = valid;
    map_slot = k;
    used = sym (slots_with (head_of l) snaps said k) ∙ used;
    fault = past;
  }

  -- a leaf that isn't one
  pub bad_leaves : (l : Label) (map : Mapped) (at want number : ℕ) → label_of found i s ≡ Some l → IsOpened i l.container l.height map → length map.entries ≡ entry_count l.span → IsBadLeaf i map at want number → IsTreeFault i found at want number
  bad_leaves l map at want number lies opened long bad =
      record { slot = s; label = l; lies = lies; fault = subst (λ (n : ℕ). IsNodeFault i l.container l.height n at want number) long (opened_fault i l.container l.height map at want number opened bad) }

  pub bad_map : (l : Label) (map : Mapped) (snaps : List Snap) (e : BlockFault) → label_of found i s ≡ Some l → IsOpened i l.container l.height map → length map.entries ≡ entry_count l.span → IsMapped map → snaps_in snaps ≡ snaps_from 1 l.snapshots → IsBadMap i map l.span snaps e → IsLoadFault i found e
  bad_map l map snaps (Damaged at want number) lies opened long valid said bad = ⊎_elim
      (λ (leaf : IsBadLeaf i map at want number). inr (inl (bad_leaves l map at want number lies opened long leaf)))
      (λ (bits : (k : ℕ) × ((is_slot_with snaps k ≡ true) × IsPastSpan i map l.span k at want number)).
      inr (inr (bad_bits l map snaps at want number bits.0 lies opened long valid said bits.1.0 bits.1.1)))
      bad
  bad_map l map snaps DiskFault lies opened long valid said bad = tt
  bad_map l map snaps Memory lies opened long valid said bad = tt
