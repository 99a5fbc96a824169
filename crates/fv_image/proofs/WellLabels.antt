-- The machine of a sound image is well-formed: what its labels and blocks give.
use Rattle.std.proofs.Common.{◌≡◌, ℕ, zero, suc, ◌+◌, ◌<◌, ◌≤◌, Bool, true, false, not, List, [], ◌∷◌, length, refl, sym, ap, subst, ◌∙◌, arith, Result, Ok, Err}
use Rattle.std.specs.Prelude.{Option, Some, None, ◌==◌, take, if◌then◌else◌}
use Rattle.std.specs.List.{list_all, range_with_len}
use Rattle.std.specs.Option.{option_map, option_and_then}
use Rattle.std.proofs.lemmas.Bool.{not-true}
use Rattle.fv_disk.specs.Shown.{Image}
use Rattle.fv_codec.specs.declared.shape.Shape.{Shape}
use Rattle.fv_codec.specs.declared.label.SnapRecord.{SnapRecord}
use Rattle.fv_codec.specs.declared.label.Label.{Label}
use Rattle.fv_codec.specs.Blocks.{label_at, IsLabel}
use Rattle.fv_codec.proofs.Decoded.{label_in_range}
use Rattle.fv_model.specs.Machines.{Machine}
use Rattle.fv_laws.specs.WellFormed.{IsWell, IsWellVolume}
use Rattle.fv_tables.proofs.Lists.{all_in_range}
use Rattle.fv_image.specs.NewerRoot.{Taken, root_of}
use Rattle.fv_image.specs.Containers.{shaped, container_entry}
use Rattle.fv_image.specs.Views.{Placed, Head, snaps_from, head_of, slots, entry_count}
use Rattle.fv_image.specs.Held.{layout_at, view_at, lying_at, label_place, label_in, entry_from, placed}
use Rattle.fv_image.specs.VolumeRules.{share_name, has_distinct_names}
use Rattle.fv_image.specs.Volumes.{volume_told}
use Rattle.fv_image.specs.Seen.{seen}
use Rattle.fv_image.specs.Soundness.{AreTables}
use Rattle.fv_image.specs.WholeMachine.{machine_at, machine_of, Tells}
use Rattle.fv_image.specs.WellMachines.{MachinesAreWell}
use Rattle.fv_image.proofs.Heads.{few_records, head_told}
use Rattle.fv_image.proofs.LabelNumbers.{label_numbers}
use Rattle.fv_image.proofs.SoundTests.{tells_from}
use Rattle.fv_image.proofs.OwnUses.{HasLabelNumbers}
use Rattle.fv_image.proofs.WellVolumes.{IsNumbered, well_volume}
use Rattle.fv_image.proofs.WellImages.{well_machine}

-- ---- a label

few_snaps : (j : ℕ) (rs : List SnapRecord) → length (snaps_from j rs) ≤ length rs
unfolding snaps_from
few_snaps j [] = omega arith
few_snaps j (r ∷ rs) = so (r.name_length == 0) (few_snaps (j + 1) rs)
  where
    so : (free : Bool) → length (snaps_from (j + 1) rs) ≤ length rs
        → length (if free then snaps_from (j + 1) rs else record { slot = j; name = take r.name_length r.name; table = record { levels = r.levels; root = r.root } } ∷ snaps_from (j + 1) rs) ≤ suc (length rs)
    so true rest = omega (arith, rest)
    so false rest = omega (arith, rest)

numbered_label : (block : List ℕ) (l : Label) → length block ≡ 4096 → label_at block ≡ Ok l → IsNumbered (head_of l)
unfolding head_of
numbered_label block l long e =
    let is : IsLabel l = label_in_range block (Ok l) long (sym e) in
    let numbers = label_numbers l is in
    let size = is.size_greatest in
    let some = few_snaps 1 l.snapshots in
    let all = few_records block l e in
    record {
      changes = is.now;
      size = omega (arith, size);
      narrow = is.span_greatest;
      active = is.levels;
      snapshots = numbers.snapshots;
      kept = omega (arith, some, all);
    }

-- ---- an image

module _ (t : Taken) (i : Image) (long : (b : ℕ) → length (i b) ≡ 4096) where
  -- what each label says has what follows from its shape
  of_lying : (P : Head → Type 0) → ((block : List ℕ) (l : Label) → length block ≡ 4096 → label_at block ≡ Ok l → P (head_of l)) → (p : ℕ) (h : Head) → option_map head_of (label_in (lying_at i p)) ≡ Some h → P h
  unfolding label_in
  of_lying P each zero h e = absurd cc
  of_lying P each (suc p) h e = so (label_at (i (suc p))) refl e
    where
      so : (r : Result Label Shape) → label_at (i (suc p)) ≡ r → option_map head_of (shaped r) ≡ Some h → P h
      so (Ok l) is e = let same : head_of l ≡ h = cc in subst P same (each (i (suc p)) l (long (suc p)) is)
      so (Err fault) is e = absurd cc

  pub numbered_at : (s : ℕ) (h : Head) → s < 64 → (view_at t i).head s ≡ Some h → IsNumbered h
  numbered_at s h small e = of_lying IsNumbered numbered_label (label_place t s) h (sym (head_told t i s) ∙ e)

  pub numbers_at : (s : ℕ) (h : Head) → (view_at t i).head s ≡ Some h → HasLabelNumbers h
  numbers_at s h e = of_lying HasLabelNumbers (λ block l long is. label_numbers l (label_in_range block (Ok l) long (sym is))) (label_place t s) h (sym (head_told t i s) ∙ e)

  entry_long : (o : Option Label) (v : ℕ) (p : Placed) → entry_from o i v ≡ Some p → length p.block ≡ 4096
  unfolding entry_from
  entry_long None v p e = absurd cc
  entry_long (Some l) v p e = so (container_entry i l.container l.height (entry_count l.span) v) e
    where
      so : (x : ℕ × ℕ) → placed i x ≡ Some p → length p.block ≡ 4096
      so x e = by (x.1 == 0) e
        where
          by : (b : Bool) → (if b then None else Some (record { pvbn = x.0; kind = x.1; block = i x.0 })) ≡ Some p → length p.block ≡ 4096
          by true e = absurd cc
          by false e = let same : i x.0 ≡ p.block = cc in ap (λ (b : List ℕ). length b) (sym same) ∙ long x.0

  pub entries_whole : (s v : ℕ) (p : Placed) → (view_at t i).entry s v ≡ Some p → length p.block ≡ 4096
  unfolding view_at
  entries_whole s v p e = entry_long (label_in (lying_at i (label_place t s))) v p e

  pub names_apart : has_distinct_names (layout_at t i) ≡ true → (s k : ℕ) → s < 64 → k < s → share_name ((view_at t i).head k) ((view_at t i).head s) ≡ false
  unfolding has_distinct_names layout_at slots
  names_apart all s k small before =
      let w = view_at t i in
      let here = all_in_range (λ s. list_all (λ earlier. not (share_name (w.head earlier) (w.head s))) (range_with_len 0 s)) s 0 64 all (omega arith) (omega (arith, small)) in
      not-true _ (all_in_range (λ earlier. not (share_name (w.head earlier) (w.head s))) k 0 s here (omega arith) (omega (arith, before)))

-- Each volume of a sound image is one of the machine's.
pub volumes_are_well : (t : Taken) (i : Image) → ((b : ℕ) → length (i b) ≡ 4096) → AreTables (seen (view_at t i)) → (s : ℕ) (h : Head) → s < 64 → (view_at t i).head s ≡ Some h → IsWellVolume (volume_told (view_at t i) s h)
volumes_are_well t i long tables s h small there = well_volume (view_at t i) tables (entries_whole t i long) (numbered_at t i long) s h small there

-- The machine of a sound image is well-formed.
pub machines_are_well : MachinesAreWell
unfolding layout_at
machines_are_well t i long is = well_machine (view_at t i) is.tables (entries_whole t i long) (numbered_at t i long) (names_apart t i long is.names)

-- so what an image stands for is
pub machine_is_well : (i : Image) (m : Machine) → ((b : ℕ) → length (i b) ≡ 4096) → machine_of i ≡ Some m → IsWell m
unfolding machine_of layout_at
machine_is_well i m long stands = so (root_of i) refl stands
  where
    so : (o : Option Taken) → root_of i ≡ o → option_and_then (λ t. machine_at t i) o ≡ Some m → IsWell m
    so None counts stands = absurd cc
    so (Some t) counts stands =
        let tells : Tells (layout_at t i) m = tells_from (layout_at t i) m stands in
        subst IsWell tells.machine (machines_are_well t i long tells.sound)
