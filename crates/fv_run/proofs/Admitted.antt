-- The machine of a sound image keeps the rule of admission.
use Rattle.std.proofs.Common.{◌≡◌, ℕ, zero, suc, ◌+◌, ◌<◌, ◌≤◌, Bool, true, false, cond, List, ◌++◌, refl, sym, ap, subst, ◌∙◌, arith}
use Rattle.std.specs.Prelude.{Option, Some, None, flat_map, nat_le}
use Rattle.std.specs.List.{range_with_len}
use Rattle.std.specs.Option.{option_map_or}
use Rattle.std.specs.Ordering.{eq_by_cmp}
use Rattle.std.specs.FinMap as fin
use Rattle.std.proofs.lemmas.Bool.Decides.{nat_tests}
use Rattle.fv_disk.specs.Shown.{Image}
use Rattle.fv_model.specs.Spelling.{name_cmp}
use Rattle.fv_model.specs.Tables.{empty_table}
use Rattle.fv_model.specs.Volumes.{Volume}
use Rattle.fv_model.specs.Machines.{Machine, capacity}
use Rattle.fv_model.specs.Space.{use_of, IsAdmitted}
use Rattle.fv_image.specs.Views.{Head, View, slots}
use Rattle.fv_image.specs.Volumes.{active_at, named_with, table_at, told, told_with, volume_told, volume_with, volumes_with}
use Rattle.fv_image.specs.Held.{Layout, layout_at}
use Rattle.fv_image.specs.Seen.{seen, volume_seen}
use Rattle.fv_image.specs.VolumeRules.{commits_seen, has_commits_in_capacity, has_use_in_size}
use Rattle.fv_image.specs.Soundness.{IsSound}
use Rattle.fv_image.specs.WholeMachine.{machine_of}
use Rattle.fv_image.proofs.SummedNames.{name_total}
use Rattle.fv_image.proofs.Committed.{commits_told}
use Rattle.fv_image.proofs.SameSeen.{of_volume}
use Rattle.fv_image.proofs.SoundTests.{stands_for}

below : (a b : ℕ) → nat_le a b ≡ true → a ≤ b
below a b e = grind (arith, nat_tests)

module _ (w : View) (sizes : has_use_in_size (seen w) ≡ true) where
  fits : (s : ℕ) (h : Head) → s < 64 → w.head s ≡ Some h → use_of (volume_told w s h) ≤ h.size
  unfolding has_use_in_size volume_seen
  fits s h small there = below (use_of (volume_told w s h)) h.size (of_volume w (λ s x. nat_le (use_of x.volume) x.head.size) s h sizes small there)

  told_with_own : (s : ℕ) (h : Head) → w.head s ≡ Some h → volume_with w s h (active_at w s) ≡ volume_told w s h
  told_with_own s h there = ap (volume_with w s h) (ap (λ (o : Option Head). option_map_or (λ h. table_at w s h.active) o empty_table) there)

  own_fits : (s : ℕ) (h : Head) → s < 64 → w.head s ≡ Some h → use_of (volume_with w s h (active_at w s)) ≤ (volume_with w s h (active_at w s)).size
  unfolding volume_with
  own_fits s h small there = subst (λ (x : Volume). use_of x ≤ x.size) (sym (told_with_own s h there)) (fits s h small there)

  abbrev named : ℕ → ℕ → List (List ℕ × Volume)
  named from count = flat_map (λ s. named_with w (active_at w) s (w.head s)) (range_with_len from count)

  -- a volume that is found under a name
  found_fits : (name : List ℕ) (x : Volume) (from count : ℕ) → from + count ≤ 64 → fin.find name_cmp name (named from count) ≡ Some x → use_of x ≤ x.size
  found_fits name x from zero inside e = absurd cc
  found_fits name x from (suc count) inside e = so (found_fits name x (from + 1) count (omega (arith, inside))) (w.head from) refl e
    where
      here : (fin.find name_cmp name (named (from + 1) count) ≡ Some x → use_of x ≤ x.size) → (h : Head) → w.head from ≡ Some h
          → (is : Bool) → cond is (Some (volume_with w from h (active_at w from))) (fin.find name_cmp name (named (from + 1) count)) ≡ Some x → use_of x ≤ x.size
      here later h there true e = let same : volume_with w from h (active_at w from) ≡ x = cc in subst (λ (x : Volume). use_of x ≤ x.size) same (own_fits from h (omega (arith, inside)) there)
      here later h there false e = later e

      so : (fin.find name_cmp name (named (from + 1) count) ≡ Some x → use_of x ≤ x.size) → (o : Option Head) → w.head from ≡ o
          → fin.find name_cmp name (named_with w (active_at w) from o ++ named (from + 1) count) ≡ Some x → use_of x ≤ x.size
      so later None there e = later e
      so later (Some h) there e = here later h there (eq_by_cmp name_cmp name h.name) e

-- No volume of the machine of a sound layout uses more than its size, and all commit no more than the capacity.
machine_is_admitted : (y : Layout) → IsSound y → IsAdmitted (told y.view)
unfolding told_with volumes_with slots has_commits_in_capacity seen
machine_is_admitted y is = record {
  volumes = λ name x there. found_fits y.view is.tables.sizes name x 0 64 (omega arith)
      (sym (fin.get-from_entries name_total (flat_map (λ s. named_with y.view (active_at y.view) s (y.view.head s)) (range_with_len 0 64)) name) ∙ there);
  aggregate = rw (commits_told y is.names) (below (commits_seen (seen y.view)) (capacity y.view.blocks) is.tables.commits);
}

-- So does the machine that an image stands for.
pub image_is_admitted : (i : Image) (m : Machine) → machine_of i ≡ Some m → IsAdmitted m
image_is_admitted i m is =
    let stands = stands_for i m is in
    subst IsAdmitted stands.1.1.machine (machine_is_admitted (layout_at stands.0 i) stands.1.1.sound)
