-- What the volumes of a layout commit together, as the rule on commits has it and as the machine has it.
use Rattle.std.proofs.Common.{◌≡◌, ℕ, zero, suc, ◌+◌, ◌<◌, ◌≤◌, true, false, List, [], ◌++◌, refl, sym, ap, ◌∙◌, arith}
use Rattle.std.specs.Prelude.{Option, Some, None, flat_map, sum_by, nat_lt}
use Rattle.std.specs.List.{range_with_len}
use Rattle.std.specs.Option.{option_map_or}
use Rattle.std.specs.FinMap.{find}
use Rattle.std.proofs.lemmas.Bool.Decides.{nat_tests}
use Rattle.std.proofs.lemmas.List.Sums.{sum_by-cons, sum_by-append}
use Rattle.fv_model.specs.Spelling.{name_cmp}
use Rattle.fv_model.specs.Tables.{empty_table}
use Rattle.fv_model.specs.Volumes.{Volume}
use Rattle.fv_model.specs.Space.{commit, commits}
use Rattle.fv_image.specs.Views.{Head, View, slots}
use Rattle.fv_image.specs.Volumes.{active_at, named_with, table_at, told, told_with, volume_with, volumes_with}
use Rattle.fv_image.specs.Held.{Layout}
use Rattle.fv_image.specs.Seen.{VolumeSeen, seen, volume_seen}
use Rattle.fv_image.specs.VolumeRules.{commits_seen, share_name, has_distinct_names}
use Rattle.fv_image.proofs.SummedNames.{AllNew, apart_in, name_total, sum_of_entries}
use Rattle.fv_image.proofs.SameSeen.{seen_at}

abbrev Named : Type 0
Named = List (List ℕ × Volume)

module _ (w : View) where
  abbrev named : ℕ → ℕ → Named
  named from count = flat_map (λ s. named_with w (active_at w) s (w.head s)) (range_with_len from count)

  -- a name that no volume of these slots has
  no_other : (h : Head) (from count : ℕ) → ((s : ℕ) → from ≤ s → s < from + count → share_name (Some h) (w.head s) ≡ false) → find name_cmp h.name (named from count) ≡ None
  no_other h from zero none = refl
  no_other h from (suc count) none = so (no_other h (from + 1) count (λ s low high. none s (omega (arith, low)) (omega (arith, high)))) (w.head from) (none from (omega arith) (omega arith))
    where
      so : find name_cmp h.name (named (from + 1) count) ≡ None → (head : Option Head) → share_name (Some h) head ≡ false → find name_cmp h.name (named_with w (active_at w) from head ++ named (from + 1) count) ≡ None
      so rest None other = rest
      so rest (Some g) other = rw other rest

  all_new : (from count : ℕ) → ((s t : ℕ) → from ≤ s → s < t → t < from + count → share_name (w.head s) (w.head t) ≡ false) → AllNew name_cmp name_total commit (named from count)
  all_new from zero apart = tt
  all_new from (suc count) apart = so (all_new (from + 1) count (λ s t low order high. apart s t (omega (arith, low)) order (omega (arith, high)))) (w.head from) refl
    where
      so : AllNew name_cmp name_total commit (named (from + 1) count) → (head : Option Head) → w.head from ≡ head → AllNew name_cmp name_total commit (named_with w (active_at w) from head ++ named (from + 1) count)
      so rest None is = rest
      so rest (Some g) is = (no_other g (from + 1) count (λ s low high. ap (λ (head : Option Head). share_name head (w.head s)) (sym is) ∙ apart from s (omega arith) (omega (arith, low)) (omega (arith, high))), rest)

  -- what the volume of a slot commits
  abbrev commit_at : ℕ → ℕ
  commit_at s = option_map_or (λ (x : VolumeSeen). commit x.volume) ((seen w).volume s) 0

  of_slot : (s : ℕ) → s < 64 → sum_by (λ (e : List ℕ × Volume). commit e.1) (named_with w (active_at w) s (w.head s)) ≡ commit_at s
  unfolding seen volume_seen
  of_slot s inside = so (w.head s) refl
    where
      so : (o : Option Head) → w.head s ≡ o → sum_by (λ (e : List ℕ × Volume). commit e.1) (named_with w (active_at w) s o) ≡ commit_at s
      so None is = let test : nat_lt s 64 ≡ true = grind (arith, nat_tests, inside) in rw (test, is) refl
      so (Some h) is =
          let active : active_at w s ≡ table_at w s h.active = ap (λ (o : Option Head). option_map_or (λ h. table_at w s h.active) o empty_table) is in
          let one : sum_by (λ (e : List ℕ × Volume). commit e.1) (named_with w (active_at w) s (Some h)) ≡ commit (volume_with w s h (active_at w s)) = sum_by-cons (λ (e : List ℕ × Volume). commit e.1) (h.name, volume_with w s h (active_at w s)) [] ∙ omega arith in
          one ∙ ap (λ t. commit (volume_with w s h t)) active ∙ sym (ap (λ (o : Option VolumeSeen). option_map_or (λ x. commit x.volume) o 0) (seen_at w s h inside is))

  summed : (from count : ℕ) → from + count ≤ 64 → sum_by (λ (e : List ℕ × Volume). commit e.1) (named from count) ≡ sum_by commit_at (range_with_len from count)
  summed from zero inside = refl
  summed from (suc count) inside = omega (
    arith,
    sum_by-append (λ (e : List ℕ × Volume). commit e.1) (named_with w (active_at w) from (w.head from)) (named (from + 1) count),
    of_slot from (omega (arith, inside)),
    sum_by-cons commit_at from (range_with_len (from + 1) count),
    summed (from + 1) count (omega (arith, inside)),
  )

-- What the machine's volumes commit is what the rule counts, where no two have one name.
pub commits_told : (y : Layout) → has_distinct_names y ≡ true → commits (told y.view) ≡ commits_seen (seen y.view)
unfolding told_with volumes_with commits_seen slots
commits_told y distinct =
    sum_of_entries name_cmp name_total commit (named y.view 0 64) (all_new y.view 0 64 (λ s t low order high. apart_in y distinct s t order (omega (arith, high))))
    ∙ summed y.view 0 64 (omega arith)
