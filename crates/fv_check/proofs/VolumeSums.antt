-- What is counted slot by slot is what the machine of a view has, where no two volumes have one name.
use Rattle.std.proofs.Common.{◌≡◌, ℕ, zero, suc, ◌+◌, ◌<◌, ◌≤◌, true, List, [], ◌∷◌, ◌++◌, length, refl, sym, ap, ◌∙◌, arith}
use Rattle.std.specs.Prelude.{false, Option, Some, None, flat_map, sum_by}
use Rattle.std.specs.List.{range_with_len}
use Rattle.std.specs.Option.{option_map_or}
use Rattle.std.specs.FinMap as fin
use Rattle.std.specs.FinMap.{find}
use Rattle.std.proofs.lemmas.List.Sums.{sum_by-cons, sum_by-append}
use Rattle.fv_model.specs.Spelling.{name_cmp}
use Rattle.fv_model.specs.Tables.{empty_table}
use Rattle.fv_model.specs.Volumes.{Volume}
use Rattle.fv_model.specs.Space.{charge}
use Rattle.fv_image.specs.Views.{Head, View, slots}
use Rattle.fv_image.specs.Volumes.{active_at, named_with, table_at, told, told_with, volume_told, volume_with, volumes_with}
use Rattle.fv_image.specs.Held.{Layout}
use Rattle.fv_image.specs.VolumeRules.{share_name, has_distinct_names}
use Rattle.fv_image.proofs.SummedNames.{AllNew, apart_in, name_total, sum_of_entries}
use Rattle.fv_first_pass.specs.Verdicts.{charges}
use Rattle.fv_check.specs.Judged.{charge_at, volumes_at}

abbrev Named : Type 0
Named = List (List ℕ × Volume)

one_each : {X : Type 0} → (xs : List X) → length xs ≡ sum_by (λ (x : X). 1) xs
one_each [] = refl
one_each (x ∷ xs) = omega (arith, one_each xs, sum_by-cons (λ x. 1) x xs)

module _ (w : View) (number : Volume → ℕ) where
  abbrev named : ℕ → ℕ → Named
  named from count = flat_map (λ s. named_with w (active_at w) s (w.head s)) (range_with_len from count)

  -- a name that no volume of these slots has
  no_other : (h : Head) (from count : ℕ) → ((s : ℕ) → from ≤ s → s < from + count → share_name (Some h) (w.head s) ≡ false) → find name_cmp h.name (named from count) ≡ None
  no_other h from zero none = refl
  no_other h from (suc count) none = so (no_other h (from + 1) count (λ s low high. none s (omega (arith, low)) (omega (arith, high)))) (w.head from) (none from (omega arith) (omega arith))
    where
      so : find name_cmp h.name (named (from + 1) count) ≡ None → (head : Option Head) → share_name (Some h) head ≡ false → find name_cmp h.name (named_with w (active_at w) from head ++ named (from + 1) count) ≡ None
      so rest None other = rest
      so rest (Some g) other = rw other rest

  all_new : (from count : ℕ) → ((s t : ℕ) → from ≤ s → s < t → t < from + count → share_name (w.head s) (w.head t) ≡ false) → AllNew name_cmp name_total number (named from count)
  all_new from zero apart = tt
  all_new from (suc count) apart = so (all_new (from + 1) count (λ s t low order high. apart s t (omega (arith, low)) order (omega (arith, high)))) (w.head from) refl
    where
      so : AllNew name_cmp name_total number (named (from + 1) count) → (head : Option Head) → w.head from ≡ head → AllNew name_cmp name_total number (named_with w (active_at w) from head ++ named (from + 1) count)
      so rest None is = rest
      so rest (Some g) is = (no_other g (from + 1) count (λ s low high. ap (λ (head : Option Head). share_name head (w.head s)) (sym is) ∙ apart from s (omega arith) (omega (arith, low)) (omega (arith, high))), rest)

  -- the number of a slot's volume
  abbrev number_at : ℕ → ℕ
  number_at s = option_map_or (λ h. number (volume_told w s h)) (w.head s) 0

  of_slot : (s : ℕ) → sum_by (λ (e : List ℕ × Volume). number e.1) (named_with w (active_at w) s (w.head s)) ≡ number_at s
  of_slot s = so (w.head s) refl
    where
      so : (o : Option Head) → w.head s ≡ o → sum_by (λ (e : List ℕ × Volume). number e.1) (named_with w (active_at w) s o) ≡ option_map_or (λ h. number (volume_told w s h)) o 0
      so None is = refl
      so (Some h) is =
          let active : active_at w s ≡ table_at w s h.active = ap (λ (o : Option Head). option_map_or (λ h. table_at w s h.active) o empty_table) is in
          let one : sum_by (λ (e : List ℕ × Volume). number e.1) (named_with w (active_at w) s (Some h)) ≡ number (volume_with w s h (active_at w s)) = sum_by-cons (λ (e : List ℕ × Volume). number e.1) (h.name, volume_with w s h (active_at w s)) [] ∙ omega arith in
          one ∙ ap (λ t. number (volume_with w s h t)) active

  summed : (from count : ℕ) → sum_by (λ (e : List ℕ × Volume). number e.1) (named from count) ≡ sum_by number_at (range_with_len from count)
  summed from zero = refl
  summed from (suc count) = omega (
    arith,
    sum_by-append (λ (e : List ℕ × Volume). number e.1) (named_with w (active_at w) from (w.head from)) (named (from + 1) count),
    of_slot from,
    sum_by-cons number_at from (range_with_len (from + 1) count),
    summed (from + 1) count,
  )

-- the sum over the machine's volumes is the sum over slots
told_sum : (y : Layout) → has_distinct_names y ≡ true → (number : Volume → ℕ)
    → sum_by (λ (e : List ℕ × Volume). number e.1) (fin.entries (told y.view).volumes) ≡ sum_by (number_at y.view number) (range_with_len 0 64)
unfolding told_with volumes_with slots
told_sum y distinct number =
    sum_of_entries name_cmp name_total number (named y.view number 0 64) (all_new y.view number 0 64 (λ s t low order high. apart_in y distinct s t order (omega (arith, high))))
    ∙ summed y.view number 0 64

pub charges_told : (y : Layout) → has_distinct_names y ≡ true → charges (told y.view) ≡ sum_by (charge_at y.view) (range_with_len 0 64)
charges_told y distinct = told_sum y distinct charge

pub volumes_told : (y : Layout) → has_distinct_names y ≡ true → fin.len (told y.view).volumes ≡ sum_by (volumes_at y.view) (range_with_len 0 64)
volumes_told y distinct =
    fin.len-entries (told y.view).volumes ∙ one_each (fin.entries (told y.view).volumes) ∙ told_sum y distinct (λ v. 1)
