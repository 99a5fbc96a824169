-- The delayed entries of all volumes: the counts of their regions sum to them, and where regions are reclaimed what is left and what is given back
-- do. So once the chosen regions are reclaimed, what was missing was given back, or none is left.
use Rattle.std.proofs.Common.{◌≡◌, ◌⊎◌, ℕ, zero, suc, ◌+◌, ◌<◌, ◌≤◌, Bool, true, false, cond, not, ◌&&◌, ◌||◌, ◌==◌, List, [], ◌∷◌, length, filter, map, sum_by, refl, sym, ap, subst, ◌∙◌, arith}
use Rattle.std.specs.Prelude.{Option, Some, None, count_by, flat_map}
use Rattle.std.specs.List.{list_all, range_with_len}
use Rattle.std.specs.Option.{option_map_or}
use Rattle.std.proofs.lemmas.Bool.{and_parts, or_right}
use Rattle.std.proofs.lemmas.Bool.Decides.{nat_tests}
use Rattle.std.proofs.lemmas.List.Sums.{sum_by-append, sum_by-cons}
use Rattle.fv_bits.proofs.Counts.{passing, passing_same}
use Rattle.fv_image.specs.Containers.{level_width}
use Rattle.fv_image.specs.Views.{Head, View, delayed, entry_count, slots, vvbns}
use Rattle.fv_image.specs.Views as views
use Rattle.fv_image.proofs.Counts.{same_sum}
use Rattle.fv_delay.specs.declared.counts.Count.{Count}
use Rattle.fv_delay.specs.declared.regions.Region.{Region}
use Rattle.fv_delay.specs.Choice.{chosen, regions_counted, total}
use Rattle.fv_delay.specs.Delay.{delayed_in, delayed_of, is_delayed}
use Rattle.fv_delay.specs.Holding.{AreHoldingsOf, AreLeft, Holding, IsHoldingOf, IsLeft, all_delayed, all_given, counted, counts_in, counts_of, has_region, has_some, regions_of, sum_of}
use Rattle.fv_delay.specs.Reclaims.{goes_with}
use Rattle.fv_delay.proofs.Enough.{after_chosen}
use Rattle.fv_delay.proofs.Parts.{delayed_sum}
use Rattle.fv_delay.proofs.Left.{region_left, volume_left}

-- ---- sums over volumes

-- sums of slots in use are alike where their parts are
pub sums_alike : (old new : ℕ → Option Holding) (f g : ℕ → Holding → ℕ) → ((s : ℕ) → s < 64 → option_map_or (f s) (old s) 0 ≡ option_map_or (g s) (new s) 0) → sum_of old f ≡ sum_of new g
unfolding slots
sums_alike old new f g same = same_sum (λ s. option_map_or (f s) (old s) 0) (λ s. option_map_or (g s) (new s) 0) 0 64 (λ s low high. same s (omega (arith, high)))

-- a sum of sums
sums_add : (a b : ℕ → ℕ) (from count : ℕ) → sum_by (λ k. a k + b k) (range_with_len from count) ≡ sum_by a (range_with_len from count) + sum_by b (range_with_len from count)
sums_add a b from zero = refl
sums_add a b from (suc count) = omega (
  arith,
  sum_by-cons (λ k. a k + b k) from (range_with_len (from + 1) count),
  sum_by-cons a from (range_with_len (from + 1) count),
  sum_by-cons b from (range_with_len (from + 1) count),
  sums_add a b (from + 1) count,
)

-- ---- counts of all regions

-- a sum over the counts of some regions: those without delayed entries add nothing
module _ (f : Count → ℕ) (none : (c : Count) → c.count ≡ 0 → f c ≡ 0) where
  pub sum_some : (g : ℕ → Count) (rs : List ℕ) → sum_by f (filter has_some (map g rs)) ≡ sum_by (λ r. f (g r)) rs
  sum_some g [] = refl
  sum_some g (r ∷ rs) = so (has_some (g r)) refl (sum_some g rs)
    where
      so : (t : Bool) → has_some (g r) ≡ t → sum_by f (filter has_some (map g rs)) ≡ sum_by (λ r. f (g r)) rs
          → sum_by f (cond t (g r ∷ filter has_some (map g rs)) (filter has_some (map g rs))) ≡ sum_by (λ r. f (g r)) (r ∷ rs)
      so true is rest = omega (arith, sum_by-cons f (g r) (filter has_some (map g rs)), rest, sum_by-cons (λ r. f (g r)) r rs)
      so false is rest =
          let empty : (g r).count ≡ 0 = grind (arith, nat_tests, is) in
          omega (arith, rest, none (g r) empty, sum_by-cons (λ r. f (g r)) r rs)

  sum_flat : (part : ℕ → List Count) (xs : List ℕ) → sum_by f (flat_map part xs) ≡ sum_by (λ s. sum_by f (part s)) xs
  sum_flat part [] = refl
  sum_flat part (x ∷ xs) = sum_by-append f (part x) (flat_map part xs) ∙ ap (λ (n : ℕ). sum_by f (part x) + n) (sum_flat part xs) ∙ sym (sum_by-cons (λ s. sum_by f (part s)) x xs)

  -- A number of each region that is 0 where none is delayed, summed over all regions with delayed entries, is its sum over all regions.
  pub counts_sum : (volumes : ℕ → Option Holding) → sum_by f (counts_of volumes) ≡ sum_of volumes (λ s x. sum_by (λ r. f (counted s x r)) (regions_of x))
  unfolding counts_of counts_in slots
  counts_sum volumes = sum_flat (λ s. option_map_or (counts_in s) (volumes s) []) slots ∙ sums_of
    where
      each : (s : ℕ) (o : Option Holding) → sum_by f (option_map_or (counts_in s) o []) ≡ option_map_or (λ x. sum_by (λ r. f (counted s x r)) (regions_of x)) o 0
      each s None = refl
      each s (Some x) = sum_some (counted s x) (regions_of x)

      sums_of : sum_by (λ s. sum_by f (option_map_or (counts_in s) (volumes s) [])) slots ≡ sum_of volumes (λ s x. sum_by (λ r. f (counted s x r)) (regions_of x))
      sums_of = same_sum (λ s. sum_by f (option_map_or (counts_in s) (volumes s) [])) (λ s. option_map_or (λ x. sum_by (λ r. f (counted s x r)) (regions_of x)) (volumes s) 0) 0 64 (λ s low high. each s (volumes s))

-- So the counts of all regions sum to the delayed entries of all volumes.
pub counts_total : (volumes : ℕ → Option Holding) → total (counts_of volumes) ≡ all_delayed volumes
unfolding all_delayed
counts_total volumes = counts_sum (λ c. c.count) (λ c is. is) volumes ∙ sums_alike volumes volumes (λ s x. sum_by (λ r. delayed_in x.map x.container r) (regions_of x)) (λ s x. delayed_of x.map x.container) (λ s inside. each s (volumes s))
  where
    each : (s : ℕ) (o : Option Holding) → option_map_or (λ x. sum_by (λ r. delayed_in x.map x.container r) (regions_of x)) o 0 ≡ option_map_or (λ x. delayed_of x.map x.container) o 0
    each s None = refl
    each s (Some x) = delayed_sum x.map x.container

-- ---- what is left

module _ (regions : ℕ → ℕ → Bool) (old new : ℕ → Option Holding) (are : AreLeft regions old new) where
  -- a sum over what is left is one over what was
  over_old : (f g : ℕ → Holding → ℕ) → ((s : ℕ) (x y : Holding) → IsLeft (regions s) x y → f s x ≡ g s y) → sum_of old f ≡ sum_of new g
  over_old f g same = sums_alike old new f g (λ s inside. so s inside (old s) refl)
    where
      so : (s : ℕ) → s < 64 → (o : Option Holding) → old s ≡ o → option_map_or (f s) (old s) 0 ≡ option_map_or (g s) (new s) 0
      so s inside None e = ap (λ o. option_map_or (f s) o 0) e ∙ sym (ap (λ o. option_map_or (g s) o 0) (are.free s inside e))
      so s inside (Some x) e =
          let left = are.each s x inside e in
          ap (λ o. option_map_or (f s) o 0) e ∙ same s x left.0 left.1.1 ∙ sym (ap (λ o. option_map_or (g s) o 0) left.1.0)

  -- The delayed entries that are left, and those that were given back, are those that were delayed.
  pub all_left : all_delayed new + all_given regions old ≡ all_delayed old
  unfolding all_delayed all_given slots
  all_left = sym (sums_add left given 0 64) ∙ same_sum (λ s. left s + given s) was 0 64 (λ s low high. so s (omega (arith, high)) (old s) refl)
    where
      left : ℕ → ℕ
      left s = option_map_or (λ y. delayed_of y.map y.container) (new s) 0

      given : ℕ → ℕ
      given s = option_map_or (λ x. count_by (goes_with x.map x.container (regions s)) (range_with_len 0 (length x.container.entries))) (old s) 0

      was : ℕ → ℕ
      was s = option_map_or (λ x. delayed_of x.map x.container) (old s) 0

      so : (s : ℕ) → s < 64 → (o : Option Holding) → old s ≡ o → left s + given s ≡ was s
      so s inside None e =
          let a : left s ≡ 0 = ap (λ o. option_map_or (λ y. delayed_of y.map y.container) o 0) (are.free s inside e) in
          let b : given s ≡ 0 = ap (λ o. option_map_or (λ x. count_by (goes_with x.map x.container (regions s)) (range_with_len 0 (length x.container.entries))) o 0) e in
          let c : was s ≡ 0 = ap (λ o. option_map_or (λ x. delayed_of x.map x.container) o 0) e in
          omega (arith, a, b, c)
      so s inside (Some x) e =
          let at = are.each s x inside e in
          let a : left s ≡ delayed_of at.0.map at.0.container = ap (λ o. option_map_or (λ y. delayed_of y.map y.container) o 0) at.1.0 in
          let b : given s ≡ count_by (goes_with x.map x.container (regions s)) (range_with_len 0 (length x.container.entries)) = ap (λ o. option_map_or (λ x. count_by (goes_with x.map x.container (regions s)) (range_with_len 0 (length x.container.entries))) o 0) e in
          let c : was s ≡ delayed_of x.map x.container = ap (λ o. option_map_or (λ x. delayed_of x.map x.container) o 0) e in
          omega (arith, a, b, c, volume_left (regions s) x at.0 at.1.1)

  -- Where each of the chosen regions is one of those that were reclaimed, so many fewer are left, and what was missing was given back or none is left.
  pub chosen_left : (missing : ℕ) → list_all (λ c. regions c.slot c.region) (chosen (counts_of old) missing) ≡ true
      → (all_delayed new + total (chosen (counts_of old) missing) ≤ all_delayed old) × ((missing ≤ total (chosen (counts_of old) missing)) ⊎ (all_delayed new ≡ 0))
  unfolding all_delayed
  chosen_left missing all =
      let taken = total (chosen (counts_of old) missing) in
      let enough = after_chosen after fewer (counts_of old) missing (none_after (chosen (counts_of old) missing) all) in (
        subst (λ (n : ℕ). n + taken ≤ all_delayed old) sum_after (subst (λ (n : ℕ). sum_by after (counts_of old) + taken ≤ n) (counts_total old) enough.0),
        subst (λ (n : ℕ). (missing ≤ taken) ⊎ (n ≡ 0)) sum_after enough.1,
      )
    where
      after : Count → ℕ
      after c = cond (regions c.slot c.region) 0 c.count

      fewer : (c : Count) → after c ≤ c.count
      fewer c = so (regions c.slot c.region)
        where
          so : (t : Bool) → cond t 0 c.count ≤ c.count
          so true = omega arith
          so false = omega arith

      nothing : (c : Count) → c.count ≡ 0 → after c ≡ 0
      nothing c is = let le = fewer c in omega (arith, le, is)

      none_after : (cs : List Count) → list_all (λ c. regions c.slot c.region) cs ≡ true → sum_by after cs ≡ 0
      none_after [] all = refl
      none_after (c ∷ cs) all =
          let parts = and_parts (regions c.slot c.region) (list_all (λ c. regions c.slot c.region) cs) all in
          let here : after c ≡ 0 = ap (λ (t : Bool). cond t 0 c.count) parts.0 in
          omega (arith, sum_by-cons after c cs, here, none_after cs parts.1)

      sum_after : sum_by after (counts_of old) ≡ all_delayed new
      sum_after = counts_sum after nothing old ∙ over_old (λ s x. sum_by (λ r. after (counted s x r)) (regions_of x)) (λ s y. delayed_of y.map y.container) (λ s x y is.
          same_sum (λ r. after (counted s x r)) (λ r. delayed_in y.map y.container r) 0 (level_width (length x.container.entries) 0) (λ r low high. sym (region_left (regions s) x y is r))
          ∙ ap (λ (n : ℕ). sum_by (delayed_in y.map y.container) (range_with_len 0 (level_width n 0))) (sym is.long)
          ∙ delayed_sum y.map y.container)

-- ---- regions in a list

-- the regions of some counts are in their list
pub each_named : (cs : List Count) → list_all (λ c. has_region (regions_counted cs) c.slot c.region) cs ≡ true
unfolding has_region
each_named cs = named_in (regions_counted cs) cs (λ c is. is)
  where
    named_in : (rs : List Region) (cs : List Count) → ((c : Count) → has_region (regions_counted cs) c.slot c.region ≡ true → has_region rs c.slot c.region ≡ true) → list_all (λ c. has_region rs c.slot c.region) cs ≡ true
    named_in rs [] within = refl
    named_in rs (c ∷ cs) within =
        let first : (c.slot == c.slot) ≡ true = grind (arith, nat_tests) in
        let second : (c.region == c.region) ≡ true = grind (arith, nat_tests) in
        let here = within c (λ i. (first i && second i) || has_region (regions_counted cs) c.slot c.region) in
        let later = named_in rs cs (λ d is. within d (or_right ((c.slot == d.slot) && (c.region == d.region)) (has_region (regions_counted cs) d.slot d.region) is)) in
        λ i. here i && later i

-- ---- of a view

-- The delayed entries of a view's volumes are the view's.
pub view_delayed : (w : View) (volumes : ℕ → Option Holding) → AreHoldingsOf w volumes → all_delayed volumes ≡ delayed w
unfolding all_delayed delayed delayed_of slots vvbns
view_delayed w volumes are = same_sum (λ s. option_map_or (λ x. delayed_of x.map x.container) (volumes s) 0) (λ s. option_map_or (λ h. count_by (views.is_delayed w s h) (vvbns h.span)) (w.head s) 0) 0 64 (λ s low high. so s (omega (arith, high)) (w.head s) refl)
  where
    so : (s : ℕ) → s < 64 → (o : Option Head) → w.head s ≡ o → option_map_or (λ x. delayed_of x.map x.container) (volumes s) 0 ≡ option_map_or (λ h. count_by (views.is_delayed w s h) (vvbns h.span)) (w.head s) 0
    so s inside None e = ap (λ o. option_map_or (λ x. delayed_of x.map x.container) o 0) (are.free s inside e) ∙ sym (ap (λ o. option_map_or (λ h. count_by (views.is_delayed w s h) (vvbns h.span)) o 0) e)
    so s inside (Some h) e =
        let at = are.each s h inside e in
        let x : Holding = at.0 in
        let is : IsHoldingOf w s h x = at.1.1 in
        ap (λ o. option_map_or (λ x. delayed_of x.map x.container) o 0) at.1.0
        ∙ ap (λ (n : ℕ). passing (is_delayed x.map x.container) 0 n) is.long
        ∙ passing_same (is_delayed x.map x.container) (views.is_delayed w s h) 0 0 (entry_count h.span) (λ j lt. same w s h x is (0 + j) (omega (arith, lt)))
        ∙ sym (ap (λ o. option_map_or (λ h. count_by (views.is_delayed w s h) (vvbns h.span)) o 0) e)
      where
        same : (w : View) (s : ℕ) (h : Head) (x : Holding) → IsHoldingOf w s h x → (v : ℕ) → v < entry_count h.span → is_delayed x.map x.container v ≡ views.is_delayed w s h v
        same w s h x is v within = λ i. is.entries v i && not (is.held v within i)
