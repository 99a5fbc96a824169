-- The regions of one volume, asked of by a threshold from the first one on.
use Rattle.std.proofs.Common.{◌≡◌, ℕ, zero, suc, ◌+◌, ◌-◌, ◌<◌, ◌≤◌, min, Bool, true, false, cond, not, ◌||◌, ◌==◌, List, [], ◌∷◌, ◌++◌, filter, length, map, refl, sym, ap, ap₂, subst, ◌∙◌, arith}
use Rattle.std.specs.Prelude.{Option, Some, flat_map, nat_lt, nat_le}
use Rattle.std.specs.List.{list_all, list_any, range_with_len}
use Rattle.std.specs.Option.{option_map_or}
use Rattle.std.proofs.lemmas.Bool.{and_from, and_parts, both_ways, or_left}
use Rattle.std.proofs.lemmas.Bool.Decides.{nat_tests}
use Rattle.std.proofs.lemmas.Grind.{flat_map-append}
use Rattle.std.proofs.lemmas.List.Folds.{list_any-append}
use Rattle.std.proofs.lemmas.List.Sums.{sum_by-cons}
use Rattle.fv_image.specs.Containers.{level_width}
use Rattle.fv_image.specs.Views.{slots}
use Rattle.fv_aggmap.specs.Space.{Space}
use Rattle.fv_container.specs.Mapped.{Mapped}
use Rattle.fv_container.specs.Paged.{Paged}
use Rattle.fv_delay.specs.declared.counts.Count.{Count}
use Rattle.fv_delay.specs.declared.threshold.Table.{Table}
use Rattle.fv_delay.specs.declared.threshold.Threshold.{Threshold}
use Rattle.fv_delay.specs.Choice.{chosen, regions_counted, total}
use Rattle.fv_delay.specs.Delay.{delayed_in}
use Rattle.fv_delay.specs.Holding.{Holding, IsLeft, counted, counts_in, counts_of, has_region, has_some, regions_of}
use Rattle.fv_delay.specs.Reclaims.{HasReclaimed}
use Rattle.fv_delay.specs.ByThreshold.{IsTable, TakesAll, behind, counts_before, counts_front, counts_to, most_blocks, passed, taken_by, taken_in, takes, takes_delayed, takes_some, threshold_for}
use Rattle.fv_delay.proofs.AllVolumes.{sum_some}
use Rattle.fv_delay.proofs.Ascending.{all_counts, all_part, all_slots, counts_ascend, part}
use Rattle.fv_delay.proofs.ByThreshold.{any_counted, any_taken, behind_append, taken_append, taken_none}
use Rattle.fv_delay.proofs.Left.{none_left, others_left}
use Rattle.fv_delay.proofs.Passing.{longer}
use Rattle.fv_delay.proofs.Reclaimed.{reclaimed_same}
use Rattle.fv_delay.proofs.Walking.{chosen_region, from_zero}

-- ---- the counts

filter_some : (cs : List Count) → list_all has_some (filter has_some cs) ≡ true
filter_some [] = refl
filter_some (c ∷ cs) = so (has_some c) refl (filter_some cs)
  where
    so : (t : Bool) → has_some c ≡ t → list_all has_some (filter has_some cs) ≡ true → list_all has_some (cond t (c ∷ filter has_some cs) (filter has_some cs)) ≡ true
    so true e rest = and_from (has_some c) (list_all has_some (filter has_some cs)) e rest
    so false e rest = rest

-- Each counted region of a volume has delayed entries,
pub counts_some : (slot : ℕ) (x : Holding) → list_all has_some (counts_in slot x) ≡ true
unfolding counts_in
counts_some slot x = filter_some (map (counted slot x) (regions_of x))

-- and of all volumes.
pub all_counts_some : (volumes : ℕ → Option Holding) → list_all has_some (counts_of volumes) ≡ true
all_counts_some volumes = all_counts volumes has_some (λ s x r is some. some)

-- regions without delayed entries aren't counted
nothing_counted : (s : ℕ) (x : Holding) (from count : ℕ) → ((r : ℕ) → from ≤ r → r < from + count → delayed_in x.map x.container r ≡ 0) → filter has_some (map (counted s x) (range_with_len from count)) ≡ []
nothing_counted s x from zero none = refl
nothing_counted s x from (suc count) none =
    let nothing : delayed_in x.map x.container from ≡ 0 = none from (omega arith) (omega arith) in
    let test : has_some (counted s x from) ≡ false = grind (arith, nat_tests, nothing) in
    let row : List Count = filter has_some (map (counted s x) (range_with_len (from + 1) count)) in
    ap (λ (t : Bool). cond t (counted s x from ∷ row) row) test
    ∙ nothing_counted s x (from + 1) count (λ r low high. none r (omega (arith, low)) (omega (arith, high)))

-- ---- the slot doesn't matter

-- to a threshold,
pub behind_any_slot : (t : Threshold) (s : ℕ) (x : Holding) (r : ℕ) → behind t (counts_front 0 x r) ≡ behind t (counts_front s x r)
unfolding behind
behind_any_slot t s x r = rows (range_with_len 0 r) t
  where
    row : ℕ → List ℕ → List Count
    row k rs = filter has_some (map (counted k x) rs)

    rows : (rs : List ℕ) (t : Threshold) → behind t (row 0 rs) ≡ behind t (row s rs)
    rows [] t = refl
    rows (r ∷ rs) t = so (has_some (counted 0 x r)) (rows rs)
      where
        so : (b : Bool) → ((t : Threshold) → behind t (row 0 rs) ≡ behind t (row s rs)) → behind t (cond b (counted 0 x r ∷ row 0 rs) (row 0 rs)) ≡ behind t (cond b (counted s x r ∷ row s rs) (row s rs))
        so true rest = rest (passed t (delayed_in x.map x.container r))
        so false rest = rest t

-- and to the sum of those whose number passes a test.
sums_any_slot : (p : ℕ → Bool) (s : ℕ) (x : Holding) (rs : List ℕ)
    → total (filter (λ c. p c.count) (filter has_some (map (counted 0 x) rs))) ≡ total (filter (λ c. p c.count) (filter has_some (map (counted s x) rs)))
sums_any_slot p s x [] = refl
sums_any_slot p s x (r ∷ rs) = so (has_some (counted 0 x r)) (sums_any_slot p s x rs)
  where
    row : ℕ → List Count
    row k = filter has_some (map (counted k x) rs)

    passing : ℕ → List Count
    passing k = filter (λ c. p c.count) (row k)

    one_more : (k : ℕ) (b : Bool) → total (cond b (counted k x r ∷ passing k) (passing k)) ≡ cond b (delayed_in x.map x.container r) 0 + total (passing k)
    one_more k true = sum_by-cons (λ (c : Count). c.count) (counted k x r) (passing k)
    one_more k false = omega arith

    so : (a : Bool) → total (passing 0) ≡ total (passing s)
        → total (filter (λ c. p c.count) (cond a (counted 0 x r ∷ row 0) (row 0))) ≡ total (filter (λ c. p c.count) (cond a (counted s x r ∷ row s) (row s)))
    so true rest =
        let here : Bool = p (delayed_in x.map x.container r) in
        one_more 0 here ∙ ap (λ (n : ℕ). cond here (delayed_in x.map x.container r) 0 + n) rest ∙ sym (one_more s here)
    so false rest = rest

-- So a table of a volume's regions is one of them in each slot.
pub table_any_slot : (table : Table) (s : ℕ) (x : Holding) → IsTable table (counts_in 0 x) → IsTable table (counts_in s x)
unfolding counts_in
table_any_slot table s x is = record {
  all = is.all ∙ ap (λ (n : ℕ). min n most_blocks) (sum_some (λ c. c.count) (λ c is. is) (counted 0 x) (regions_of x) ∙ sym (sum_some (λ c. c.count) (λ c is. is) (counted s x) (regions_of x)));
  full = is.full ∙ ap (λ (n : ℕ). min n most_blocks) (sums_any_slot (λ n. nat_le 64 n) s x (regions_of x));
  partial = λ n d lt. is.partial n d lt ∙ ap (λ (n : ℕ). min n most_blocks) (sums_any_slot (λ k. k == n) s x (regions_of x));
}

-- ---- a volume among all

module _ (volumes : ℕ → Option Holding) (s : ℕ) (x : Holding) where
  -- A region of a volume is taken just where it is chosen.
  pub taken_chosen : (r missing : ℕ) → volumes s ≡ Some x → s < 64 → r < level_width (length x.container.entries) 0
      → taken_in (behind (threshold_for (counts_of volumes) missing) (counts_before volumes s)) x r ≡ has_region (regions_counted (chosen (counts_of volumes) missing)) s r
  unfolding taken_in counts_to
  taken_chosen r missing is inside within =
      let t : Threshold = threshold_for (counts_of volumes) missing in
      ap (λ (k : Threshold). takes_delayed k (delayed_in x.map x.container r))
      (behind_any_slot (behind t (counts_before volumes s)) s x r ∙ sym (behind_append t (counts_before volumes s) (counts_front s x r)))
      ∙ chosen_region volumes s x r missing is inside within

  -- So the reclaim of the regions that are taken is one of those that are chosen.
  pub chosen_reclaimed : (missing : ℕ) → volumes s ≡ Some x → s < 64 → (old new : Paged) → old.map ≡ x.container → (space left : Space)
      → HasReclaimed x.map (taken_in (behind (threshold_for (counts_of volumes) missing) (counts_before volumes s)) x) old space new left
      → HasReclaimed x.map (has_region (regions_counted (chosen (counts_of volumes) missing)) s) old space new left
  chosen_reclaimed missing is inside old new same space left has =
      reclaimed_same x.map (taken_in (behind (threshold_for (counts_of volumes) missing) (counts_before volumes s)) x) (has_region (regions_counted (chosen (counts_of volumes) missing)) s)
      old new space left (λ r within. sym (taken_chosen r missing is inside (subst (λ (m : Mapped). r < level_width (length m.entries) 0) same within))) has

  -- the counts of the slots behind
  abbrev past : List Count
  past = flat_map (part volumes) (range_with_len (s + 1) (64 - s - 1))

  -- the counts of all volumes
  three_parts : s < 64 → counts_of volumes ≡ counts_before volumes s ++ (part volumes s ++ past)
  unfolding counts_of counts_before slots
  three_parts inside =
      ap (flat_map (part volumes)) (from_zero 64 s inside)
      ∙ flat_map-append (part volumes) (range_with_len 0 s) (s ∷ range_with_len (s + 1) (64 - s - 1))

  -- whether a count is of the slot
  abbrev is_here : Count → Bool
  is_here c = c.slot == s

  -- a number isn't another one
  apart : (k : ℕ) → k < s → not (k == s) ≡ true
  apart k lt = ap not (let test : (k == s) ≡ false = grind (arith, nat_tests, lt) in test)

  apart_past : (k : ℕ) → s < k → not (k == s) ≡ true
  apart_past k lt = ap not (let test : (k == s) ≡ false = grind (arith, nat_tests, lt) in test)

  none_before : list_all (λ c. not (is_here c)) (counts_before volumes s) ≡ true
  unfolding counts_before
  none_before = all_slots volumes (λ c. not (is_here c)) 0 s (λ k y r low high is some. apart k (omega (arith, high)))

  none_past : list_all (λ c. not (is_here c)) past ≡ true
  none_past = all_slots volumes (λ c. not (is_here c)) (s + 1) (64 - s - 1) (λ k y r low high is some. apart_past k (omega (arith, low)))

  all_here : list_all is_here (part volumes s) ≡ true
  all_here = all_part volumes is_here s (λ y r is some. grind (arith, nat_tests))

  -- of regions that are all of the slot some are taken where one of the slot is
  taken_here : (t : Threshold) (cs : List Count) → list_all is_here cs ≡ true → list_any is_here (taken_by t cs) ≡ takes_some t cs
  unfolding taken_by
  taken_here t [] all = refl
  taken_here t (c ∷ cs) all = so (takes t c.count) (taken_here (passed t c.count) cs parts.1)
    where
      parts : (is_here c ≡ true) × (list_all is_here cs ≡ true)
      parts = and_parts (is_here c) (list_all is_here cs) all

      row : List Count
      row = taken_by (passed t c.count) cs

      so : (b : Bool) → list_any is_here row ≡ nat_lt 0 (length row) → list_any is_here (cond b (c ∷ row) row) ≡ nat_lt 0 (length (cond b (c ∷ row) row))
      so true rest = or_left (is_here c) (list_any is_here row) parts.0 ∙ sym (longer c row)
      so false rest = rest

  -- Some region of a volume is taken just where some region of its slot is chosen.
  pub slot_chosen : (missing : ℕ) → volumes s ≡ Some x → s < 64
      → takes_some (behind (threshold_for (counts_of volumes) missing) (counts_before volumes s)) (counts_in s x) ≡ list_any (λ r. r.slot == s) (regions_counted (chosen (counts_of volumes) missing))
  slot_chosen missing is inside = sym (all_of ∙ ap₂ (λ (a c : Bool). a || (list_any is_here (taken_by (behind t before) here) || c)) first last ∙ tidy (list_any is_here (taken_by (behind t before) here)) ∙ taken_here (behind t before) here all_here
      ∙ ap (λ (o : Option Holding). takes_some (behind t before) (option_map_or (counts_in s) o [])) is)
    where
      t : Threshold
      t = threshold_for (counts_of volumes) missing

      before : List Count
      before = counts_before volumes s

      here : List Count
      here = part volumes s

      first : list_any is_here (taken_by t before) ≡ false
      first = taken_none is_here t before none_before

      last : list_any is_here (taken_by (behind (behind t before) here) past) ≡ false
      last = taken_none is_here (behind (behind t before) here) past none_past

      tidy : (b : Bool) → (false || (b || false)) ≡ b
      tidy true = refl
      tidy false = refl

      all_of : list_any (λ r. r.slot == s) (regions_counted (chosen (counts_of volumes) missing))
          ≡ (list_any is_here (taken_by t before) || (list_any is_here (taken_by (behind t before) here) || list_any is_here (taken_by (behind (behind t before) here) past)))
      all_of =
          sym (any_taken (λ r. r.slot == s) (counts_of volumes) missing (counts_ascend volumes))
          ∙ any_counted (λ r. r.slot == s) (taken_by t (counts_of volumes))
          ∙ ap (λ (row : List Count). list_any is_here (taken_by t row)) (three_parts inside)
          ∙ ap (list_any is_here) (taken_append t before (here ++ past))
          ∙ list_any-append is_here (taken_by t before) (taken_by (behind t before) (here ++ past))
          ∙ ap (λ (b : Bool). list_any is_here (taken_by t before) || b)
          (ap (list_any is_here) (taken_append (behind t before) here past)
          ∙ list_any-append is_here (taken_by (behind t before) here) (taken_by (behind (behind t before) here) past))

-- ---- where all are taken

-- Where each region with delayed entries was taken no region of what is left has any.
pub all_taken : (t : Threshold) (s : ℕ) (x y : Holding) → TakesAll t x → IsLeft (taken_in t x) x y → counts_in s y ≡ []
unfolding counts_in
all_taken t s x y all is = nothing_counted s y 0 (level_width (length y.container.entries) 0) (λ r low high. each r (subst (λ (n : ℕ). r < 0 + level_width n 0) is.long high))
  where
    each : (r : ℕ) → r < 0 + level_width (length x.container.entries) 0 → delayed_in y.map y.container r ≡ 0
    each r high = so (taken_in t x r) refl
      where
        within : r < level_width (length x.container.entries) 0
        within = omega (arith, high)

        so : (b : Bool) → taken_in t x r ≡ b → delayed_in y.map y.container r ≡ 0
        so true e = none_left (taken_in t x) x y is r e
        so false e = others_left (taken_in t x) x y is r e ∙ nothing (nat_lt 0 (delayed_in x.map x.container r)) refl
          where
            nothing : (b : Bool) → nat_lt 0 (delayed_in x.map x.container r) ≡ b → delayed_in x.map x.container r ≡ 0
            nothing true some = absurd (both_ways (taken_in t x r) e (all r within (let more : 0 < delayed_in x.map x.container r = grind (arith, nat_tests, some) in more)))
            nothing false none = grind (arith, nat_tests, none)
