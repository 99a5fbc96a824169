-- The regions of all volumes, asked of one after another.
use Rattle.std.proofs.Common.{◌≡◌, ℕ, zero, suc, ◌+◌, ◌-◌, ◌<◌, Bool, true, false, cond, not, ◌&&◌, ◌==◌, List, [], ◌∷◌, ◌++◌, filter, map, length, refl, sym, ap, ap₂, ◌∙◌, arith}
use Rattle.std.specs.Prelude.{Option, Some, None, flat_map, nat_lt}
use Rattle.std.specs.List.{list_all, range_with_len}
use Rattle.std.specs.Option.{option_map_or}
use Rattle.std.proofs.lemmas.Bool.{and_left, and_parts}
use Rattle.std.proofs.lemmas.Bool.Decides.{nat_tests}
use Rattle.std.proofs.lemmas.Grind.{flat_map-append}
use Rattle.std.proofs.lemmas.List.{append-nil, append_assoc, map-append}
use Rattle.std.proofs.lemmas.List.Elements.{filter-append}
use Rattle.fv_image.specs.Containers.{level_width}
use Rattle.fv_image.specs.Views.{slots}
use Rattle.fv_delay.specs.declared.counts.Count.{Count}
use Rattle.fv_delay.specs.declared.threshold.Threshold.{Threshold}
use Rattle.fv_delay.specs.Choice.{chosen, regions_counted}
use Rattle.fv_delay.specs.Delay.{delayed_in}
use Rattle.fv_delay.specs.Holding.{Holding, counted, counts_in, counts_of, has_region, has_some}
use Rattle.fv_delay.specs.ByThreshold.{behind, counts_before, counts_front, counts_to, passed, takes, takes_delayed, threshold_for}
use Rattle.fv_delay.proofs.Ascending.{all_counts, counts_ascend}
use Rattle.fv_delay.proofs.ByThreshold.{behind_append, chosen_at, chosen_none}

-- ---- numbers in front of one, and behind it

-- a row of numbers from `a` on
range_parts : (a n k : ℕ) → k < n → range_with_len a n ≡ range_with_len a k ++ (a + k) ∷ range_with_len ((a + k) + 1) (n - k - 1)
range_parts a zero k lt = absurd (omega (arith, lt))
range_parts a (suc n) zero lt = ap₂ (λ (at m : ℕ). at ∷ range_with_len (at + 1) m) (omega arith) (omega arith)
range_parts a (suc n) (suc k) lt =
    ap (λ (row : List ℕ). a ∷ row) (range_parts (a + 1) n k (omega (arith, lt)))
    ∙ ap₂ (λ (at m : ℕ). a ∷ (range_with_len (a + 1) k ++ at ∷ range_with_len (at + 1) m)) (omega arith) (omega arith)

-- those from zero on
pub from_zero : (n k : ℕ) → k < n → range_with_len 0 n ≡ range_with_len 0 k ++ k ∷ range_with_len (k + 1) (n - k - 1)
from_zero n k lt = range_parts 0 n k lt ∙ ap (λ (at : ℕ). range_with_len 0 k ++ at ∷ range_with_len (at + 1) (n - k - 1)) (omega arith)

-- ---- the counts in front of a region, and behind it

-- the counts of its volume
volume_parts : (s : ℕ) (x : Holding) (n r : ℕ) → r < n → has_some (counted s x r) ≡ true
    → filter has_some (map (counted s x) (range_with_len 0 n))
    ≡ filter has_some (map (counted s x) (range_with_len 0 r)) ++ counted s x r ∷ filter has_some (map (counted s x) (range_with_len (r + 1) (n - r - 1)))
volume_parts s x n r lt some =
    let rest : List Count = map (counted s x) (range_with_len (r + 1) (n - r - 1)) in
    ap (λ (rs : List ℕ). filter has_some (map (counted s x) rs)) (from_zero n r lt)
    ∙ ap (filter has_some) (map-append (counted s x) (range_with_len 0 r) (r ∷ range_with_len (r + 1) (n - r - 1)))
    ∙ filter-append has_some (map (counted s x) (range_with_len 0 r)) (counted s x r ∷ rest)
    ∙ ap (λ (t : Bool). filter has_some (map (counted s x) (range_with_len 0 r)) ++ cond t (counted s x r ∷ filter has_some rest) (filter has_some rest)) some

-- a volume, or another where there is none
abbrev option_or : Holding → Option Holding → Holding
option_or d None = d
option_or d (Some y) = y

module _ (volumes : ℕ → Option Holding) (s : ℕ) (x : Holding) (r : ℕ) where
  -- the counts of a slot
  abbrev part : ℕ → List Count
  part k = option_map_or (counts_in k) (volumes k) []

  -- those behind the region
  abbrev counts_past : List Count
  counts_past =
      filter has_some (map (counted s x) (range_with_len (r + 1) (level_width (length x.container.entries) 0 - r - 1))) ++ flat_map part (range_with_len (s + 1) (64 - s - 1))

  -- the counts of all volumes
  all_parts : volumes s ≡ Some x → s < 64 → r < level_width (length x.container.entries) 0 → has_some (counted s x r) ≡ true
      → counts_of volumes ≡ counts_to volumes s x r ++ counted s x r ∷ counts_past
  unfolding counts_of counts_in counts_before counts_to slots
  all_parts is inside within some =
      let width : ℕ = level_width (length x.container.entries) 0 in
      let before : List Count = flat_map part (range_with_len 0 s) in
      let after : List Count = flat_map part (range_with_len (s + 1) (64 - s - 1)) in
      let first : List Count = filter has_some (map (counted s x) (range_with_len 0 r)) in
      let last : List Count = filter has_some (map (counted s x) (range_with_len (r + 1) (width - r - 1))) in
      ap (flat_map part) (from_zero 64 s inside)
      ∙ flat_map-append part (range_with_len 0 s) (s ∷ range_with_len (s + 1) (64 - s - 1))
      ∙ ap (λ (o : Option Holding). before ++ (option_map_or (counts_in s) o [] ++ after)) is
      ∙ ap (λ (row : List Count). before ++ (row ++ after)) (volume_parts s x width r within some)
      ∙ ap (λ (row : List Count). before ++ row) (append_assoc first (counted s x r ∷ last) after)
      ∙ sym (append_assoc before first (counted s x r ∷ (last ++ after)))

  -- a region with delayed entries
  some_chosen : (missing : ℕ) → volumes s ≡ Some x → s < 64 → r < level_width (length x.container.entries) 0 → 0 < delayed_in x.map x.container r
      → takes (behind (threshold_for (counts_of volumes) missing) (counts_to volumes s x r)) (delayed_in x.map x.container r)
      ≡ has_region (regions_counted (chosen (counts_of volumes) missing)) s r
  some_chosen missing is inside within some =
      let test : has_some (counted s x r) ≡ true = grind (arith, nat_tests, some) in
      chosen_at (counts_of volumes) missing (counts_to volumes s x r) (counted s x r) counts_past (all_parts is inside within test) (counts_ascend volumes)

  -- none is at the place of a region without
  nothing_there : volumes s ≡ Some x → delayed_in x.map x.container r ≡ 0 → list_all (λ c. not ((c.slot == s) && (c.region == r))) (counts_of volumes) ≡ true
  nothing_there is none = all_counts volumes (λ c. not ((c.slot == s) && (c.region == r))) each
    where
      each : (k : ℕ) (y : Holding) (q : ℕ) → volumes k ≡ Some y → has_some (counted k y q) ≡ true → not ((k == s) && (q == r)) ≡ true
      each k y q at some = so ((k == s) && (q == r)) refl
        where
          so : (t : Bool) → ((k == s) && (q == r)) ≡ t → not t ≡ true
          so false e = refl
          so true e =
              let both = and_parts (k == s) (q == r) e in
              let slot : k ≡ s = (let test = both.0 in grind (arith, nat_tests, test)) in
              let region : q ≡ r = (let test = both.1 in grind (arith, nat_tests, test)) in
              let same : Some y ≡ Some x = sym at ∙ ap volumes slot ∙ is in
              let held : y ≡ x = ap (option_or x) same in
              let count : delayed_in y.map y.container q ≡ 0 = ap₂ (λ (h : Holding) (n : ℕ). delayed_in h.map h.container n) held region ∙ none in
              let more : 0 < delayed_in y.map y.container q = grind (arith, nat_tests, some) in
              absurd (omega (arith, count, more))

  -- The threshold for all regions, asked of those in front of a region and then of it, takes it just where it is chosen.
  pub chosen_region : (missing : ℕ) → volumes s ≡ Some x → s < 64 → r < level_width (length x.container.entries) 0
      → takes_delayed (behind (threshold_for (counts_of volumes) missing) (counts_to volumes s x r)) (delayed_in x.map x.container r)
      ≡ has_region (regions_counted (chosen (counts_of volumes) missing)) s r
  chosen_region missing is inside within = so (has_some (counted s x r)) refl
    where
      t : Threshold
      t = behind (threshold_for (counts_of volumes) missing) (counts_to volumes s x r)

      so : (b : Bool) → has_some (counted s x r) ≡ b → takes_delayed t (delayed_in x.map x.container r) ≡ has_region (regions_counted (chosen (counts_of volumes) missing)) s r
      so true e =
          let some : 0 < delayed_in x.map x.container r = grind (arith, nat_tests, e) in
          let test : nat_lt 0 (delayed_in x.map x.container r) ≡ true = grind (arith, nat_tests, some) in
          ap (λ (b : Bool). b && takes t (delayed_in x.map x.container r)) test ∙ some_chosen missing is inside within some
      so false e =
          let none : delayed_in x.map x.container r ≡ 0 = grind (arith, nat_tests, e) in
          let test : nat_lt 0 (delayed_in x.map x.container r) ≡ false = grind (arith, nat_tests, none) in
          and_left (nat_lt 0 (delayed_in x.map x.container r)) (takes t (delayed_in x.map x.container r)) test
          ∙ sym (chosen_none (counts_of volumes) missing s r (counts_ascend volumes) (nothing_there is none))

-- ---- from one region to the next

-- numbers up to one more
one_more : (k : ℕ) → range_with_len 0 (k + 1) ≡ range_with_len 0 k ++ k ∷ []
one_more k =
    let none : k + 1 - k - 1 ≡ 0 = omega arith in
    from_zero (k + 1) k (omega arith) ∙ ap (λ (m : ℕ). range_with_len 0 k ++ k ∷ range_with_len (k + 1) m) none

-- a region without delayed entries leaves the threshold
pub passed_none : (t : Threshold) (n : ℕ) → n ≡ 0 → t ≡ passed t n
passed_none t n none = so (n == t.count)
  where
    left : t.left ≡ t.left - n
    left = omega (arith, none)

    so : (b : Bool) → t ≡ cond b (record t { left = t.left - n }) t
    so true = λ i. record { count = t.count; left = left i }
    so false = refl

-- one region more
behind_one : (t : Threshold) (c : Count) → behind t (filter has_some (c ∷ [])) ≡ passed t c.count
unfolding behind
behind_one t c = so (has_some c) refl
  where
    so : (b : Bool) → has_some c ≡ b → behind t (cond b (c ∷ []) []) ≡ passed t c.count
    so true e = refl
    so false e = passed_none t c.count (grind (arith, nat_tests, e))

-- those of a volume in front of the next region
front_more : (s : ℕ) (x : Holding) (r : ℕ) → counts_front s x (r + 1) ≡ counts_front s x r ++ filter has_some (counted s x r ∷ [])
front_more s x r =
    ap (λ (rs : List ℕ). filter has_some (map (counted s x) rs)) (one_more r)
    ∙ ap (filter has_some) (map-append (counted s x) (range_with_len 0 r) (r ∷ []))
    ∙ filter-append has_some (map (counted s x) (range_with_len 0 r)) (counted s x r ∷ [])

-- They are one more where it has delayed entries, and otherwise the same.
pub front_some : (s : ℕ) (x : Holding) (r : ℕ) → 0 < delayed_in x.map x.container r → counts_front s x (r + 1) ≡ counts_front s x r ++ counted s x r ∷ []
front_some s x r some =
    let test : has_some (counted s x r) ≡ true = grind (arith, nat_tests, some) in
    front_more s x r ∙ ap (λ (t : Bool). counts_front s x r ++ cond t (counted s x r ∷ []) []) test

pub front_none : (s : ℕ) (x : Holding) (r : ℕ) → delayed_in x.map x.container r ≡ 0 → counts_front s x (r + 1) ≡ counts_front s x r
front_none s x r none =
    let test : has_some (counted s x r) ≡ false = grind (arith, nat_tests, none) in
    front_more s x r ∙ ap (λ (t : Bool). counts_front s x r ++ cond t (counted s x r ∷ []) []) test ∙ append-nil (counts_front s x r)

-- The threshold behind a region of a volume is what it was in front of it, passed by the region's delayed entries.
pub behind_front : (t : Threshold) (s : ℕ) (x : Holding) (r : ℕ) → behind t (counts_front s x (r + 1)) ≡ passed (behind t (counts_front s x r)) (delayed_in x.map x.container r)
behind_front t s x r =
    ap (behind t) (front_more s x r)
    ∙ behind_append t (counts_front s x r) (filter has_some (counted s x r ∷ []))
    ∙ behind_one (behind t (counts_front s x r)) (counted s x r)

module _ (volumes : ℕ → Option Holding) (t : Threshold) (s : ℕ) where
  -- And so it is behind all regions before.
  pub behind_region : (x : Holding) (r : ℕ) → behind t (counts_to volumes s x (r + 1)) ≡ passed (behind t (counts_to volumes s x r)) (delayed_in x.map x.container r)
  unfolding counts_to
  behind_region x r =
      let before : List Count = counts_before volumes s in
      behind_append t before (counts_front s x (r + 1))
      ∙ behind_front (behind t before) s x r
      ∙ ap (λ (k : Threshold). passed k (delayed_in x.map x.container r)) (sym (behind_append t before (counts_front s x r)))

  -- one slot more
  slot_more : counts_before volumes (s + 1) ≡ counts_before volumes s ++ option_map_or (counts_in s) (volumes s) []
  unfolding counts_before
  slot_more =
      ap (flat_map (λ k. option_map_or (counts_in k) (volumes k) [])) (one_more s)
      ∙ flat_map-append (λ k. option_map_or (counts_in k) (volumes k) []) (range_with_len 0 s) (s ∷ [])
      ∙ ap (λ (row : List Count). counts_before volumes s ++ row) (append-nil (option_map_or (counts_in s) (volumes s) []))

  -- The threshold behind a slot is what it was in front of it, behind the regions of its volume.
  pub behind_slot : behind t (counts_before volumes (s + 1)) ≡ behind (behind t (counts_before volumes s)) (option_map_or (counts_in s) (volumes s) [])
  behind_slot = ap (behind t) slot_more ∙ behind_append t (counts_before volumes s) (option_map_or (counts_in s) (volumes s) [])

  -- Behind a volume's last region it is what it is behind its slot.
  pub behind_volume : (x : Holding) → volumes s ≡ Some x → behind t (counts_to volumes s x (level_width (length x.container.entries) 0)) ≡ behind t (counts_before volumes (s + 1))
  unfolding counts_to counts_in
  behind_volume x is =
      ap (behind t) (sym (slot_more ∙ ap (λ (o : Option Holding). counts_before volumes s ++ option_map_or (counts_in s) o []) is))

  -- And a slot without a volume leaves it.
  pub behind_empty : volumes s ≡ None → behind t (counts_before volumes s) ≡ behind t (counts_before volumes (s + 1))
  behind_empty is =
      ap (behind t) (sym (slot_more ∙ ap (λ (o : Option Holding). counts_before volumes s ++ option_map_or (counts_in s) o []) is ∙ append-nil (counts_before volumes s)))
