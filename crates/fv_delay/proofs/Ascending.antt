-- The counts of all volumes stand in the order of slots and numbers.
use Rattle.std.proofs.Common.{◌≡◌, ℕ, zero, suc, ◌+◌, ◌<◌, ◌≤◌, Bool, true, false, cond, ◌&&◌, ◌==◌, List, [], ◌∷◌, ◌++◌, filter, map, refl, sym, ap, ap₂, ◌∙◌, arith}
use Rattle.std.specs.Prelude.{Option, Some, None, flat_map, nat_lt}
use Rattle.std.specs.List.{list_all, range_with_len}
use Rattle.std.specs.Option.{option_map_or}
use Rattle.std.specs.declared.cmp.Ordering.{Ordering}
use Rattle.std.specs.declared.cmp.Ordering.TheVariants.{Less, Equal, Greater}
use Rattle.std.specs.Ordering.{is_lt, nat_cmp, ordering_then}
use Rattle.std.proofs.lemmas.Bool.{and_from, and_parts}
use Rattle.std.proofs.lemmas.Cmp.{nat_cmp_total, tied_itself}
use Rattle.std.proofs.lemmas.Bool.Decides.{nat_tests}
use Rattle.std.proofs.lemmas.List.Folds.{list_all-append}
use Rattle.fv_image.specs.Views.{slots}
use Rattle.fv_delay.specs.declared.counts.Count.{Count}
use Rattle.fv_delay.specs.Holding.{Holding, counted, counts_in, counts_of, has_some}
use Rattle.fv_delay.specs.ByThreshold.{ascends, is_before}

-- ---- which of two is before the other

-- the lesser of two numbers
lesser : (a b : ℕ) → a < b → nat_cmp a b ≡ Less
lesser a b lt =
    let less : nat_lt a b ≡ true = grind (arith, nat_tests, lt) in
    ap (λ (s : Bool). cond s Less (cond (a == b) Equal Greater)) less

-- one of an earlier slot is before
later_slot : (d c : Count) → c.slot < d.slot → is_before c d ≡ true
later_slot d c lt = ap (λ (o : Ordering). is_lt (ordering_then o (nat_cmp c.region d.region))) (lesser c.slot d.slot lt)

-- and one of the same slot with a lesser number
later_region : (x : Holding) (s r k : ℕ) → k < r → is_before (counted s x k) (counted s x r) ≡ true
later_region x s r k lt = ap₂ (λ (o p : Ordering). is_lt (ordering_then o p)) (tied_itself nat_cmp_total s) (lesser k r lt)

-- one that is before another has another place
pub other_place : (c d : Count) → is_before c d ≡ true → ((c.slot == d.slot) && (c.region == d.region)) ≡ false
other_place c d first = so ((c.slot == d.slot) && (c.region == d.region)) refl
  where
    so : (t : Bool) → ((c.slot == d.slot) && (c.region == d.region)) ≡ t → t ≡ false
    so true e =
        let both = and_parts (c.slot == d.slot) (c.region == d.region) e in
        let slot : c.slot ≡ d.slot = (let test = both.0 in grind (arith, nat_tests, test)) in
        let region : c.region ≡ d.region = (let test = both.1 in grind (arith, nat_tests, test)) in
        sym first
        ∙ ap₂ (λ (s r : ℕ). is_lt (ordering_then (nat_cmp s d.slot) (nat_cmp r d.region))) slot region
        ∙ ap₂ (λ (o p : Ordering). is_lt (ordering_then o p)) (tied_itself nat_cmp_total d.slot) (tied_itself nat_cmp_total d.region)
    so false e = refl

-- ---- the counts of a volume

-- what holds of each region's count holds of all that have delayed entries
all_counted : (p : Count → Bool) (s : ℕ) (x : Holding) (from count : ℕ) → ((r : ℕ) → from ≤ r → has_some (counted s x r) ≡ true → p (counted s x r) ≡ true)
    → list_all p (filter has_some (map (counted s x) (range_with_len from count))) ≡ true
all_counted p s x from zero each = refl
all_counted p s x from (suc count) each = so (has_some (counted s x from)) refl (all_counted p s x (from + 1) count (λ r le some. each r (omega (arith, le)) some))
  where
    row : List Count
    row = filter has_some (map (counted s x) (range_with_len (from + 1) count))

    so : (t : Bool) → has_some (counted s x from) ≡ t → list_all p row ≡ true → list_all p (cond t (counted s x from ∷ row) row) ≡ true
    so true e rest = and_from (p (counted s x from)) (list_all p row) (each from (omega arith) e) rest
    so false e rest = rest

-- those of one volume stand in the order of their numbers
regions_ascend : (s : ℕ) (x : Holding) (from count : ℕ) → ascends (filter has_some (map (counted s x) (range_with_len from count))) ≡ true
regions_ascend s x from zero = refl
regions_ascend s x from (suc count) = so (has_some (counted s x from)) (regions_ascend s x (from + 1) count)
  where
    row : List Count
    row = filter has_some (map (counted s x) (range_with_len (from + 1) count))

    so : (t : Bool) → ascends row ≡ true → ascends (cond t (counted s x from ∷ row) row) ≡ true
    so true rest =
        and_from (list_all (λ d. is_before (counted s x from) d) row) (ascends row)
        (all_counted (λ d. is_before (counted s x from) d) s x (from + 1) count (λ r le some. later_region x s r from (omega (arith, le))))
        rest
    so false rest = rest

-- ---- the counts of all volumes

-- two rows that ascend, each of the first before all of the second
ascends_append : (xs ys : List Count) → ascends xs ≡ true → ascends ys ≡ true → list_all (λ x. list_all (λ d. is_before x d) ys) xs ≡ true → ascends (xs ++ ys) ≡ true
ascends_append [] ys first second between = second
ascends_append (x ∷ xs) ys first second between =
    let one = and_parts (list_all (λ d. is_before x d) xs) (ascends xs) first in
    let past = and_parts (list_all (λ d. is_before x d) ys) (list_all (λ x. list_all (λ d. is_before x d) ys) xs) between in
    and_from (list_all (λ d. is_before x d) (xs ++ ys)) (ascends (xs ++ ys))
    (list_all-append (λ d. is_before x d) xs ys ∙ and_from (list_all (λ d. is_before x d) xs) (list_all (λ d. is_before x d) ys) one.0 past.0)
    (ascends_append xs ys one.1 second past.1)

module _ (volumes : ℕ → Option Holding) where
  -- the counts of a slot
  abbrev pub part : ℕ → List Count
  part s = option_map_or (counts_in s) (volumes s) []

  -- what holds of each count of a slot
  pub all_part : (p : Count → Bool) (s : ℕ) → ((x : Holding) (r : ℕ) → volumes s ≡ Some x → has_some (counted s x r) ≡ true → p (counted s x r) ≡ true) → list_all p (part s) ≡ true
  unfolding counts_in
  all_part p s each = so (volumes s) refl
    where
      so : (o : Option Holding) → volumes s ≡ o → list_all p (option_map_or (counts_in s) o []) ≡ true
      so None e = refl
      so (Some x) e = all_counted p s x 0 _ (λ r le some. each x r e some)

  -- What holds of each region with delayed entries of some slots holds of their counts.
  pub all_slots : (p : Count → Bool) (from count : ℕ) → ((s : ℕ) (x : Holding) (r : ℕ) → from ≤ s → s < from + count → volumes s ≡ Some x → has_some (counted s x r) ≡ true → p (counted s x r) ≡ true)
      → list_all p (flat_map part (range_with_len from count)) ≡ true
  all_slots p from zero each = refl
  all_slots p from (suc count) each =
      let rest : List Count = flat_map part (range_with_len (from + 1) count) in
      list_all-append p (part from) rest
      ∙ and_from (list_all p (part from)) (list_all p rest) (all_part p from (λ x r. each from x r (omega arith) (omega arith)))
      (all_slots p (from + 1) count (λ s x r low high. each s x r (omega (arith, low)) (omega (arith, high))))

  -- What holds of each region with delayed entries holds of all counts.
  pub all_counts : (p : Count → Bool) → ((s : ℕ) (x : Holding) (r : ℕ) → volumes s ≡ Some x → has_some (counted s x r) ≡ true → p (counted s x r) ≡ true) → list_all p (counts_of volumes) ≡ true
  unfolding counts_of slots
  all_counts p each = all_slots p 0 64 (λ s x r low high. each s x r)

  -- one of an earlier slot is before all of later ones
  slots_later : (c : Count) (from count : ℕ) → c.slot < from → list_all (λ d. is_before c d) (flat_map part (range_with_len from count)) ≡ true
  slots_later c from zero lt = refl
  slots_later c from (suc count) lt =
      list_all-append (λ d. is_before c d) (part from) (flat_map part (range_with_len (from + 1) count))
      ∙ and_from (list_all (λ d. is_before c d) (part from)) (list_all (λ d. is_before c d) (flat_map part (range_with_len (from + 1) count)))
      (all_part (λ d. is_before c d) from (λ x r is some. later_slot (counted from x r) c lt))
      (slots_later c (from + 1) count (omega (arith, lt)))

  -- the counts of a slot ascend
  part_ascends : (s : ℕ) → ascends (part s) ≡ true
  unfolding counts_in
  part_ascends s = so (volumes s)
    where
      so : (o : Option Holding) → ascends (option_map_or (counts_in s) o []) ≡ true
      so None = refl
      so (Some x) = regions_ascend s x 0 _

  -- and those of slot after slot
  slots_ascend : (from count : ℕ) → ascends (flat_map part (range_with_len from count)) ≡ true
  slots_ascend from zero = refl
  slots_ascend from (suc count) =
      let rest : List Count = flat_map part (range_with_len (from + 1) count) in
      ascends_append (part from) rest (part_ascends from) (slots_ascend (from + 1) count)
      (all_part (λ x. list_all (λ d. is_before x d) rest) from (λ x r is some. slots_later (counted from x r) (from + 1) count (omega arith)))

  -- The counts of all volumes stand in the order of slots and numbers.
  pub counts_ascend : ascends (counts_of volumes) ≡ true
  unfolding counts_of slots
  counts_ascend = slots_ascend 0 64
