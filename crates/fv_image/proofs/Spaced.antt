-- Held once and the aggregate map, slot by slot: no slot holds a block twice, no two slots hold one block, and a bit is set exactly where
-- some slot holds its block.
use Rattle.std.proofs.Common.{◌≡◌, ◌≢◌, ℕ, zero, suc, ◌+◌, ◌<◌, ◌≤◌, Bool, true, false, not, refl, sym, ap, ◌∙◌, arith, ⊎_elim}
use Rattle.std.specs.Prelude.{nat_le, ◌==◌, flat_map, sum_by, count_by}
use Rattle.std.specs.List.{list_any, range_with_len}
use Rattle.std.proofs.lemmas.Bool.{both_ways, cases_eq, cases_lt, or_cases}
use Rattle.std.proofs.lemmas.Bool.Decides.{nat_tests}
use Rattle.std.proofs.lemmas.List.Sums.{sum_by-cons}
use Rattle.std.proofs.lemmas.List.Folds.{list_any-append}
use Rattle.fv_image.specs.Maps.{area_bits}
use Rattle.fv_image.specs.Views.{slots}
use Rattle.fv_image.specs.Held.{Layout, held_by, held, is_held}
use Rattle.fv_image.specs.BlockRules.{agree, is_held_once, has_true_map}
use Rattle.fv_image.specs.Whole.{is_held_by, times_held}
use Rattle.fv_image.proofs.Named.{slot_in}
use Rattle.fv_image.proofs.Room.{bit_is_held}
use Rattle.fv_image.proofs.WholeSlots.{all_between, all_listed}
use Rattle.fv_image.proofs.Replaced.{listed_tells, some_times, no_times, counted_parts, held_at_most_once}

pub record AreSpaced (y : Layout) : Type 0 where
  pub each : (s b : ℕ) → s < 64 → times_held y s b ≤ 1
  pub apart : (s k b : ℕ) → s < 64 → k < 64 → s ≢ k → is_held_by y s b ≡ true → is_held_by y k b ≡ true → ⊥
  pub set : (b : ℕ) → b < area_bits y.view.blocks → y.bit b ≡ true → (s : ℕ) × (s < 64) × (is_held_by y s b ≡ true)
  pub held : (s b : ℕ) → s < 64 → is_held_by y s b ≡ true → y.bit b ≡ true

-- ---- a slot that holds a block

-- what is held, some slot of a range holds
some_slot : (y : Layout) (b from count : ℕ) → list_any (λ x. x == b) (flat_map (held_by y) (range_with_len from count)) ≡ true → (s : ℕ) × ((from ≤ s) × ((s < from + count) × (is_held_by y s b ≡ true)))
some_slot y b from zero there = absurd cc
some_slot y b from (suc count) there = ⊎_elim
    (λ (here : is_held_by y from b ≡ true). (from, (omega arith, (omega arith, here))))
    (λ later. let s = some_slot y b (from + 1) count later in (s.0, (omega (arith, s.1.0), (omega (arith, s.1.1.0), s.1.1.1))))
    (or_cases (is_held_by y from b) (list_any (λ x. x == b) (flat_map (held_by y) (range_with_len (from + 1) count))) (sym (list_any-append (λ x. x == b) (held_by y from) (flat_map (held_by y) (range_with_len (from + 1) count))) ∙ there))

pub holder : (y : Layout) (b : ℕ) → is_held y b ≡ true → (s : ℕ) × ((s < 64) × (is_held_by y s b ≡ true))
unfolding held slots
holder y b there = let s = some_slot y b 0 64 there in (s.0, (omega (arith, s.1.1.0), s.1.1.1))

-- ---- from slots to all

-- a sum of which at most one part isn't 0, and that at most 1
sum_of_one : (part : ℕ → ℕ) (from count : ℕ) → ((k : ℕ) → from ≤ k → k < from + count → part k ≤ 1) → ((k j : ℕ) → from ≤ k → k < j → j < from + count → 1 ≤ part k → part j ≡ 0) → sum_by part (range_with_len from count) ≤ 1
sum_of_one part from zero few apart = omega arith
sum_of_one part from (suc count) few apart =
    let rest : sum_by part (range_with_len (from + 1) count) ≤ 1 = sum_of_one part (from + 1) count (λ k low high. few k (omega arith) (omega (arith, high))) (λ k j low order high some. apart k j (omega arith) order (omega (arith, high)) some) in
    let cons : sum_by part (range_with_len from (suc count)) ≡ part from + sum_by part (range_with_len (from + 1) count) = sum_by-cons part from (range_with_len (from + 1) count) in ⊎_elim
    (λ (none : part from ≡ 0). omega (arith, cons, rest, none))
    (λ (some : part from ≢ 0).
    let zero_rest : sum_by part (range_with_len (from + 1) count) ≡ 0 = no_rest (from + 1) count (λ k low high. apart from k (omega arith) (omega (arith, low)) (omega (arith, high)) (omega arith)) in
    let one : part from ≤ 1 = few from (omega arith) (omega arith) in
    omega (arith, cons, zero_rest, one))
    (cases_eq (part from) 0)
  where
    no_rest : (a n : ℕ) → ((k : ℕ) → a ≤ k → k < a + n → part k ≡ 0) → sum_by part (range_with_len a n) ≡ 0
    no_rest a zero none = refl
    no_rest a (suc n) none =
        let first = none a (omega arith) (omega arith) in
        let later = no_rest (a + 1) n (λ k low high. none k (omega (arith, low)) (omega (arith, high))) in
        omega (arith, sum_by-cons part a (range_with_len (a + 1) n), first, later)

module _ (y : Layout) (is : AreSpaced y) where
  times_few : (b : ℕ) → count_by (λ x. x == b) (held y) ≤ 1
  unfolding held slots
  times_few b =
      let parts = counted_parts (λ x. x == b) (held_by y) slots in
      let few : sum_by (λ k. times_held y k b) (range_with_len 0 64) ≤ 1 = sum_of_one (λ k. times_held y k b) 0 64 (λ k low high. is.each k b (omega (arith, high))) (λ k j low order high some. other k j (omega arith) (omega (arith, high)) order some) in
      omega (arith, parts, few)
    where
      holds : (k : ℕ) → 1 ≤ times_held y k b → is_held_by y k b ≡ true
      holds k some = so (is_held_by y k b) refl
        where
          so : (h : Bool) → is_held_by y k b ≡ h → h ≡ true
          so true e = refl
          so false e = absurd (omega (arith, some, no_times (is_held_by y k b) (times_held y k b) (listed_tells (λ x. x == b) (held_by y k)) e))

      other : (k j : ℕ) → k < 64 → j < 64 → k < j → 1 ≤ times_held y k b → times_held y j b ≡ 0
      other k j small large order some = no_times (is_held_by y j b) (times_held y j b) (listed_tells (λ x. x == b) (held_by y j)) (so (is_held_by y j b) refl)
        where
          so : (h : Bool) → is_held_by y j b ≡ h → h ≡ false
          so true e = absurd (is.apart k j b small large (omega (arith, order)) (holds k some) e)
          so false e = refl

  -- no block is held twice
  pub spaced_once : is_held_once y ≡ true
  unfolding is_held_once
  spaced_once = all_listed (λ b. nat_le (count_by (λ x. x == b) (held y)) 1) (held y) (λ b there. fits (count_by (λ x. x == b) (held y)) (times_few b))
    where
      fits : (n : ℕ) → n ≤ 1 → nat_le n 1 ≡ true
      fits n le = grind (arith, nat_tests)

  -- and the aggregate map is true
  pub spaced_map : has_true_map y ≡ true
  unfolding has_true_map
  spaced_map = all_between (λ b. agree (y.bit b) (is_held y b)) 0 (area_bits y.view.blocks) (λ b low high. so b (y.bit b) refl (omega (arith, high)))
    where
      held_not : (b : ℕ) → y.bit b ≡ false → (h : Bool) → is_held y b ≡ h → h ≡ false
      held_not b clear true e = let s = holder y b e in absurd (both_ways (y.bit b) clear (is.held s.0 b s.1.0 s.1.1))
      held_not b clear false e = refl

      so : (b : ℕ) → (bit : Bool) → y.bit b ≡ bit → b < area_bits y.view.blocks → agree bit (is_held y b) ≡ true
      so b true e within = let s = is.set b within e in slot_in y s.0 b s.1 s.2
      so b false e within = ap not (held_not b e (is_held y b) refl)

-- ---- and back

part_in_sum : (part : ℕ → ℕ) (k from count : ℕ) → from ≤ k → k < from + count → part k ≤ sum_by part (range_with_len from count)
part_in_sum part k from zero low high = absurd (omega arith)
part_in_sum part k from (suc count) low high =
    let cons : sum_by part (range_with_len from (suc count)) ≡ part from + sum_by part (range_with_len (from + 1) count) = sum_by-cons part from (range_with_len (from + 1) count) in ⊎_elim
    (λ (e : from ≡ k). let same : part from ≡ part k = ap part e in omega (arith, cons, same))
    (λ ne. let rest = part_in_sum part k (from + 1) count (omega arith) (omega arith) in omega (arith, cons, rest))
    (cases_eq from k)

pub two_in_sum : (part : ℕ → ℕ) (k j from count : ℕ) → from ≤ k → k < j → j < from + count → part k + part j ≤ sum_by part (range_with_len from count)
two_in_sum part k j from zero low order high = absurd (omega arith)
two_in_sum part k j from (suc count) low order high =
    let cons : sum_by part (range_with_len from (suc count)) ≡ part from + sum_by part (range_with_len (from + 1) count) = sum_by-cons part from (range_with_len (from + 1) count) in ⊎_elim
    (λ (e : from ≡ k). let same : part from ≡ part k = ap part e in let rest = part_in_sum part j (from + 1) count (omega (arith, order, e)) (omega (arith, high)) in omega (arith, cons, same, rest))
    (λ ne. let rest = two_in_sum part k j (from + 1) count (omega arith) order (omega (arith, high)) in omega (arith, cons, rest))
    (cases_eq from k)

-- A layout that holds no block twice, and whose aggregate map is true and reaches as far, is spaced.
pub spaced_from : (y : Layout) → is_held_once y ≡ true → has_true_map y ≡ true → ((b : ℕ) → is_held y b ≡ true → b < area_bits y.view.blocks) → AreSpaced y
unfolding held slots
spaced_from y once true-map within = record {
  each = λ s b inside. let whole = counted_parts (λ x. x == b) (held_by y) slots in let few = held_at_most_once y b once in let part = part_in_sum (λ k. times_held y k b) s 0 64 (omega arith) (omega (arith, inside)) in omega (arith, whole, few, part);
  apart = λ s k b small large other first second. ⊎_elim
      (λ (lt : s < k). both_hold s k b lt large first second)
      (λ ge. both_hold k s b (omega (arith, ge, other)) small second first)
      (cases_lt s k);
  set = λ b low bit. let s = holder y b (sym (bit_is_held y b true-map low) ∙ bit) in (s.0, s.1.0, s.1.1);
  held = λ s b inside there. let all = slot_in y s b inside there in bit_is_held y b true-map (within b all) ∙ all;
}
  where
    times_one : (s b : ℕ) → is_held_by y s b ≡ true → 1 ≤ times_held y s b
    times_one s b there = some_times (is_held_by y s b) (times_held y s b) (listed_tells (λ x. x == b) (held_by y s)) there

    both_hold : (s k b : ℕ) → s < k → k < 64 → is_held_by y s b ≡ true → is_held_by y k b ≡ true → ⊥
    both_hold s k b order large first second =
        let whole = counted_parts (λ x. x == b) (held_by y) slots in
        let few = held_at_most_once y b once in
        let two = two_in_sum (λ n. times_held y n b) s k 0 64 (omega arith) order (omega (arith, large)) in
        absurd (omega (arith, whole, few, two, times_one s b first, times_one k b second))
