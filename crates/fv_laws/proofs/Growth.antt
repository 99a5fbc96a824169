-- How many positions a write adds to a tree, and how many a removal of cells takes.
use Rattle.std.proofs.Common.{◌≡◌, ◌≢◌, ℕ, zero, suc, ◌+◌, ◌-◌, ◌/◌, ◌^◌, ◌<◌, ◌≤◌, Bool, true, false, cond, not, ◌&&◌, nat_lt, nat_le, List, [], ◌∷◌, ◌++◌, map, Option, Some, is_some, refl, ap, ◌∙◌, arith}
use Rattle.std.specs.List.{list_any, prefix_len, range_with_len}
use Rattle.std.specs.Ordering.{eq_by_cmp}
use Rattle.std.specs.Cmp.{Equal-is}
use Rattle.std.specs.FinMap as fin
use Rattle.std.proofs.Math.Nat.{div-eq_of_lt}
use Rattle.std.proofs.lemmas.Bool.Decides.{nat_tests}
use Rattle.std.proofs.lemmas.Nat.{le-div}
use Rattle.fv_model.specs.Trees.{fan, Spot, spot_cmp, Tree, least_levels, levels_with, spots_over, spots_grown, holds_one, stamp_spots, written, written_spots}
use Rattle.fv_laws.specs.WellFormed.{IsTree}
use Rattle.fv_laws.specs.Positions.{found_over, added_by}
use Rattle.fv_laws.proofs.Orders.{spot_total, spot_ties}
use Rattle.fv_laws.proofs.Lists.{In, any_in, in_any}
use Rattle.fv_laws.proofs.Levels.{with_reaches, with_grows, holds, all_in, over, is_over, some_range}
use Rattle.fv_laws.proofs.Tables.{prefix_passes}
use Rattle.fv_laws.proofs.Reserve.{no_growth}
use Rattle.fv_laws.proofs.Stamps.{get-stamp_spots}
use Rattle.fv_laws.proofs.Ranges.{counted, counted_suc, counted_same, counted_add, counted_not, counted_all, counted_none}

-- ---- a spot in each of some levels

abbrev pub row : (ℕ → ℕ) → ℕ → ℕ → List Spot
row g a n = map (λ k. (k, g k)) (range_with_len a n)

other_level : (k a x y : ℕ) → k ≢ a → eq_by_cmp spot_cmp (k, x) (a, y) ≡ false
other_level k a x y apart = so (eq_by_cmp spot_cmp (k, x) (a, y)) refl
  where
    so : (b : Bool) → eq_by_cmp spot_cmp (k, x) (a, y) ≡ b → b ≡ false
    so false e = refl
    so true e = absurd (apart (ap (λ (p : Spot). p.0) (spot_ties (k, x) (a, y) ((Equal-is (spot_cmp (k, x) (a, y))).0 e))))

one_more : (b : Bool) (n : ℕ) → cond b n (n + 1) ≡ n + cond (not b) 1 0
one_more true n = omega arith
one_more false n = omega arith

-- Stamps given in different levels add those that weren't there.
row_len : (s : ℕ) (g : ℕ → ℕ) (a n : ℕ) (m : fin.FinMap spot_cmp ℕ) → fin.len (stamp_spots s (row g a n) m) ≡ fin.len m + counted (λ k. not (fin.contains_key m (k, g k))) a n
unfolding stamp_spots
row_len s g a zero m = omega arith
row_len s g a (suc n) m =
    let rest : fin.len (stamp_spots s (row g (a + 1) n) (fin.insert m (a, g a) s)) ≡ fin.len (fin.insert m (a, g a) s) + counted (λ k. not (fin.contains_key (fin.insert m (a, g a) s) (k, g k))) (a + 1) n = row_len s g (a + 1) n (fin.insert m (a, g a) s) in
    let same : counted (λ k. not (fin.contains_key (fin.insert m (a, g a) s) (k, g k))) (a + 1) n ≡ counted (λ k. not (fin.contains_key m (k, g k))) (a + 1) n =
    counted_same (λ k. not (fin.contains_key (fin.insert m (a, g a) s) (k, g k))) (λ k. not (fin.contains_key m (k, g k))) (a + 1) n (λ k low high.
    ap (λ (o : Option ℕ). not (is_some o)) (fin.get-insert spot_total m (a, g a) s (k, g k))
    ∙ ap (λ b. not (is_some (cond b (Some s) (fin.get m (k, g k))))) (other_level k a (g k) (g a) (λ e. absurd (omega (arith, e, low))))) in
    let more : fin.len (fin.insert m (a, g a) s) ≡ fin.len m + cond (not (fin.contains_key m (a, g a))) 1 0 = fin.len-insert spot_total m (a, g a) s ∙ one_more (fin.contains_key m (a, g a)) (fin.len m) in
    let sum = counted_suc (λ k. not (fin.contains_key m (k, g k))) a n in
    omega (arith, rest, same, more, sum)

stamp_append : (s : ℕ) (ps qs : List Spot) (m : fin.FinMap spot_cmp ℕ) → stamp_spots s (ps ++ qs) m ≡ stamp_spots s qs (stamp_spots s ps m)
unfolding stamp_spots
stamp_append s [] qs m = refl
stamp_append s (p ∷ ps) qs m = stamp_append s ps qs (fin.insert m p s)

-- ---- a write

-- the ranges of lower levels don't hold a cell for which levels had to grow
narrow : (levels i k : ℕ) → levels < levels_with levels i → k < levels_with levels i → fan ^ k ≤ i
unfolding levels_with least_levels
narrow levels i k grows lt =
    elim (nat_lt i (fan ^ levels)) as (λ b. levels < cond b levels (prefix_len (λ h. nat_lt (fan ^ h) (i + 1)) (range_with_len 0 (i + 1))) → k < cond b levels (prefix_len (λ h. nat_lt (fan ^ h) (i + 1)) (range_with_len 0 (i + 1))) → fan ^ k ≤ i) [
      | true ↦ λ grows lt. absurd (omega (arith, grows))
      | false ↦ λ grows lt.
          let low : nat_lt (fan ^ k) (i + 1) ≡ true = ap (λ h. nat_lt (fan ^ h) (i + 1)) (let e : k ≡ 0 + k = omega arith in e) ∙ prefix_passes (λ h. nat_lt (fan ^ h) (i + 1)) 0 (i + 1) k lt in
          grind (arith, nat_tests, low)
    ] grows lt

module _ (now start : ℕ) (cells : List ℕ) (t : Tree) (i s : ℕ) (is : IsTree now start cells t) where
  abbrev after : ℕ
  after = levels_with t.levels i

  abbrev way : ℕ → ℕ
  way k = i / fan ^ k

  none_past : (k x : ℕ) → t.levels < k → fin.contains_key t.stamps (k, x) ≡ false
  none_past k x past = is.exact (k, x) ∙ ap (λ b. b && holds_one cells (k, x)) (let no : nat_le k t.levels ≡ false = grind (arith, nat_tests, past) in no)

  abbrev path : fin.FinMap spot_cmp ℕ
  path = stamp_spots s (spots_over after i) t.stamps

  path_len : fin.len path ≡ fin.len t.stamps + (after + 1 - found_over t i)
  unfolding spots_over found_over
  path_len =
      let grows : t.levels ≤ after = with_grows t.levels i in
      let whole = row_len s way 0 (after + 1) t.stamps in
      let long : after + 1 ≡ (t.levels + 1) + (after - t.levels) = omega (arith, grows) in
      let parts : counted (λ k. not (fin.contains_key t.stamps (k, way k))) 0 (after + 1) ≡ counted (λ k. not (fin.contains_key t.stamps (k, way k))) 0 (t.levels + 1) + counted (λ k. not (fin.contains_key t.stamps (k, way k))) (0 + (t.levels + 1)) (after - t.levels) =
      ap (counted (λ k. not (fin.contains_key t.stamps (k, way k))) 0) long ∙ counted_add (λ k. not (fin.contains_key t.stamps (k, way k))) 0 (t.levels + 1) (after - t.levels) in
      let low = counted_not (λ k. fin.contains_key t.stamps (k, way k)) 0 (t.levels + 1) in
      let high : counted (λ k. not (fin.contains_key t.stamps (k, way k))) (0 + (t.levels + 1)) (after - t.levels) ≡ after - t.levels = counted_all (λ k. not (fin.contains_key t.stamps (k, way k))) (0 + (t.levels + 1)) (after - t.levels) (λ k least most. ap not (none_past k (way k) (omega (arith, least)))) in
      omega (arith, grows, whole, parts, low, high)

  on_path : (k : ℕ) → k ≤ after → way k ≡ 0 → fin.contains_key path (k, 0) ≡ true
  on_path k low at = ap is_some (get-stamp_spots s (spots_over after i) t.stamps (k, 0)) ∙ ap (λ b. is_some (cond b (Some s) (fin.get t.stamps (k, 0)))) (in_any spot_total (k, 0) (spots_over after i) (is_over after i (k, 0) low at))

  off_path : (k : ℕ) → t.levels < k → 1 ≤ way k → fin.contains_key path (k, 0) ≡ false
  off_path k past some = ap is_some (get-stamp_spots s (spots_over after i) t.stamps (k, 0)) ∙ so (list_any (eq_by_cmp spot_cmp (k, 0)) (spots_over after i)) refl
    where
      so : (b : Bool) → list_any (eq_by_cmp spot_cmp (k, 0)) (spots_over after i) ≡ b → is_some (cond b (Some s) (fin.get t.stamps (k, 0))) ≡ false
      so true e = let at = (over after i (k, 0) (any_in spot_ties (k, 0) (spots_over after i) e)).1 in absurd (omega (arith, some, at))
      so false e = none_past k 0 past

  -- the marks over the cells that were there, in levels that are new
  old_marks : (n : ℕ) → after - t.levels ≡ n → counted (λ k. not (fin.contains_key path (k, 0))) (t.levels + 1) n ≡ n - 1
  old_marks zero e = refl
  old_marks (suc n) e =
      let long : suc n ≡ n + 1 = omega arith in
      let parts : counted (λ k. not (fin.contains_key path (k, 0))) (t.levels + 1) (suc n) ≡ counted (λ k. not (fin.contains_key path (k, 0))) (t.levels + 1) n + counted (λ k. not (fin.contains_key path (k, 0))) (t.levels + 1 + n) 1 =
      ap (counted (λ k. not (fin.contains_key path (k, 0))) (t.levels + 1)) long ∙ counted_add (λ k. not (fin.contains_key path (k, 0))) (t.levels + 1) n 1 in
      let low : counted (λ k. not (fin.contains_key path (k, 0))) (t.levels + 1) n ≡ n = counted_all (λ k. not (fin.contains_key path (k, 0))) (t.levels + 1) n (λ k least most. ap not (off_path k (omega (arith, least)) (some_way k (omega (arith, most, e))))) in
      let top : counted (λ k. not (fin.contains_key path (k, 0))) (t.levels + 1 + n) 1 ≡ 0 = counted_none (λ k. not (fin.contains_key path (k, 0))) (t.levels + 1 + n) 1 (λ k least most. ap not (on_path k (omega (arith, most, e)) (top_way k (omega (arith, least, most, e))))) in
      omega (arith, parts, low, top)
    where
      some_way : (k : ℕ) → k < after → 1 ≤ way k
      some_way k lt = le-div 1 i (fan ^ k) (some_range k) (let le = narrow t.levels i k (omega (arith, e)) lt in omega (arith, le))

      top_way : (k : ℕ) → k ≡ after → way k ≡ 0
      top_way k is_top = ap way is_top ∙ div-eq_of_lt (with_reaches t.levels i)

  grown_len : (any : Bool) → fin.len (stamp_spots s (spots_grown any t.levels after) path) ≡ fin.len path + cond any (after - t.levels - 1) 0
  unfolding spots_grown stamp_spots
  grown_len false = omega arith
  grown_len true = let whole = row_len s (λ k. 0) (t.levels + 1) (after - t.levels) path in let marks = old_marks (after - t.levels) refl in omega (arith, whole, marks)

  -- A write adds so many positions.
  pub written_len : fin.len (written s i t).stamps ≡ fin.len t.stamps + added_by t i
  unfolding written added_by
  written_len =
      let any = nat_lt 0 (fin.len t.stamps) in
      let all : fin.len (stamp_spots s (written_spots t i) t.stamps) ≡ fin.len (stamp_spots s (spots_grown any t.levels after) path) = ap fin.len (stamp_append s (spots_over after i) (spots_grown any t.levels after) t.stamps) in
      let old = path_len in
      let new = grown_len any in
      omega (arith, all, old, new)

  -- None comes where the cell stands: stamps change.
  pub there_adds_none : In i cells → added_by t i ≡ 0
  unfolding added_by found_over
  there_adds_none there =
      let below : i < fan ^ t.levels = all_in (λ j. j < fan ^ t.levels) cells is.covers i there in
      let same : after ≡ t.levels = no_growth t.levels i below in
      let found : counted (λ k. fin.contains_key t.stamps (k, way k)) 0 (t.levels + 1) ≡ t.levels + 1 = counted_all (λ k. fin.contains_key t.stamps (k, way k)) 0 (t.levels + 1) (λ k least most.
      is.exact (k, way k) ∙ (λ j. (let low : nat_le k t.levels ≡ true = grind (arith, nat_tests, most) in low) j && holds cells (k, way k) i there refl j)) in
      so (nat_lt 0 (fin.len t.stamps)) same found
    where
      so : (any : Bool) → after ≡ t.levels → counted (λ k. fin.contains_key t.stamps (k, way k)) 0 (t.levels + 1) ≡ t.levels + 1 → (after + 1 - counted (λ k. fin.contains_key t.stamps (k, way k)) 0 (t.levels + 1)) + cond any (after - t.levels - 1) 0 ≡ 0
      so true same found = omega (arith, same, found)
      so false same found = omega (arith, same, found)
