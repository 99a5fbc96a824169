-- A write and a removal leave a tree over the cells that are then there.
use Rattle.std.proofs.Common.{◌⊎◌, ◌≡◌, ℕ, ◌+◌, ◌/◌, ◌^◌, ◌<◌, ◌≤◌, Bool, true, false, cond, ◌&&◌, nat_lt, nat_le, nat_eq, List, [], ◌∷◌, length, filter, flat_map, Option, Some, None, is_some, inl, inr, ⊎_elim, refl, sym, ap, subst, ◌∙◌, arith}
use Rattle.std.specs.List.{list_any}
use Rattle.std.specs.Ordering.{eq_by_cmp}
use Rattle.std.specs.Cmp.{both_ways}
use Rattle.std.specs.FinMap as fin
use Rattle.std.proofs.Math.Nat.{div-one, div-eq_of_lt}
use Rattle.std.proofs.lemmas.Bool.Decides.{nat_tests}
use Rattle.fv_model.specs.Trees.{fan, Spot, spot_cmp, Tree, levels_with, spots_over, spots_grown, holds_one, stamp_spots, written, written_spots, erased}
use Rattle.fv_laws.specs.WellFormed.{IsTree}
use Rattle.fv_laws.proofs.Orders.{spot_total, spot_ties}
use Rattle.fv_laws.proofs.Lists.{any_in, in_any, In, in_left, in_right, in_either, in_filter, from_filter, in_flat_map, from_flat_map}
use Rattle.fv_laws.proofs.Levels.{wider, up, with_reaches, with_grows, from_holds, holds, all_in, in_all, over, is_over, grown, is_grown}
use Rattle.fv_laws.proofs.Room.{entry_there}
use Rattle.fv_laws.proofs.Stamps.{get-stamp_spots}

-- ---- tests
both_true : (a b : Bool) → a ≡ true → b ≡ true → (a && b) ≡ true
both_true a b e d = (λ i. e i && d i)

first_true : (a b : Bool) → (a && b) ≡ true → a ≡ true
first_true true b e = refl
first_true false b e = e

second_true : (a b : Bool) → (a && b) ≡ true → b ≡ true
second_true true b e = e
second_true false b e = absurd cc

none_true : (a : Bool) → (a && false) ≡ false
none_true true = refl
none_true false = refl

new_some : (b : Bool) (s : ℕ) (o : Option ℕ) → b ≡ true → is_some (cond b (Some s) o) ≡ true
new_some b s o e = ap (λ (c : Bool). is_some (cond c (Some s) o)) e

old_some : (b : Bool) (s : ℕ) (o : Option ℕ) → is_some o ≡ true → is_some (cond b (Some s) o) ≡ true
old_some true s o e = refl
old_some false s o e = e

no_stamp : {X : Type 0} (o : Option X) (x : X) → o ≡ None → o ≡ Some x → ⊥
no_stamp o x e d = absurd cc

-- ---- a tree without cells
pub empty_tree : (now start : ℕ) → IsTree now start [] (record { levels = start; stamps = fin.empty })
empty_tree now start = record {
  starts = omega arith;
  shrinks = λ e. refl;
  covers = tt;
  exact = λ p. ap is_some (fin.get-empty spot_cmp p) ∙ sym (none_true (nat_le p.0 start));
  stamps = λ p s e. absurd (no_stamp _ s (fin.get-empty spot_cmp p) e);
  rises = λ k i s u e d. absurd (no_stamp _ s (fin.get-empty spot_cmp (k, i)) e);
}

-- a tree stays one as time goes
pub later_tree : (now later start : ℕ) (cells : List ℕ) (t : Tree) → now ≤ later → IsTree now start cells t → IsTree later start cells t
later_tree now later start cells t le is = record {
  starts = is.starts;
  shrinks = is.shrinks;
  covers = is.covers;
  exact = is.exact;
  stamps = λ p s e. let old = is.stamps p s e in omega (arith, old, le);
  rises = is.rises;
}

module _ (now start : ℕ) (cells : List ℕ) (t : Tree) (is : IsTree now start cells t) where
  -- what stands holds a cell
  cell_under : (p : Spot) → is_some (fin.get t.stamps p) ≡ true → (j : ℕ) × In j cells × (j / fan ^ p.0 ≡ p.1)
  cell_under p e = from_holds cells p (second_true (nat_le p.0 t.levels) (holds_one cells p) (sym (is.exact p) ∙ e))

  low_spot : (p : Spot) → is_some (fin.get t.stamps p) ≡ true → p.0 ≤ t.levels
  low_spot p e = let yes : nat_le p.0 t.levels ≡ true = first_true (nat_le p.0 t.levels) (holds_one cells p) (sym (is.exact p) ∙ e) in grind (arith, nat_tests)

  stands_there : (p : Spot) (j : ℕ) → In j cells → j / fan ^ p.0 ≡ p.1 → p.0 ≤ t.levels → is_some (fin.get t.stamps p) ≡ true
  stands_there p j h e le = is.exact p ∙ both_true _ _ (let yes : nat_le p.0 t.levels ≡ true = grind (arith, nat_tests) in yes) (holds cells p j h e)

  -- there is a stamp exactly where there is a cell
  some_entry : (es : List (Spot × ℕ)) → 0 < length es → (e : Spot × ℕ) × In e es
  some_entry [] lt = absurd (omega arith)
  some_entry (e ∷ es) lt = (e, inl refl)

  some_cell : nat_lt 0 (fin.len t.stamps) ≡ true → (j : ℕ) × In j cells
  some_cell any =
      let entry = some_entry (fin.entries t.stamps) (let count = fin.len-entries t.stamps in let lt : 0 < fin.len t.stamps = grind (arith, nat_tests) in omega (arith, count, lt)) in
      let cell = cell_under entry.0.0 (ap is_some (entry_there spot_total t.stamps entry.0 entry.1)) in
      (cell.0, cell.1)

  any_stamp : (j : ℕ) → In j cells → nat_lt 0 (fin.len t.stamps) ≡ true
  any_stamp j h =
      elim (nat_lt 0 (fin.len t.stamps)) as (λ b. nat_lt 0 (fin.len t.stamps) ≡ b → b ≡ true) [
        | true ↦ λ e. refl
        | false ↦ λ e.
            let none : fin.len t.stamps ≡ 0 = grind (arith, nat_tests) in
            let there = stands_there (0, j) j h (div-one j) (omega arith) in
            let gone : false ≡ true = sym (ap (λ (m : fin.FinMap spot_cmp ℕ). is_some (fin.get m (0, j))) (fin.empty_of_len t.stamps none) ∙ ap is_some (fin.get-empty spot_cmp (0, j))) ∙ there in absurd cc
      ] refl

  -- a cell lies in range 0 of each level past the levels
  far : (j k : ℕ) → In j cells → t.levels < k → j / fan ^ k ≡ 0
  far j k h lt =
      let below : j < fan ^ t.levels = all_in (λ i. i < fan ^ t.levels) cells is.covers j h in
      let wide = wider t.levels k (omega arith) in
      div-eq_of_lt (omega (arith, below, wide))

-- the cells once one was written
pub record Adds (i : ℕ) (cells after : List ℕ) : Type 0 where
  pub old : (j : ℕ) → In j cells → In j after
  pub new : In i after
  pub only : (j : ℕ) → In j after → (j ≡ i) ⊎ In j cells

module _ (now start : ℕ) (cells after : List ℕ) (t : Tree) (i s : ℕ) (is : IsTree now start cells t) (adds : Adds i cells after) (le : now ≤ s) where
  abbrev levels : ℕ
  levels = levels_with t.levels i

  abbrev spots : List Spot
  spots = written_spots t i

  abbrev stamped : Spot → Bool
  stamped p = list_any (eq_by_cmp spot_cmp p) spots

  abbrev any : Bool
  any = nat_lt 0 (fin.len t.stamps)

  got : (p : Spot) → fin.get (stamp_spots s spots t.stamps) p ≡ cond (stamped p) (Some s) (fin.get t.stamps p)
  got p = get-stamp_spots s spots t.stamps p

  held : (p : Spot) → In p spots → (p.0 ≤ levels) × (holds_one after p ≡ true)
  held p h = ⊎_elim
      (λ l. let path = over levels i p l in (path.0, holds after p i adds.new path.1))
      (λ r.
      let new = grown any t.levels levels p r in
      let cell = some_cell now start cells t is new.0 in
      (new.2, holds after p cell.0 (adds.old cell.0 cell.1) (far now start cells t is cell.0 p.0 cell.1 new.1 ∙ sym new.3)))
      (in_either p (spots_over levels i) (spots_grown any t.levels levels) h)

  forward : (p : Spot) (b : Bool) → stamped p ≡ b → is_some (cond b (Some s) (fin.get t.stamps p)) ≡ true → (nat_le p.0 levels && holds_one after p) ≡ true
  forward p true e h = let there = held p (any_in spot_ties p spots e) in let low : p.0 ≤ levels = there.0 in both_true _ _ (let yes : nat_le p.0 levels ≡ true = grind (arith, nat_tests) in yes) there.1
  forward p false e h =
      let low = low_spot now start cells t is p h in
      let cell = cell_under now start cells t is p h in
      let grows = with_grows t.levels i in
      let lower : p.0 ≤ levels = omega (arith, low, grows) in
      both_true _ _ (let yes : nat_le p.0 levels ≡ true = grind (arith, nat_tests) in yes) (holds after p cell.0 (adds.old cell.0 cell.1) cell.2)

  at_cell : (p : Spot) (j : ℕ) → p.0 ≤ levels → j / fan ^ p.0 ≡ p.1 → (j ≡ i) ⊎ In j cells → is_some (cond (stamped p) (Some s) (fin.get t.stamps p)) ≡ true
  at_cell p j low e (inl same) = new_some (stamped p) s _ (in_any spot_total p spots (in_left p (spots_over levels i) (spots_grown any t.levels levels) (is_over levels i p low (ap (λ n. n / fan ^ p.0) (sym same) ∙ e))))
  at_cell p j low e (inr there) =
      elim (nat_le p.0 t.levels) as (λ b. nat_le p.0 t.levels ≡ b → is_some (cond (stamped p) (Some s) (fin.get t.stamps p)) ≡ true) [
        | true ↦ λ d. old_some (stamped p) s _ (stands_there now start cells t is p j there e (grind (arith, nat_tests)))
        | false ↦ λ d.
            let past : t.levels < p.0 = grind (arith, nat_tests) in
            new_some (stamped p) s _ (in_any spot_total p spots (in_right p (spots_over levels i) (spots_grown any t.levels levels) (is_grown any t.levels levels p (any_stamp now start cells t is j there) past low (sym e ∙ far now start cells t is j p.0 there past))))
      ] refl

  backward : (p : Spot) → (nat_le p.0 levels && holds_one after p) ≡ true → is_some (cond (stamped p) (Some s) (fin.get t.stamps p)) ≡ true
  backward p h =
      let cell = from_holds after p (second_true (nat_le p.0 levels) _ h) in
      let yes : nat_le p.0 levels ≡ true = first_true (nat_le p.0 levels) _ h in
      at_cell p cell.0 (grind (arith, nat_tests)) cell.2 (adds.only cell.0 cell.1)

  at_most : (b : Bool) (p : Spot) (u : ℕ) → cond b (Some s) (fin.get t.stamps p) ≡ Some u → u ≤ s
  at_most true p u e = let same : s ≡ u = cc in omega (arith, same)
  at_most false p u e = let old = is.stamps p u e in omega (arith, old, le)

  -- a mark over what was stamped was stamped
  above : (k j : ℕ) → In (k, j) spots → is_some (fin.get t.stamps (k + 1, j / fan)) ≡ true → In (k + 1, j / fan) spots
  above k j h stands = ⊎_elim
      (λ l. let path = over levels i (k, j) l in
      let low = low_spot now start cells t is (k + 1, j / fan) stands in
      let grows = with_grows t.levels i in
      in_left (k + 1, j / fan) (spots_over levels i) (spots_grown any t.levels levels) (is_over levels i (k + 1, j / fan) (omega (arith, low, grows)) (sym (up i k) ∙ ap (λ n. n / fan) path.1)))
      (λ r. let new = grown any t.levels levels (k, j) r in
      let low : k + 1 ≤ t.levels = low_spot now start cells t is (k + 1, j / fan) stands in
      let past : t.levels < k = new.1 in absurd (omega (arith, low, past)))
      (in_either (k, j) (spots_over levels i) (spots_grown any t.levels levels) h)

  rise : (k j a u : ℕ) (b c : Bool) → stamped (k, j) ≡ b → stamped (k + 1, j / fan) ≡ c → cond b (Some s) (fin.get t.stamps (k, j)) ≡ Some a → cond c (Some s) (fin.get t.stamps (k + 1, j / fan)) ≡ Some u → a ≤ u
  rise k j a u b true e d f g = let most = at_most b (k, j) a f in let same : s ≡ u = cc in omega (arith, most, same)
  rise k j a u false false e d f g = is.rises k j a u f g
  rise k j a u true false e d f g =
      let yes = in_any spot_total (k + 1, j / fan) spots (above k j (any_in spot_ties (k, j) spots e) (ap is_some g)) in
      let wrong : false ≡ true = sym d ∙ yes in absurd cc

  pub written_tree : IsTree s start after (written s i t)
  unfolding written
  written_tree =
      let grows = with_grows t.levels i in
      let starts = is.starts in
      record {
        starts = omega (arith, grows, starts);
        shrinks = λ e. absurd (not_none after adds.new e);
        covers = in_all (λ j. j < fan ^ levels) after (λ j h. ⊎_elim
            (λ same. let reach = with_reaches t.levels i in omega (arith, reach, same))
            (λ there. let below : j < fan ^ t.levels = all_in (λ i. i < fan ^ t.levels) cells is.covers j there in let wide = wider t.levels levels grows in omega (arith, below, wide))
            (adds.only j h));
        exact = λ p. ap is_some (got p) ∙ both_ways _ _ (forward p (stamped p) refl) (backward p);
        stamps = λ p u e. at_most (stamped p) p u (sym (got p) ∙ e);
        rises = λ k j a u e d. rise k j a u (stamped (k, j)) (stamped (k + 1, j / fan)) refl refl (sym (got (k, j)) ∙ e) (sym (got (k + 1, j / fan)) ∙ d);
      }
    where
      not_none : (xs : List ℕ) → In i xs → length xs ≡ 0 → ⊥
      not_none [] h e = h
      not_none (x ∷ xs) h e = absurd (omega arith)

-- ---- cells that go
module _ (now start : ℕ) (cells left gone : List ℕ) (t : Tree) (s : ℕ) (is : IsTree now start cells t) (part : (j : ℕ) → In j left → In j cells) (le : now ≤ s) where
  abbrev marks : List Spot
  marks = filter (holds_one left) (flat_map (spots_over t.levels) gone)

  abbrev marked : Spot → Bool
  marked p = list_any (eq_by_cmp spot_cmp p) marks

  kept : (p : Spot) → fin.get (stamp_spots s marks (fin.retain_keys t.stamps (holds_one left))) p ≡ cond (marked p) (Some s) (cond (holds_one left p) (fin.get t.stamps p) None)
  kept p = get-stamp_spots s marks (fin.retain_keys t.stamps (holds_one left)) p ∙ ap (cond (marked p) (Some s)) (fin.get-retain_keys t.stamps (holds_one left) p (λ q e. ap (holds_one left) (sym (spot_ties p q e))))

  on_path : (p : Spot) → In p marks → (holds_one left p ≡ true) × ((g : ℕ) × In g gone × In p (spots_over t.levels g))
  on_path p h = let there = from_filter (holds_one left) p (flat_map (spots_over t.levels) gone) h in (there.1, from_flat_map (spots_over t.levels) p gone there.0)

  if_held : (b : Bool) (o : Option ℕ) → is_some (cond b o None) ≡ true → (b ≡ true) × (is_some o ≡ true)
  if_held true o e = (refl, e)
  if_held false o e = absurd cc

  is_held : (b : Bool) (o : Option ℕ) (u : ℕ) → cond b o None ≡ Some u → (b ≡ true) × (o ≡ Some u)
  is_held true o u e = (refl, e)
  is_held false o u e = absurd cc

  what_stands : (p : Spot) (b : Bool) → marked p ≡ b → is_some (cond b (Some s) (cond (holds_one left p) (fin.get t.stamps p) None)) ≡ true → (p.0 ≤ t.levels) × (holds_one left p ≡ true)
  what_stands p true e h = let there = on_path p (any_in spot_ties p marks e) in ((over t.levels there.1.0 p there.1.2).0, there.0)
  what_stands p false e h = let there = if_held (holds_one left p) (fin.get t.stamps p) h in (low_spot now start cells t is p there.1, there.0)

  stands_after : (p : Spot) → p.0 ≤ t.levels → holds_one left p ≡ true → is_some (cond (marked p) (Some s) (cond (holds_one left p) (fin.get t.stamps p) None)) ≡ true
  stands_after p low h =
      let cell = from_holds left p h in
      old_some (marked p) s _ (ap (λ b. is_some (cond b (fin.get t.stamps p) None)) h ∙ stands_there now start cells t is p cell.0 (part cell.0 cell.1) cell.2 low)

  abbrev levels_left : ℕ
  levels_left = cond (nat_eq (length left) 0) start t.levels

  some_left : (xs : List ℕ) (j : ℕ) → In j xs → nat_eq (length xs) 0 ≡ false
  some_left [] j h = absurd h
  some_left (x ∷ xs) j h = grind (arith, nat_tests)

  levels_stay : (j : ℕ) → In j left → levels_left ≡ t.levels
  levels_stay j h = ap (λ b. cond b start t.levels) (some_left left j h)

  exactly : (p : Spot) → is_some (cond (marked p) (Some s) (cond (holds_one left p) (fin.get t.stamps p) None)) ≡ (nat_le p.0 levels_left && holds_one left p)
  exactly p = both_ways _ _
      (λ h. let there = what_stands p (marked p) refl h in
      let cell = from_holds left p there.1 in
      let same = levels_stay cell.0 cell.1 in
      let low : p.0 ≤ t.levels = there.0 in
      both_true _ _ (ap (nat_le p.0) same ∙ (let yes : nat_le p.0 t.levels ≡ true = grind (arith, nat_tests) in yes)) there.1)
      (λ h. let held = second_true (nat_le p.0 levels_left) _ h in
      let cell = from_holds left p held in
      let yes : nat_le p.0 t.levels ≡ true = ap (nat_le p.0) (sym (levels_stay cell.0 cell.1)) ∙ first_true (nat_le p.0 levels_left) _ h in
      stands_after p (grind (arith, nat_tests)) held)

  most_after : (b : Bool) (p : Spot) (u : ℕ) → cond b (Some s) (cond (holds_one left p) (fin.get t.stamps p) None) ≡ Some u → u ≤ s
  most_after true p u e = let same : s ≡ u = cc in omega (arith, same)
  most_after false p u e = let old = is.stamps p u (is_held (holds_one left p) (fin.get t.stamps p) u e).1 in omega (arith, old, le)

  over_marked : (k j : ℕ) → In (k, j) marks → holds_one left (k + 1, j / fan) ≡ true → k + 1 ≤ t.levels → In (k + 1, j / fan) marks
  over_marked k j h held low =
      let there = on_path (k, j) h in
      let path = over t.levels there.1.0 (k, j) there.1.2 in
      in_filter (holds_one left) (k + 1, j / fan) (flat_map (spots_over t.levels) gone)
      (in_flat_map (spots_over t.levels) there.1.0 (k + 1, j / fan) gone there.1.1 (is_over t.levels there.1.0 (k + 1, j / fan) low (sym (up there.1.0 k) ∙ ap (λ n. n / fan) path.1))) held

  rise_after : (k j a u : ℕ) (b c : Bool) → marked (k, j) ≡ b → marked (k + 1, j / fan) ≡ c → cond b (Some s) (cond (holds_one left (k, j)) (fin.get t.stamps (k, j)) None) ≡ Some a → cond c (Some s) (cond (holds_one left (k + 1, j / fan)) (fin.get t.stamps (k + 1, j / fan)) None) ≡ Some u → a ≤ u
  rise_after k j a u b true e d f g = let most = most_after b (k, j) a f in let same : s ≡ u = cc in omega (arith, most, same)
  rise_after k j a u false false e d f g = is.rises k j a u (is_held _ _ a f).1 (is_held _ _ u g).1
  rise_after k j a u true false e d f g =
      let there = is_held (holds_one left (k + 1, j / fan)) (fin.get t.stamps (k + 1, j / fan)) u g in
      let low = low_spot now start cells t is (k + 1, j / fan) (ap is_some there.1) in
      let yes = in_any spot_total (k + 1, j / fan) marks (over_marked k j (any_in spot_ties (k, j) marks e) there.0 low) in
      let wrong : false ≡ true = sym d ∙ yes in absurd cc

  pub erased_tree : IsTree s start left (erased s start gone left t)
  unfolding erased
  erased_tree = record {
    starts = at_least (nat_eq (length left) 0);
    shrinks = λ e. let yes : nat_eq (length left) 0 ≡ true = grind (arith, nat_tests) in ap (λ b. cond b start t.levels) yes;
    covers = in_all (λ j. j < fan ^ levels_left) left (λ j h. subst (λ n. j < fan ^ n) (sym (levels_stay j h)) (all_in (λ i. i < fan ^ t.levels) cells is.covers j (part j h)));
    exact = λ p. ap is_some (kept p) ∙ exactly p;
    stamps = λ p u e. most_after (marked p) p u (sym (kept p) ∙ e);
    rises = λ k j a u e d. rise_after k j a u (marked (k, j)) (marked (k + 1, j / fan)) refl refl (sym (kept (k, j)) ∙ e) (sym (kept (k + 1, j / fan)) ∙ d);
  }
    where
      at_least : (b : Bool) → start ≤ cond b start t.levels
      at_least true = omega arith
      at_least false = is.starts
