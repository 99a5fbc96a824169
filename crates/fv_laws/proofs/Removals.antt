-- How many positions a removal of cells takes from a tree.
use Rattle.std.proofs.Common.{◌⊎◌, ◌≡◌, ℕ, zero, suc, ◌+◌, ◌/◌, ◌^◌, ◌<◌, ◌≤◌, Bool, true, false, cond, not, ◌&&◌, ◌||◌, nat_le, nat_eq, List, [], ◌∷◌, length, map, filter, flat_map, ⊎_elim, refl, sym, ap, ◌∙◌, arith, T}
use Rattle.std.specs.List.{list_any, range_with_len}
use Rattle.std.specs.declared.cmp.Ordering.{Ordering}
use Rattle.std.specs.Ordering.{eq_by_cmp, is_eq}
use Rattle.std.specs.Cmp.{IsTotalOrder, both_ways}
use Rattle.std.specs.FinMap as fin
use Rattle.std.specs.FinMap.{is_sorted}
use Rattle.std.specs.FinMap.Entries.{below_all}
use Rattle.std.specs.FinSet as set
use Rattle.std.proofs.lemmas.Bool.Decides.{nat_tests}
use Rattle.std.proofs.lemmas.List.{append-nil}
use Rattle.fv_model.specs.Trees.{fan, Spot, spot_cmp, Tree, spots_over, holds_one, erased}
use Rattle.fv_laws.specs.WellFormed.{IsTree}
use Rattle.fv_laws.specs.Positions.{taken_by}
use Rattle.fv_laws.proofs.Orders.{spot_total, spot_ties}
use Rattle.fv_laws.proofs.Lists.{In, any_in, in_any, in_filter, from_filter, in_flat_map, from_flat_map, from_map, from_range}
use Rattle.fv_laws.proofs.Levels.{from_holds, holds, over, is_over}
use Rattle.fv_laws.proofs.Trees.{erased_tree}
use Rattle.fv_laws.proofs.Counts.{len_union}
use Rattle.fv_laws.proofs.Maps.{first, second, less}
use Rattle.fv_laws.proofs.Ranges.{counted, counted_suc}
use Rattle.fv_laws.proofs.Growth.{row}

-- ---- a map has as many entries as keys

module _ {K X : Type 0} {R : K → K → Ordering} (o : IsTotalOrder R) where
  no_key : (k : K) (es : List (K × X)) → T (below_all R k es) → list_any (eq_by_cmp R k) (map (λ e. e.0) es) ≡ false
  no_key k [] h = refl
  no_key k (e ∷ es) h = ap (λ r. is_eq r || list_any (eq_by_cmp R k) (map (λ e. e.0) es)) (less _ (first _ _ h)) ∙ no_key k es (second _ _ h)

  listed_keys : (es : List (K × X)) → T (is_sorted R es) → set.len (set.from_list {R = R} (map (λ e. e.0) es)) ≡ length es
  listed_keys [] h = set.len-empty R
  listed_keys (e ∷ es) h =
      let keys = map (λ (e : K × X). e.0) es in
      let rest : set.len (set.from_list {R = R} keys) ≡ length es = listed_keys es (second (below_all R e.0 es) (is_sorted R es) h) in
      let absent : set.contains (set.from_list {R = R} keys) e.0 ≡ false = set.contains-from_list o keys e.0 ∙ no_key e.0 es (first _ _ h) in
      let more : set.len (set.from_list {R = R} (e.0 ∷ keys)) ≡ set.len (set.from_list {R = R} keys) + 1 = set.len-insert o (set.from_list keys) e.0 ∙ ap (λ b. cond b (set.len (set.from_list {R = R} keys)) (set.len (set.from_list {R = R} keys) + 1)) absent in
      omega (arith, rest, more)

  abbrev pub keys_of : fin.FinMap R X → set.FinSet R
  keys_of m = set.from_list (fin.keys m)

  pub len_keys : (m : fin.FinMap R X) → set.len (keys_of m) ≡ fin.len m
  len_keys m = listed_keys (fin.entries m) (fin.entries_sorted m) ∙ sym (fin.len-entries m)

  pub contains_keys : (m : fin.FinMap R X) (k : K) → set.contains (keys_of m) k ≡ fin.contains_key m k
  contains_keys m k = set.contains-from_list o (fin.keys m) k ∙ sym (fin.contains_key-keys m k)

-- ---- cells that go

both : (a b : Bool) → a ≡ true → b ≡ true → (a && b) ≡ true
both a b e d = λ i. e i && d i

parts : (a b : Bool) → (a && b) ≡ true → (a ≡ true) × (b ≡ true)
parts true b e = (refl, e)
parts false b e = absurd cc

one_of : (a b : Bool) (P : Type 0) → (a ≡ true → P) → (b ≡ true → P) → (a || b) ≡ true → P
one_of true b P left right e = left refl
one_of false b P left right e = right e

left_true : (a b : Bool) → a ≡ true → (a || b) ≡ true
left_true a b e = ap (λ c. c || b) e

right_true : (a b : Bool) → b ≡ true → (a || b) ≡ true
right_true true b e = refl
right_true false b e = e

none_both : (g k : Bool) → (g ≡ true → k ≡ false) → (g && not k) ≡ g
none_both true k h = ap not (h refl)
none_both false k h = refl

not_false : (b : Bool) → not b ≡ true → b ≡ false
not_false true e = cc
not_false false e = refl

module _ (now start : ℕ) (cells left gone : List ℕ) (t : Tree) (s : ℕ) (is : IsTree now start cells t) (part : (j : ℕ) → In j left → In j cells) (goes : (j : ℕ) → In j gone → In j cells) (all : (j : ℕ) → In j cells → In j left ⊎ In j gone) (le : now ≤ s) where
  abbrev after : Tree
  after = erased s start gone left t

  abbrev lost : List Spot
  lost = filter (λ p. not (holds_one left p)) (flat_map (spots_over t.levels) gone)

  abbrev tree : IsTree s start left after
  tree = erased_tree now start cells left gone t s is part le

  some_left : (xs : List ℕ) (j : ℕ) → In j xs → nat_eq (length xs) 0 ≡ false
  some_left [] j h = absurd h
  some_left (x ∷ xs) j h = grind (arith, nat_tests)

  levels_stay : (j : ℕ) → In j left → after.levels ≡ t.levels
  unfolding erased
  levels_stay j h = ap (λ b. cond b start t.levels) (some_left left j h)

  -- what stands before holds a cell, and so it is after
  stood : (p : Spot) → fin.contains_key t.stamps p ≡ true → (p.0 ≤ t.levels) × (holds_one cells p ≡ true)
  stood p e = let two = parts (nat_le p.0 t.levels) (holds_one cells p) (sym (is.exact p) ∙ e) in let low : nat_le p.0 t.levels ≡ true = two.0 in (grind (arith, nat_tests, low), two.1)

  stands : (p : Spot) (j : ℕ) → p.0 ≤ t.levels → In j cells → j / fan ^ p.0 ≡ p.1 → fin.contains_key t.stamps p ≡ true
  stands p j low h at = is.exact p ∙ both _ _ (let yes : nat_le p.0 t.levels ≡ true = grind (arith, nat_tests, low) in yes) (holds cells p j h at)

  left_over : (p : Spot) → fin.contains_key after.stamps p ≡ true → (fin.contains_key t.stamps p ≡ true) × (holds_one left p ≡ true)
  left_over p e =
      let two = parts (nat_le p.0 after.levels) (holds_one left p) (sym (tree.exact p) ∙ e) in
      let cell = from_holds left p two.1 in
      let low : nat_le p.0 after.levels ≡ true = two.0 in
      let same : after.levels ≡ t.levels = levels_stay cell.0 cell.1 in
      let within : p.0 ≤ t.levels = grind (arith, nat_tests, low, same) in
      (stands p cell.0 within (part cell.0 cell.1) cell.2, two.1)

  stays : (p : Spot) → p.0 ≤ t.levels → holds_one left p ≡ true → fin.contains_key after.stamps p ≡ true
  stays p low h =
      let cell = from_holds left p h in
      let same : after.levels ≡ t.levels = levels_stay cell.0 cell.1 in
      tree.exact p ∙ both _ _ (let yes : nat_le p.0 after.levels ≡ true = grind (arith, nat_tests, low, same) in yes) h

  lost_one : (p : Spot) → list_any (eq_by_cmp spot_cmp p) lost ≡ true → (fin.contains_key t.stamps p ≡ true) × (holds_one left p ≡ false)
  lost_one p e =
      let there = from_filter (λ p. not (holds_one left p)) p (flat_map (spots_over t.levels) gone) (any_in spot_ties p lost e) in
      let path = from_flat_map (spots_over t.levels) p gone there.0 in
      let at = over t.levels path.0 p path.2 in
      (stands p path.0 at.0 (goes path.0 path.1) at.1, not_false (holds_one left p) there.1)

  is_lost : (p : Spot) → fin.contains_key t.stamps p ≡ true → holds_one left p ≡ false → list_any (eq_by_cmp spot_cmp p) lost ≡ true
  is_lost p e none =
      let two = stood p e in
      let cell = from_holds cells p two.1 in ⊎_elim
      (λ stays. let wrong : false ≡ true = sym none ∙ holds left p cell.0 stays cell.2 in absurd cc)
      (λ went. in_any spot_total p lost (in_filter (λ p. not (holds_one left p)) p (flat_map (spots_over t.levels) gone) (in_flat_map (spots_over t.levels) cell.0 p gone went (is_over t.levels cell.0 p two.0 cell.2)) (ap not none)))
      (all cell.0 cell.1)

  abbrev G : set.FinSet spot_cmp
  G = set.from_list lost

  abbrev old : set.FinSet spot_cmp
  old = keys_of spot_total t.stamps

  abbrev new : set.FinSet spot_cmp
  new = keys_of spot_total after.stamps

  whole : set.union new G ≡ old
  whole = set.same_set spot_total spot_ties _ _ (λ p.
      set.contains-union spot_total new G p ∙ (λ i. contains_keys spot_total after.stamps p i || set.contains-from_list spot_total lost p i)
      ∙ both_ways _ _
      (one_of (fin.contains_key after.stamps p) (list_any (eq_by_cmp spot_cmp p) lost) (fin.contains_key t.stamps p ≡ true) (λ e. (left_over p e).0) (λ e. (lost_one p e).0))
      (λ e. so p e (holds_one left p) refl)
      ∙ sym (contains_keys spot_total t.stamps p))
    where
      so : (p : Spot) → fin.contains_key t.stamps p ≡ true → (b : Bool) → holds_one left p ≡ b → (fin.contains_key after.stamps p || list_any (eq_by_cmp spot_cmp p) lost) ≡ true
      so p e true h = left_true _ _ (stays p (stood p e).0 h)
      so p e false h = right_true _ _ (is_lost p e h)

  apart : set.difference G new ≡ G
  apart = set.same_set spot_total spot_ties _ _ (λ p.
      set.contains-difference spot_total G new p ∙ none_both (set.contains G p) (set.contains new p)
      (λ e. contains_keys spot_total after.stamps p ∙ so p (lost_one p (sym (set.contains-from_list spot_total lost p) ∙ e)).1 (fin.contains_key after.stamps p) refl))
    where
      so : (p : Spot) → holds_one left p ≡ false → (b : Bool) → fin.contains_key after.stamps p ≡ b → b ≡ false
      so p none true e = sym (left_over p e).1 ∙ none
      so p none false e = refl

  -- A removal takes so many positions.
  pub erased_len : fin.len (erased s start gone left t).stamps + taken_by t gone left ≡ fin.len t.stamps
  unfolding taken_by
  erased_len =
      let sum : set.len (set.union new G) ≡ set.len new + set.len (set.difference G new) = len_union spot_total spot_ties new G in
      let before : set.len (set.union new G) ≡ fin.len t.stamps = ap set.len whole ∙ len_keys spot_total t.stamps in
      let now_is : set.len new ≡ fin.len after.stamps = len_keys spot_total after.stamps in
      let went : set.len (set.difference G new) ≡ set.len G = ap set.len apart in
      omega (arith, sum, before, now_is, went)

-- ---- one cell

none_in_row : (test : Spot → Bool) (g : ℕ → ℕ) (a b n x : ℕ) → a < b → In (a, x) (filter test (row g b n)) → ⊥
none_in_row test g a b n x lt h =
    let there = from_map (λ (k : ℕ). (k, g k)) (a, x) (range_with_len b n) (from_filter test (a, x) (row g b n) h).0 in
    let low : b ≤ there.0 = (from_range b n there.0 there.1).0 in
    let same : there.0 ≡ a = ap (λ (p : Spot). p.0) there.2 in
    omega (arith, low, same, lt)

row_set : (test : Spot → Bool) (g : ℕ → ℕ) (a n : ℕ) → set.len (set.from_list {R = spot_cmp} (filter test (row g a n))) ≡ counted (λ k. test (k, g k)) a n
row_set test g a zero = set.len-empty spot_cmp
row_set test g a (suc n) = so (row_set test g (a + 1) n) (test (a, g a)) refl
  where
    absent : (b : Bool) → list_any (eq_by_cmp spot_cmp (a, g a)) (filter test (row g (a + 1) n)) ≡ b → b ≡ false
    absent false e = refl
    absent true e = absurd (none_in_row test g a (a + 1) n (g a) (omega arith) (any_in spot_ties (a, g a) (filter test (row g (a + 1) n)) e))

    so : set.len (set.from_list {R = spot_cmp} (filter test (row g (a + 1) n))) ≡ counted (λ k. test (k, g k)) (a + 1) n → (b : Bool) → test (a, g a) ≡ b → set.len (set.from_list {R = spot_cmp} (cond b ((a, g a) ∷ filter test (row g (a + 1) n)) (filter test (row g (a + 1) n)))) ≡ counted (λ k. test (k, g k)) a (suc n)
    so rest true e =
        let there = set.contains-from_list spot_total (filter test (row g (a + 1) n)) (a, g a) ∙ absent _ refl in
        let more : set.len (set.from_list {R = spot_cmp} ((a, g a) ∷ filter test (row g (a + 1) n))) ≡ set.len (set.from_list {R = spot_cmp} (filter test (row g (a + 1) n))) + 1 =
        set.len-insert spot_total (set.from_list (filter test (row g (a + 1) n))) (a, g a) ∙ ap (λ b. cond b (set.len (set.from_list {R = spot_cmp} (filter test (row g (a + 1) n)))) (set.len (set.from_list {R = spot_cmp} (filter test (row g (a + 1) n))) + 1)) there in
        omega (arith, more, rest, counted_suc (λ k. test (k, g k)) a n, ap {B = ℕ} (λ b. cond b 1 0) e)
    so rest false e = omega (arith, rest, counted_suc (λ k. test (k, g k)) a n, ap {B = ℕ} (λ b. cond b 1 0) e)

-- With one cell go the places on its path of which the range holds no cell that is left.
pub cleared : (t : Tree) (i : ℕ) (left : List ℕ) → taken_by t (i ∷ []) left ≡ counted (λ k. not (holds_one left (k, i / fan ^ k))) 0 (t.levels + 1)
unfolding taken_by spots_over
cleared t i left =
    ap (λ (ps : List Spot). set.len (set.from_list {R = spot_cmp} (filter (λ p. not (holds_one left p)) ps))) (append-nil (row (λ k. i / fan ^ k) 0 (t.levels + 1)))
    ∙ row_set (λ p. not (holds_one left p)) (λ k. i / fan ^ k) 0 (t.levels + 1)
