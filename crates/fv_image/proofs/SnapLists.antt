-- Snapshots stay in their slots, under different names, where one is made or removed; and clones find theirs still.
use Rattle.std.proofs.Common.{◌≡◌, ◌≢◌, ℕ, ◌<◌, ◌≤◌, Bool, true, false, cond, not, List, [], ◌∷◌, map, filter, refl, sym, ap, ◌∙◌, arith}
use Rattle.std.specs.Prelude.{Some, None, ◌&&◌, ◌==◌, find, nat_lt, nat_le, if◌then◌else◌}
use Rattle.std.specs.List.{list_all, list_any}
use Rattle.std.proofs.lemmas.Bool.{and_parts, and_from, or_parts, or_from, not_from_false, not-true}
use Rattle.std.proofs.lemmas.Bool.Decides.{nat_tests}
use Rattle.std.proofs.lemmas.List.Folds.{list_all-map}
use Rattle.std.proofs.lemmas.Cmp.{eq_by_cmp_equiv}
use Rattle.fv_model.specs.Spelling.{is_same_name}
use Rattle.fv_laws.proofs.Orders.{name_total}
use Rattle.fv_laws.proofs.Lists.{In}
use Rattle.fv_laws.proofs.Tests.{from_all, to_all}
use Rattle.fv_image.specs.Views.{Rooted, Snap, Footing, Head, View}
use Rattle.fv_image.specs.Volumes.{snap_at}
use Rattle.fv_image.specs.ReachRules.{are_distinct}
use Rattle.fv_image.specs.Turned.{turned, KeepsBases, added, without}
use Rattle.fv_image.specs.Mapped.{stored_slots, is_rising, AreInSlots}
use Rattle.fv_image.proofs.MapSteps.{find_added, find_without}

-- ---- one more

module _ (p : Snap) where
  all_added : (test : Snap → Bool) (ps : List Snap) → test p ≡ true → list_all test ps ≡ true → list_all test (added p ps) ≡ true
  unfolding added
  all_added test [] one all = and_from (test p) true one refl
  all_added test (q ∷ qs) one all = so (nat_lt p.slot q.slot) (and_parts (test q) (list_all test qs) all) (λ f. all_added test qs one f)
    where
      so : (b : Bool) → (test q ≡ true) × (list_all test qs ≡ true) → (list_all test qs ≡ true → list_all test (added p qs) ≡ true) → list_all test (if b then p ∷ (q ∷ qs) else q ∷ added p qs) ≡ true
      so true parts rest = and_from (test p) _ one all
      so false parts rest = and_from (test q) _ parts.0 (rest parts.1)

  none_added : (test : List ℕ → Bool) (ps : List Snap) → test p.name ≡ false → list_any test (map (λ p. p.name) ps) ≡ false → list_any test (map (λ p. p.name) (added p ps)) ≡ false
  unfolding added
  none_added test [] one none = or_from (test p.name) false one refl
  none_added test (q ∷ qs) one none = so (nat_lt p.slot q.slot) (or_parts (test q.name) (list_any test (map (λ p. p.name) qs)) none) (λ f. none_added test qs one f)
    where
      so : (b : Bool) → (test q.name ≡ false) × (list_any test (map (λ p. p.name) qs) ≡ false) → (list_any test (map (λ p. p.name) qs) ≡ false → list_any test (map (λ p. p.name) (added p qs)) ≡ false) → list_any test (map (λ p. p.name) (if b then p ∷ (q ∷ qs) else q ∷ added p qs)) ≡ false
      so true parts rest = or_from (test p.name) _ one none
      so false parts rest = or_from (test q.name) _ parts.0 (rest parts.1)

  -- above a number, slot by slot
  over : (n : ℕ) (ps : List Snap) → list_all (nat_lt n) (map (λ p. p.slot) ps) ≡ list_all (λ (d : Snap). nat_lt n d.slot) ps
  over n ps = list_all-map (nat_lt n) (λ (d : Snap). d.slot) ps

  rising_added : (ps : List Snap) → is_rising (map (λ p. p.slot) ps) ≡ true → find (λ q. q.slot == p.slot) ps ≡ None → is_rising (map (λ p. p.slot) (added p ps)) ≡ true
  unfolding added
  rising_added [] rising free = refl
  rising_added (q ∷ qs) rising free = so (nat_lt p.slot q.slot) refl (q.slot == p.slot) refl free (λ f. rising_added qs parts.1 f)
    where
      parts : (list_all (nat_lt q.slot) (map (λ p. p.slot) qs) ≡ true) × (is_rising (map (λ p. p.slot) qs) ≡ true)
      parts = and_parts (list_all (nat_lt q.slot) (map (λ p. p.slot) qs)) _ rising

      later : list_all (λ (d : Snap). nat_lt q.slot d.slot) qs ≡ true
      later = sym (over q.slot qs) ∙ parts.0

      so : (b : Bool) → nat_lt p.slot q.slot ≡ b → (c : Bool) → (q.slot == p.slot) ≡ c → (if c then Some q else find (λ d. d.slot == p.slot) qs) ≡ None → (find (λ d. d.slot == p.slot) qs ≡ None → is_rising (map (λ p. p.slot) (added p qs)) ≡ true)
          → is_rising (map (λ p. p.slot) (if b then p ∷ (q ∷ qs) else q ∷ added p qs)) ≡ true
      so b first true same none rest = absurd cc
      so true first false differ none rest =
          let lt : p.slot < q.slot = grind (arith, nat_tests, first) in
          and_from (list_all (nat_lt p.slot) (map (λ p. p.slot) (q ∷ qs))) _
          (and_from (nat_lt p.slot q.slot) _ first (over p.slot qs ∙ to_all (λ (d : Snap). nat_lt p.slot d.slot) qs (λ d there. let more : nat_lt q.slot d.slot ≡ true = from_all (λ (d : Snap). nat_lt q.slot d.slot) qs later d there in let gt : q.slot < d.slot = grind (arith, nat_tests, more) in let all : p.slot < d.slot = omega (arith, lt, gt) in grind (arith, nat_tests, all))))
          rising
      so false first false differ none rest =
          let ge : q.slot ≤ p.slot = grind (arith, nat_tests, first) in
          let ne : q.slot ≢ p.slot = (λ e. absurd (let same : (q.slot == p.slot) ≡ true = grind (arith, nat_tests, e) in wrong (sym differ ∙ same))) in
          let lt : q.slot < p.slot = omega (arith, ge, ne) in
          let one : nat_lt q.slot p.slot ≡ true = grind (arith, nat_tests, lt) in
          and_from (list_all (nat_lt q.slot) (map (λ p. p.slot) (added p qs))) _ (over q.slot (added p qs) ∙ all_added (λ (d : Snap). nat_lt q.slot d.slot) qs one later) (rest none)
        where
          wrong : false ≡ true → ⊥
          wrong e = cc

  -- A snapshot that takes a free slot stands in it.
  pub slots_added : (h : Head) (a : Rooted) → AreInSlots h → 1 ≤ p.slot → p.slot < stored_slots → snap_at h p.slot ≡ None → AreInSlots (turned h a (added p h.snapshots))
  unfolding snap_at
  slots_added h a is some low free = record {
    within = all_added (λ p. nat_le 1 p.slot && nat_lt p.slot stored_slots) h.snapshots (let first : nat_le 1 p.slot ≡ true = grind (arith, nat_tests, some) in let second : nat_lt p.slot stored_slots ≡ true = grind (arith, nat_tests, low) in and_from (nat_le 1 p.slot) _ first second) is.within;
    rising = rising_added h.snapshots is.rising free;
  }

  same_turned : (a b : List ℕ) → is_same_name a b ≡ false → is_same_name b a ≡ false
  same_turned a b e = (eq_by_cmp_equiv name_total).symm b a ∙ e

  -- Names stay different ones with a new one.
  pub distinct_added : (ps : List Snap) → are_distinct (map (λ p. p.name) ps) ≡ true → list_any (is_same_name p.name) (map (λ p. p.name) ps) ≡ false → are_distinct (map (λ p. p.name) (added p ps)) ≡ true
  unfolding added
  distinct_added [] distinct none = refl
  distinct_added (q ∷ qs) distinct none = so (nat_lt p.slot q.slot) (and_parts (not (list_any (is_same_name q.name) (map (λ p. p.name) qs))) _ distinct) (or_parts (is_same_name p.name q.name) _ none) (λ f g. distinct_added qs f g)
    where
      so : (b : Bool) → (not (list_any (is_same_name q.name) (map (λ p. p.name) qs)) ≡ true) × (are_distinct (map (λ p. p.name) qs) ≡ true) → (is_same_name p.name q.name ≡ false) × (list_any (is_same_name p.name) (map (λ p. p.name) qs) ≡ false)
          → (are_distinct (map (λ p. p.name) qs) ≡ true → list_any (is_same_name p.name) (map (λ p. p.name) qs) ≡ false → are_distinct (map (λ p. p.name) (added p qs)) ≡ true)
          → are_distinct (map (λ p. p.name) (if b then p ∷ (q ∷ qs) else q ∷ added p qs)) ≡ true
      so true parts others rest = and_from (not (list_any (is_same_name p.name) (map (λ p. p.name) (q ∷ qs)))) _ (not_from_false _ none) distinct
      so false parts others rest = and_from (not (list_any (is_same_name q.name) (map (λ p. p.name) (added p qs)))) _
          (not_from_false _ (none_added (is_same_name q.name) qs (same_turned p.name q.name others.0) (not-true _ parts.0))) (rest parts.1 others.1)

-- ---- one less

module _ {X : Type 0} (keep : X → Bool) where
  all_kept : (test : X → Bool) (xs : List X) → list_all test xs ≡ true → list_all test (filter keep xs) ≡ true
  all_kept test [] all = refl
  all_kept test (x ∷ xs) all = so (keep x) (and_parts (test x) (list_all test xs) all) (λ f. all_kept test xs f)
    where
      so : (b : Bool) → (test x ≡ true) × (list_all test xs ≡ true) → (list_all test xs ≡ true → list_all test (filter keep xs) ≡ true) → list_all test (cond b (x ∷ filter keep xs) (filter keep xs)) ≡ true
      so true parts rest = and_from (test x) _ parts.0 (rest parts.1)
      so false parts rest = rest parts.1

module _ (keep : Snap → Bool) where
  none_kept : (test : List ℕ → Bool) (ps : List Snap) → list_any test (map (λ p. p.name) ps) ≡ false → list_any test (map (λ p. p.name) (filter keep ps)) ≡ false
  none_kept test [] none = refl
  none_kept test (q ∷ qs) none = so (keep q) (or_parts (test q.name) _ none) (λ f. none_kept test qs f)
    where
      so : (b : Bool) → (test q.name ≡ false) × (list_any test (map (λ p. p.name) qs) ≡ false) → (list_any test (map (λ p. p.name) qs) ≡ false → list_any test (map (λ p. p.name) (filter keep qs)) ≡ false) → list_any test (map (λ p. p.name) (cond b (q ∷ filter keep qs) (filter keep qs))) ≡ false
      so true parts rest = or_from (test q.name) _ parts.0 (rest parts.1)
      so false parts rest = rest parts.1

  rising_kept : (ps : List Snap) → is_rising (map (λ p. p.slot) ps) ≡ true → is_rising (map (λ p. p.slot) (filter keep ps)) ≡ true
  rising_kept [] rising = refl
  rising_kept (q ∷ qs) rising = so (keep q) (and_parts (list_all (nat_lt q.slot) (map (λ p. p.slot) qs)) _ rising) (λ f. rising_kept qs f)
    where
      so : (b : Bool) → (list_all (nat_lt q.slot) (map (λ p. p.slot) qs) ≡ true) × (is_rising (map (λ p. p.slot) qs) ≡ true) → (is_rising (map (λ p. p.slot) qs) ≡ true → is_rising (map (λ p. p.slot) (filter keep qs)) ≡ true)
          → is_rising (map (λ p. p.slot) (cond b (q ∷ filter keep qs) (filter keep qs))) ≡ true
      so true parts rest = and_from (list_all (nat_lt q.slot) (map (λ p. p.slot) (filter keep qs))) _
          (list_all-map (nat_lt q.slot) (λ (d : Snap). d.slot) (filter keep qs) ∙ all_kept keep (λ (d : Snap). nat_lt q.slot d.slot) qs (sym (list_all-map (nat_lt q.slot) (λ (d : Snap). d.slot) qs) ∙ parts.0)) (rest parts.1)
      so false parts rest = rest parts.1

  distinct_kept : (ps : List Snap) → are_distinct (map (λ p. p.name) ps) ≡ true → are_distinct (map (λ p. p.name) (filter keep ps)) ≡ true
  distinct_kept [] distinct = refl
  distinct_kept (q ∷ qs) distinct = so (keep q) (and_parts (not (list_any (is_same_name q.name) (map (λ p. p.name) qs))) _ distinct) (λ f. distinct_kept qs f)
    where
      so : (b : Bool) → (not (list_any (is_same_name q.name) (map (λ p. p.name) qs)) ≡ true) × (are_distinct (map (λ p. p.name) qs) ≡ true) → (are_distinct (map (λ p. p.name) qs) ≡ true → are_distinct (map (λ p. p.name) (filter keep qs)) ≡ true)
          → are_distinct (map (λ p. p.name) (cond b (q ∷ filter keep qs) (filter keep qs))) ≡ true
      so true parts rest = and_from (not (list_any (is_same_name q.name) (map (λ p. p.name) (filter keep qs)))) _ (not_from_false _ (none_kept (is_same_name q.name) qs (not-true _ parts.0))) (rest parts.1)
      so false parts rest = rest parts.1

pub slots_without : (h : Head) (a : Rooted) (name : List ℕ) → AreInSlots h → AreInSlots (turned h a (without name h.snapshots))
slots_without h a name is = record {
  within = all_kept (λ p. not (is_same_name p.name name)) (λ p. nat_le 1 p.slot && nat_lt p.slot stored_slots) h.snapshots is.within;
  rising = rising_kept (λ p. not (is_same_name p.name name)) h.snapshots is.rising;
}

pub distinct_without : (name : List ℕ) (ps : List Snap) → are_distinct (map (λ p. p.name) ps) ≡ true → are_distinct (map (λ p. p.name) (without name ps)) ≡ true
distinct_without name ps distinct = distinct_kept (λ p. not (is_same_name p.name name)) ps distinct

-- ---- clones

-- A new snapshot is none that a clone stands on, where each clone finds its own,
pub created_bases : (w : View) (s : ℕ) (h : Head) (p : Snap) → snap_at h p.slot ≡ None → ((k : ℕ) (g : Head) (b : Footing) → w.head k ≡ Some g → g.base ≡ Some b → b.parent ≡ s → snap_at h b.slot ≢ None) → KeepsBases w s h (added p h.snapshots)
unfolding snap_at
created_bases w s h p free stands = record {
  each = λ k g b there based at. find_added p h.snapshots b.slot free ∙ ap (λ (t : Bool). if t then Some p else find (λ q. q.slot == b.slot) h.snapshots)
      (let other : p.slot ≢ b.slot = (λ e. absurd (stands k g b there based at (ap (λ (n : ℕ). find (λ q. q.slot == n) h.snapshots) (sym e) ∙ free))) in unequal p.slot b.slot other);
}
  where
    unequal : (a b : ℕ) → a ≢ b → (a == b) ≡ false
    unequal a b e = grind (arith, nat_tests, e)

-- and one that is removed is none, where no clone stands on it.
pub deleted_bases : (w : View) (s : ℕ) (h : Head) (p : Snap) → ((q : Snap) → In q h.snapshots → is_same_name q.name p.name ≡ (q.slot == p.slot)) → ((k : ℕ) (g : Head) (b : Footing) → w.head k ≡ Some g → g.base ≡ Some b → b.parent ≡ s → b.slot ≢ p.slot)
    → KeepsBases w s h (without p.name h.snapshots)
unfolding snap_at
deleted_bases w s h p same free = record {
  each = λ k g b there based at. find_without p.name p.slot h.snapshots b.slot same ∙ ap (λ (t : Bool). if t then None else find (λ q. q.slot == b.slot) h.snapshots) (unequal b.slot p.slot (free k g b there based at));
}
  where
    unequal : (a b : ℕ) → a ≢ b → (a == b) ≡ false
    unequal a b e = grind (arith, nat_tests, e)
