-- Numbers of levels against the members of a set: where different numbers have different members, and all of them, both are as many.
use Rattle.std.proofs.Common.{◌≡◌, ℕ, zero, suc, ◌+◌, ◌<◌, ◌≤◌, Bool, true, false, not, List, map, filter, refl, sym, ap, ◌∙◌, arith, ⊎_elim}
use Rattle.std.specs.Prelude.{count_by, sum_by}
use Rattle.std.specs.List.{range_with_len}
use Rattle.std.specs.declared.cmp.Ordering.{Ordering}
use Rattle.std.specs.Ordering.{eq_by_cmp}
use Rattle.std.specs.Cmp.{IsTotalOrder, Equal-is}
use Rattle.std.specs.FinSet as set
use Rattle.std.proofs.lemmas.Bool.{and_parts, and_from, both_ways, cases_eq, false_from_ne_true}
use Rattle.std.proofs.lemmas.Cmp.{eq_by_cmp_equiv}
use Rattle.std.proofs.lemmas.List.Sums.{sum_by-cons}
use Rattle.fv_laws.proofs.Counts.{len_difference}
use Rattle.fv_laws.proofs.Exact.{count_exact}
use Rattle.fv_laws.proofs.Lists.{any_in, in_any, in_map, from_map, in_filter, from_filter, in_range, from_range}

-- a number of one of so many levels that passes, and whose member this is
pub record FoundAt {K : Type 0} (test : ℕ → ℕ → Bool) (wide : ℕ → ℕ) (f : ℕ → ℕ → K) (from count : ℕ) (q : K) : Type 0 where
  pub level : ℕ
  pub place : ℕ
  pub low : from ≤ level
  pub high : level < from + count
  pub within : place < wide level
  pub passes : test level place ≡ true
  pub same : f level place ≡ q

module _ {K : Type 0} {R : K → K → Ordering} (o : IsTotalOrder R) (ties : set.IsAntisymmetric R) (test : ℕ → ℕ → Bool) (wide : ℕ → ℕ) (f : ℕ → ℕ → K)
    (levels_apart : (k p l q : ℕ) → f k p ≡ f l q → k ≡ l) (apart : (k p q : ℕ) → f k p ≡ f k q → p ≡ q) where
  -- those of one level
  abbrev members : ℕ → List K
  members k = map (f k) (filter (test k) (range_with_len 0 (wide k)))

  abbrev level_set : ℕ → set.FinSet R
  level_set k = set.from_list (members k)

  in_level : (k p : ℕ) → p < wide k → test k p ≡ true → set.contains (level_set k) (f k p) ≡ true
  in_level k p lt is = set.contains-from_list o (members k) (f k p)
      ∙ in_any o (f k p) (members k) (in_map (f k) p (filter (test k) (range_with_len 0 (wide k))) (in_filter (test k) p (range_with_len 0 (wide k)) (in_range 0 (wide k) p (omega arith) (omega (arith, lt))) is))

  from_level : (k : ℕ) (q : K) → set.contains (level_set k) q ≡ true → (p : ℕ) × ((p < wide k) × (test k p ≡ true) × (f k p ≡ q))
  from_level k q there =
      let one = from_map (f k) q (filter (test k) (range_with_len 0 (wide k))) (any_in ties q (members k) (sym (set.contains-from_list o (members k) q) ∙ there)) in
      let passed = from_filter (test k) one.0 (range_with_len 0 (wide k)) one.1 in
      let high = (from_range 0 (wide k) one.0 passed.0).1 in
      (one.0, (omega (arith, high), passed.1, one.2))

  -- so many levels
  abbrev pub counted_levels : ℕ → ℕ → ℕ
  counted_levels from count = sum_by (λ k. count_by (test k) (range_with_len 0 (wide k))) (range_with_len from count)

  abbrev HasAll : ℕ → ℕ → set.FinSet R → Type 0
  HasAll from count s = (k p : ℕ) → from ≤ k → k < from + count → p < wide k → test k p ≡ true → set.contains s (f k p) ≡ true

  abbrev HasOnly : ℕ → ℕ → set.FinSet R → Type 0
  HasOnly from count s = (q : K) → set.contains s q ≡ true → FoundAt test wide f from count q

  one_level : (from count : ℕ) (s : set.FinSet R) → HasAll from (suc count) s → count_by (test from) (range_with_len 0 (wide from)) ≡ set.len (set.intersection s (level_set from))
  one_level from count s all = count_exact o (test from) (f from) ties
      (λ v k a b lt. false_from_ne_true _ (λ e. absurd (let same : k ≡ v = apart from k v (ties (f from k) (f from v) ((Equal-is (R (f from k) (f from v))).0 e)) in omega (arith, lt, same))))
      0 (wide from) (set.intersection s (level_set from))
      (λ v low high is.
      let lt : v < wide from = omega (arith, high) in
      set.contains-intersection o s (level_set from) (f from v) ∙ and_from (set.contains s (f from v)) (set.contains (level_set from) (f from v)) (all from v (omega arith) (omega arith) lt is) (in_level from v lt is))
      (λ q there.
      let both = and_parts (set.contains s q) (set.contains (level_set from) q) (sym (set.contains-intersection o s (level_set from) q) ∙ there) in
      let p = from_level from q both.1 in
      let lt = p.1.0 in
      record { at = p.0; low = omega arith; high = omega (arith, lt); passes = p.1.1; same = ap (eq_by_cmp R q) p.1.2 ∙ (eq_by_cmp_equiv o).refl q })

  -- the levels above it
  rest_all : (from count : ℕ) (s : set.FinSet R) → HasAll from (suc count) s → HasAll (from + 1) count (set.difference s (level_set from))
  rest_all from count s all k p low high lt is =
      set.contains-difference o s (level_set from) (f k p) ∙ and_from (set.contains s (f k p)) (not (set.contains (level_set from) (f k p))) (all k p (omega (arith, low)) (omega (arith, high)) lt is) (ap not (false_from_ne_true (set.contains (level_set from) (f k p)) (λ e. absurd (
      let one = from_level from (f k p) e in
      let same : from ≡ k = levels_apart from one.0 k p one.1.2 in
      omega (arith, low, same)))))

  rest_only : (from count : ℕ) (s : set.FinSet R) → HasOnly from (suc count) s → HasOnly (from + 1) count (set.difference s (level_set from))
  rest_only from count s only q there =
      let both = and_parts (set.contains s q) (not (set.contains (level_set from) q)) (sym (set.contains-difference o s (level_set from) q) ∙ there) in
      let one = only q both.0 in
      let low = one.low in
      let high = one.high in
      let differs : from ≡ one.level → ⊥ = λ e. both_ways (set.contains (level_set from) q) (not_true (set.contains (level_set from) q) both.1)
      (ap (set.contains (level_set from)) (sym one.same) ∙ ap (λ k. set.contains (level_set k) (f one.level one.place)) e ∙ in_level one.level one.place one.within one.passes) in
      record {
        level = one.level;
        place = one.place;
        low = above from one.level low differs;
        high = omega (arith, high);
        within = one.within;
        passes = one.passes;
        same = one.same;
      }
    where
      not_true : (b : Bool) → not b ≡ true → b ≡ false
      not_true false e = refl
      not_true true e = sym e

      above : (a b : ℕ) → a ≤ b → (a ≡ b → ⊥) → a + 1 ≤ b
      above a b le apart = ⊎_elim (λ e. absurd (apart e)) (λ differs. omega (arith, le, differs)) (cases_eq a b)

  -- Where they have different members and all of them, both are as many.
  pub levels_exact : (from count : ℕ) (s : set.FinSet R) → HasAll from count s → HasOnly from count s → set.len s ≡ counted_levels from count
  levels_exact from zero s all only =
      ap set.len (set.same_set o ties s set.empty (λ q. false_from_ne_true _ (λ there. absurd (let one = only q there in let low = one.low in let high = one.high in omega (arith, low, high))) ∙ sym (set.contains-empty R q)))
      ∙ set.len-empty R
  levels_exact from (suc count) s all only =
      let parts = len_difference o ties s (level_set from) in
      let here = one_level from count s all in
      let rest = levels_exact (from + 1) count (set.difference s (level_set from)) (rest_all from count s all) (rest_only from count s only) in
      let sum = sum_by-cons (λ k. count_by (test k) (range_with_len 0 (wide k))) from (range_with_len (from + 1) count) in
      omega (arith, parts, here, rest, sum)
