-- Numbers of a range against the members of a set: where different numbers have different members, and all of them, both are as many.
use Rattle.std.proofs.Common.{◌≡◌, ℕ, zero, suc, ◌+◌, ◌-◌, ◌<◌, ◌≤◌, Bool, true, false, cond, not, List, map, filter, refl, ap, ◌∙◌, arith, ⊎_elim}
use Rattle.std.specs.Prelude.{◌&&◌, count_by}
use Rattle.std.specs.List.{range_with_len}
use Rattle.std.specs.declared.cmp.Ordering.{Ordering}
use Rattle.std.specs.Ordering.{eq_by_cmp}
use Rattle.std.specs.Cmp.{IsTotalOrder}
use Rattle.std.specs.FinSet as set
use Rattle.std.proofs.lemmas.Bool.{both_ways, cases_eq}
use Rattle.std.proofs.lemmas.List.{length-map}
use Rattle.std.proofs.lemmas.List.Sums.{sum_by-cons, length-filter}
use Rattle.fv_laws.proofs.SetCounts.{len_part}
use Rattle.fv_laws.proofs.Counts.{len_list}
use Rattle.fv_laws.proofs.Lists.{in_map, in_filter, in_range}
use Rattle.fv_laws.proofs.Tests.{to_any}

-- how many of so many numbers from one on pass
abbrev pub counted : (ℕ → Bool) → ℕ → ℕ → ℕ
counted p from count = count_by p (range_with_len from count)

one_more : (p : ℕ → Bool) (from count : ℕ) → counted p from (suc count) ≡ cond (p from) 1 0 + counted p (from + 1) count
one_more p from count = sum_by-cons (λ k. cond (p k) 1 0) from (range_with_len (from + 1) count)

-- a number of a range that passes, and whose member this is
pub record Found {K : Type 0} (R : K → K → Ordering) (p : ℕ → Bool) (f : ℕ → K) (from count : ℕ) (k : K) : Type 0 where
  pub at : ℕ
  pub low : from ≤ at
  pub high : at < from + count
  pub passes : p at ≡ true
  pub same : eq_by_cmp R k (f at) ≡ true

module _ {K : Type 0} {R : K → K → Ordering} (o : IsTotalOrder R) (p : ℕ → Bool) (f : ℕ → K) where
  some_len : (s : set.FinSet R) (q : K) → set.contains s q ≡ true → 1 ≤ set.len s
  some_len s q there = ⊎_elim
      (λ (none : set.len s ≡ 0). absurd (both_ways (set.contains s q) (ap (λ (t : set.FinSet R). set.contains t q) (set.empty_of_len s none) ∙ set.contains-empty R q) there))
      (λ some. omega arith)
      (cases_eq (set.len s) 0)

  -- Numbers that have different members of a set are at most as many as the set has.
  pub count_within : ((v k : ℕ) → p v ≡ true → p k ≡ true → v < k → eq_by_cmp R (f k) (f v) ≡ false) → (from count : ℕ) (s : set.FinSet R)
      → ((v : ℕ) → from ≤ v → v < from + count → p v ≡ true → set.contains s (f v) ≡ true) → counted p from count ≤ set.len s
  count_within apart from zero s each = omega arith
  count_within apart from (suc count) s each = so (p from) refl (λ t more. count_within apart (from + 1) count t more)
    where
      so : (b : Bool) → p from ≡ b → ((t : set.FinSet R) → ((v : ℕ) → from + 1 ≤ v → v < from + 1 + count → p v ≡ true → set.contains t (f v) ≡ true) → counted p (from + 1) count ≤ set.len t) → counted p from (suc count) ≤ set.len s
      so false e rest =
          let more = rest s (λ v low high is. each v (omega (arith, low)) (omega (arith, high)) is) in
          omega (arith, one_more p from count, ap {B = ℕ} (λ t. cond t 1 0) e, more)
      so true e rest =
          let here : set.contains s (f from) ≡ true = each from (omega arith) (omega arith) e in
          let more = rest (set.remove s (f from)) (λ v low high is. set.contains-remove o s (f from) (f v)
          ∙ (λ i. not (apart from v e is (omega (arith, low)) i) && each v (omega (arith, low)) (omega (arith, high)) is i)) in
          let len : set.len (set.remove s (f from)) ≡ set.len s - 1 = set.len-remove o s (f from) ∙ ap (λ (b : Bool). cond b (set.len s - 1) (set.len s)) here in
          omega (arith, one_more p from count, ap {B = ℕ} (λ t. cond t 1 0) e, more, len, some_len s (f from) here)

  -- A set whose members are all found among numbers has at most as many.
  pub count_covers : set.IsAntisymmetric R → (from count : ℕ) (s : set.FinSet R) → ((k : K) → set.contains s k ≡ true → Found R p f from count k) → set.len s ≤ counted p from count
  count_covers ties from count s found =
      let passing : List ℕ = filter p (range_with_len from count) in
      let part = len_part o ties s (set.from_list (map f passing)) (λ k there.
      let at = found k there in
      set.contains-from_list o (map f passing) k ∙ to_any (eq_by_cmp R k) (f at.at) (map f passing)
      (in_map f at.at passing (in_filter p at.at (range_with_len from count) (in_range from count at.at at.low at.high) at.passes)) at.same) in
      omega (arith, part, len_list o ties (map f passing), length-map passing f, length-filter p (range_with_len from count))

  -- Where they have different members and all of them, both are as many.
  pub count_exact : set.IsAntisymmetric R → ((v k : ℕ) → p v ≡ true → p k ≡ true → v < k → eq_by_cmp R (f k) (f v) ≡ false) → (from count : ℕ) (s : set.FinSet R)
      → ((v : ℕ) → from ≤ v → v < from + count → p v ≡ true → set.contains s (f v) ≡ true)
      → ((k : K) → set.contains s k ≡ true → Found R p f from count k) → counted p from count ≡ set.len s
  count_exact ties apart from count s each found = omega (arith, count_within apart from count s each, count_covers ties from count s found)
