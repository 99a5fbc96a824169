-- The least number of levels that cover an index.
use Rattle.std.proofs.Common.{◌≡◌, ℕ, suc, ◌^◌, ◌<◌, ◌≤◌, nat_lt, get_or, ◌≢◌, ◌/◌, ◌∙◌, arith}
use Rattle.std.specs.List.{range_with_len}
use Rattle.std.proofs.Math.Nat.{pow-le-pow_right, one-le-pow, le-div_iff_mul-le}
use Rattle.std.proofs.lemmas.List.Sums.{prefix_len_is}
use Rattle.std.proofs.lemmas.List.FromFn.{length-range_with_len, get_or-range_with_len}
use Rattle.std.proofs.lemmas.Bool.Decides.{nat_tests}
use Rattle.fv_model.specs.Trees.{fan, least_levels}

-- the least number of levels, by what makes it so
least_is : (n h : ℕ) → n ≤ fan ^ h → ((k : ℕ) → k < h → fan ^ k < n) → h ≤ n → least_levels n ≡ h
unfolding least_levels
least_is n h reaches before most =
    prefix_len_is (λ k. nat_lt (fan ^ k) n) (range_with_len 0 n) h 0 (omega (arith, length-range_with_len 0 n, most))
    (λ k lt. let at : get_or (range_with_len 0 n) k 0 ≡ k = get_or-range_with_len 0 n k 0 (omega arith) ∙ omega arith in
    let low : fan ^ k < n = before k lt in rw at (grind (arith, nat_tests)))
    (λ lt. let at : get_or (range_with_len 0 n) h 0 ≡ h = get_or-range_with_len 0 n h 0 (omega (arith, length-range_with_len 0 n)) ∙ omega arith in
    rw at (grind (arith, nat_tests)))

pub least_zero : (n : ℕ) → n ≤ 1 → least_levels n ≡ 0
least_zero n h = least_is n 0 h (λ k lt. absurd (omega arith)) (omega arith)

pub least_suc : (n h : ℕ) → fan ^ h < n → n ≤ fan ^ suc h → suc h ≤ n → least_levels n ≡ suc h
least_suc n h low high most =
    least_is n (suc h) high (λ k lt. let le : fan ^ k ≤ fan ^ h = pow-le-pow_right {n = fan} (omega arith) {i = k} {j = h} (omega arith) in omega arith) most

-- a range that begins after the first of its level
pub not_first : (i n : ℕ) → 0 < n → n ≤ i → i / n ≢ 0
not_first i n some le e = absurd (let low : 1 ≤ i / n = (le-div_iff_mul-le {x = 1} {y = i} some).1 (omega arith) in omega arith)

pub fan_pos : (k : ℕ) → 0 < fan ^ k
fan_pos k = one-le-pow k 128 (omega arith)

-- levels below the one that covers
pub lower_is : (i h : ℕ) → fan ^ h ≤ i → (level : ℕ) → level < suc h → fan ^ level ≤ i
lower_is i h le level lt = let up : fan ^ level ≤ fan ^ h = pow-le-pow_right {n = fan} (omega arith) {i = level} {j = h} (omega arith) in omega arith
