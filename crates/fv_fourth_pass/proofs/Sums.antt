-- Sums and counts that a loop makes, number by number.
use Rattle.std.proofs.Common.{◌≡◌, ℕ, ◌+◌, Bool, true, false, cond, [], ◌∷◌, ◌++◌, ap, arith}
use Rattle.std.specs.Prelude.{count_by, sum_by}
use Rattle.std.specs.List.{range_with_len}
use Rattle.std.proofs.lemmas.List.Sums.{sum_by-append, sum_by-cons}
use Rattle.fv_first_pass.proofs.Ranges.{range_more}

pub sum_next : (f : ℕ → ℕ) (n : ℕ) → sum_by f (range_with_len 0 (n + 1)) ≡ sum_by f (range_with_len 0 n) + f n
sum_next f n =
    let more : sum_by f (range_with_len 0 (n + 1)) ≡ sum_by f (range_with_len 0 n ++ n ∷ []) = ap (sum_by f) (range_more 0 n n (omega arith)) in
    let both = sum_by-append f (range_with_len 0 n) (n ∷ []) in
    let one : sum_by f (n ∷ []) ≡ f n + 0 = sum_by-cons f n [] in
    omega (arith, more, both, one)

-- ---- counts

counted_more : (p : ℕ → Bool) (n : ℕ) → count_by p (range_with_len 0 (n + 1)) ≡ count_by p (range_with_len 0 n) + cond (p n) 1 0
counted_more p n = sum_next (λ k. cond (p k) 1 0) n

pub counted_yes : (p : ℕ → Bool) (n count : ℕ) → count ≡ count_by p (range_with_len 0 n) → p n ≡ true → count + 1 ≡ count_by p (range_with_len 0 (n + 1))
counted_yes p n count e is = omega (arith, e, counted_more p n, ap {B = ℕ} (λ (b : Bool). cond b 1 0) is)

pub counted_no : (p : ℕ → Bool) (n count : ℕ) → count ≡ count_by p (range_with_len 0 n) → p n ≡ false → count ≡ count_by p (range_with_len 0 (n + 1))
counted_no p n count e is = omega (arith, e, counted_more p n, ap {B = ℕ} (λ (b : Bool). cond b 1 0) is)
