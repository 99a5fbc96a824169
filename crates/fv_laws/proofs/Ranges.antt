-- How many numbers of a range pass a test.
use Rattle.std.proofs.Common.{◌≡◌, ℕ, zero, suc, ◌+◌, ◌<◌, ◌≤◌, Bool, true, false, cond, not, count_by, refl, sym, ap, ap₂, ◌∙◌, arith}
use Rattle.std.specs.List.{range_with_len}
use Rattle.std.proofs.lemmas.List.Sums.{sum_by-cons}

-- how many numbers pass, of n numbers from a on
abbrev pub counted : (ℕ → Bool) → ℕ → ℕ → ℕ
counted p a n = count_by p (range_with_len a n)

pub counted_suc : (p : ℕ → Bool) (a n : ℕ) → counted p a (suc n) ≡ cond (p a) 1 0 + counted p (a + 1) n
counted_suc p a n = sum_by-cons (λ k. cond (p k) 1 0) a (range_with_len (a + 1) n)

-- tests that answer the same count the same
pub counted_same : (p q : ℕ → Bool) (a n : ℕ) → ((k : ℕ) → a ≤ k → k < a + n → p k ≡ q k) → counted p a n ≡ counted q a n
counted_same p q a zero same = refl
counted_same p q a (suc n) same =
    let rest = counted_same p q (a + 1) n (λ k low high. same k (omega (arith, low)) (omega (arith, high))) in
    counted_suc p a n ∙ ap₂ (λ t x. cond t 1 0 + x) (same a (omega arith) (omega arith)) rest ∙ sym (counted_suc q a n)

-- ranges that meet
pub counted_add : (p : ℕ → Bool) (a m n : ℕ) → counted p a (m + n) ≡ counted p a m + counted p (a + m) n
counted_add p a zero n =
    let start : a ≡ a + 0 = omega arith in
    let none : 0 + n ≡ n = omega arith in
    ap (counted p a) none ∙ ap (λ k. counted p k n) start ∙ (let e : counted p (a + 0) n ≡ 0 + counted p (a + 0) n = omega arith in e)
counted_add p a (suc m) n =
    let all : suc m + n ≡ suc (m + n) = omega arith in
    let next : (a + 1) + m ≡ a + suc m = omega arith in
    let rest = counted_add p (a + 1) m n in
    let moved : counted p ((a + 1) + m) n ≡ counted p (a + suc m) n = ap (λ k. counted p k n) next in
    let whole : counted p a (suc m + n) ≡ counted p a (suc (m + n)) = ap (counted p a) all in
    omega (arith, whole, counted_suc p a (m + n), counted_suc p a m, rest, moved)

-- those that pass and those that don't
pub counted_not : (p : ℕ → Bool) (a n : ℕ) → counted (λ k. not (p k)) a n + counted p a n ≡ n
counted_not p a zero = refl
counted_not p a (suc n) = omega (arith, counted_suc (λ k. not (p k)) a n, counted_suc p a n, counted_not p (a + 1) n, one (p a))
  where
    one : (b : Bool) → cond (not b) 1 0 + cond b 1 0 ≡ 1
    one true = refl
    one false = refl

-- all pass
pub counted_all : (p : ℕ → Bool) (a n : ℕ) → ((k : ℕ) → a ≤ k → k < a + n → p k ≡ true) → counted p a n ≡ n
counted_all p a zero each = refl
counted_all p a (suc n) each =
    let here : cond {A = ℕ} (p a) 1 0 ≡ 1 = ap {B = ℕ} (λ b. cond b 1 0) (each a (omega arith) (omega arith)) in
    let rest = counted_all p (a + 1) n (λ k low high. each k (omega (arith, low)) (omega (arith, high))) in
    omega (arith, counted_suc p a n, here, rest)

-- none passes
pub counted_none : (p : ℕ → Bool) (a n : ℕ) → ((k : ℕ) → a ≤ k → k < a + n → p k ≡ false) → counted p a n ≡ 0
counted_none p a zero each = refl
counted_none p a (suc n) each =
    let here : cond {A = ℕ} (p a) 1 0 ≡ 0 = ap {B = ℕ} (λ b. cond b 1 0) (each a (omega arith) (omega arith)) in
    let rest = counted_none p (a + 1) n (λ k low high. each k (omega (arith, low)) (omega (arith, high))) in
    omega (arith, counted_suc p a n, here, rest)
