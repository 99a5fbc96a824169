-- Counts of a range that grows.
use Rattle.std.proofs.Common.{◌≡◌, ℕ, ◌+◌, ◌≤◌, Bool, true, false, cond, List, length, ap, arith}
use Rattle.fv_bits.specs.Members.{count_of}
use Rattle.fv_bits.proofs.Counts.{passing, passing-suc, passing-add}
use Rattle.fv_bits.proofs.Laws.{count_of-le}

-- one more number is counted exactly where it passes
counted_more : (p : ℕ → Bool) (n : ℕ) → passing p 0 (n + 1) ≡ passing p 0 n + cond (p n) 1 0
counted_more p n = omega (arith, passing-add p 0 n 1, one, passing-suc p n 0)
  where
    one : passing p (0 + n) 1 ≡ passing p n 1
    one = ap (λ (k : ℕ). passing p k 1) (let e : 0 + n ≡ n = omega arith in e)

pub counted_yes : (p : ℕ → Bool) (n count : ℕ) → count ≡ passing p 0 n → p n ≡ true → count + 1 ≡ passing p 0 (n + 1)
counted_yes p n count e is = omega (arith, e, counted_more p n, ap {B = ℕ} (λ (b : Bool). cond b 1 0) is)

pub counted_no : (p : ℕ → Bool) (n count : ℕ) → count ≡ passing p 0 n → p n ≡ false → count ≡ passing p 0 (n + 1)
counted_no p n count e is = omega (arith, e, counted_more p n, ap {B = ℕ} (λ (b : Bool). cond b 1 0) is)

-- no more are held than there are numbers
pub held_le : (map : List Bool) → count_of map ≤ length map
held_le map = count_of-le map
