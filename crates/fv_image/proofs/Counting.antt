-- Counts of numbers against sets and intervals.
use Rattle.std.proofs.Common.{◌≡◌, ℕ, zero, suc, ◌+◌, ◌-◌, ◌*◌, ◌/◌, ◌<◌, ◌≤◌, Bool, true, false, cond, List, [], ◌∷◌, length, refl, sym, ap, subst, ◌∙◌, arith, ⊎_elim}
use Rattle.std.specs.Prelude.{◌&&◌, ◌==◌, nat_lt, nat_le}
use Rattle.std.specs.List.{list_any}
use Rattle.std.specs.declared.cmp.Ordering.{Ordering}
use Rattle.std.specs.Cmp.{IsTotalOrder}
use Rattle.std.specs.FinMap as fin
use Rattle.std.proofs.lemmas.Bool.{cases_lt, and_left, and_right, and_from}
use Rattle.std.proofs.lemmas.Bool.Decides.{nat_tests}
use Rattle.std.proofs.lemmas.Nat.{le-div, div_below, div-mul-add}
use Rattle.fv_bits.proofs.Counts.{passing, passing-suc, passing_same}
use Rattle.fv_image.proofs.Counts.{within_two, none_between, one_or_none, at_most_both}

-- ---- numbers by their slots

-- from a number on, no more than are left of an interval
left_of : (lo hi a n : ℕ) → passing (λ v. nat_le lo v && nat_lt v hi) a n ≤ hi - a
left_of lo hi a zero = omega arith
left_of lo hi a (suc n) = ⊎_elim
    (λ (before : a < hi). omega (arith, passing-suc (λ v. nat_le lo v && nat_lt v hi) a n, one_or_none (nat_le lo a && nat_lt a hi), left_of lo hi (a + 1) n, before))
    (λ (past : hi ≤ a).
    let none = none_between (λ v. nat_le lo v && nat_lt v hi) a (suc n) (λ k low high. let test : nat_lt k hi ≡ false = grind (arith, nat_tests, low, past) in and_right (nat_le lo k) (nat_lt k hi) test) in
    omega (arith, none))
    (cases_lt a hi)

-- at most as many numbers lie in an interval as that is long
in_interval : (lo hi a n : ℕ) → passing (λ v. nat_le lo v && nat_lt v hi) a n ≤ hi - lo
in_interval lo hi a zero = omega arith
in_interval lo hi a (suc n) = ⊎_elim
    (λ (before : a < lo).
    let test : nat_le lo a ≡ false = grind (arith, nat_tests, before) in
    let out : (nat_le lo a && nat_lt a hi) ≡ false = and_left (nat_le lo a) (nat_lt a hi) test in
    omega (arith, passing-suc (λ v. nat_le lo v && nat_lt v hi) a n, ap {B = ℕ} (λ t. cond t 1 0) out, in_interval lo hi (a + 1) n))
    (λ (past : lo ≤ a). omega (arith, left_of lo hi a (suc n), past))
    (cases_lt a lo)

nat_suc_mul : (a b : ℕ) → (a + 1) * b ≡ a * b + b
nat_suc_mul a b = grind (arith)

-- the numbers of a range that lie in one slot of this width
pub in_slot : (from m slot n : ℕ) → 0 < m → passing (λ v. slot == (v - from) / m) from n ≤ m
in_slot from m slot n some =
    let lo : ℕ = from + slot * m in
    let same : passing (λ v. slot == (v - from) / m) from n ≡ passing (λ v. nat_le (from + slot * m) v && nat_lt v (from + slot * m + m)) from n =
    passing_same (λ v. slot == (v - from) / m) (λ v. nat_le (from + slot * m) v && nat_lt v (from + slot * m + m)) from from n (λ j lt. so (from + j) (omega arith)) in
    omega (arith, same, in_interval (from + slot * m) (from + slot * m + m) from n)
  where
    so : (v : ℕ) → from ≤ v → (slot == (v - from) / m) ≡ (nat_le (from + slot * m) v && nat_lt v (from + slot * m + m))
    so v low = ⊎_elim
        (λ (below : v < from + slot * m).
        let less : (v - from) / m < slot = div_below (v - from) m slot some (omega (arith, below, low)) in
        let left : (slot == (v - from) / m) ≡ false = grind (arith, nat_tests, less) in
        let test : nat_le (from + slot * m) v ≡ false = grind (arith, nat_tests, below) in
        left ∙ sym (and_left (nat_le (from + slot * m) v) (nat_lt v (from + slot * m + m)) test))
        (λ (past : from + slot * m ≤ v). ⊎_elim
        (λ (within : v < from + slot * m + m).
        let at : (v - from) / m ≡ slot = ap (λ (k : ℕ). k / m) (let e : v - from ≡ slot * m + (v - (from + slot * m)) = omega (arith, past, low) in e) ∙ div-mul-add slot m (v - (from + slot * m)) (omega (arith, past, within)) in
        let left : (slot == (v - from) / m) ≡ true = grind (arith, nat_tests, at) in
        let first : nat_le (from + slot * m) v ≡ true = grind (arith, nat_tests, past) in
        let second : nat_lt v (from + slot * m + m) ≡ true = grind (arith, nat_tests, within) in
        left ∙ sym (and_from (nat_le (from + slot * m) v) _ first second))
        (λ (over : from + slot * m + m ≤ v).
        let more : slot + 1 ≤ (v - from) / m = le-div (slot + 1) (v - from) m some (let e : (slot + 1) * m ≡ slot * m + m = nat_suc_mul slot m in omega (arith, over, e)) in
        let left : (slot == (v - from) / m) ≡ false = grind (arith, nat_tests, more) in
        let test : nat_lt v (from + slot * m + m) ≡ false = grind (arith, nat_tests, over) in
        left ∙ sym (and_right (nat_le (from + slot * m) v) (nat_lt v (from + slot * m + m)) test))
        (cases_lt v (from + slot * m + m)))
        (cases_lt v (from + slot * m))

-- and in one of several slots
pub in_slots : (from m : ℕ) (slots : List ℕ) (n : ℕ) → 0 < m → passing (λ v. list_any (λ slot. slot == (v - from) / m) slots) from n ≤ m * length slots
in_slots from m [] n some = omega (arith, none_between (λ v. false) from n (λ k low high. refl))
in_slots from m (x ∷ xs) n some =
    let two = within_two (λ v. list_any (λ slot. slot == (v - from) / m) (x ∷ xs)) (λ v. x == (v - from) / m) (λ v. list_any (λ slot. slot == (v - from) / m) xs) from n (λ k. at_most_both (x == (k - from) / m) (list_any (λ slot. slot == (k - from) / m) xs)) in
    let more : m * length (x ∷ xs) ≡ m + m * length xs = mul_suc m (length xs) in
    omega (arith, two, in_slot from m x n some, in_slots from m xs n some, more)
  where
    mul_suc : (a b : ℕ) → a * suc b ≡ a + a * b
    mul_suc a b = grind (arith)

-- ---- maps by the entries that were put into them

module _ {K X : Type 0} {R : K → K → Ordering} (o : IsTotalOrder R) where
  -- a map has at most as many keys as entries were put into it
  pub len_within : (es : List (K × X)) → fin.len (fin.from_entries {R = R} es) ≤ length es
  len_within [] = let none = fin.len-empty R X in omega (arith, none)
  len_within (e ∷ es) =
      let rest = len_within es in
      let grown = fin.len-insert o (fin.from_entries {R = R} es) e.0 e.1 in
      omega (arith, rest, subst (λ (n : ℕ). n ≤ length es + 1) (sym grown) (so _ rest))
    where
      so : (b : Bool) → fin.len (fin.from_entries {R = R} es) ≤ length es → cond b (fin.len (fin.from_entries {R = R} es)) (fin.len (fin.from_entries {R = R} es) + 1) ≤ length es + 1
      so true rest = omega (arith, rest)
      so false rest = omega (arith, rest)
