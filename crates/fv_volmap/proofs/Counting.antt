-- How many numbers pass a test, counted one after the other up to so many.
use Rattle.std.proofs.Common.{◌≡◌, ◌≤◌, ℕ, ◌+◌, ◌-◌, Bool, true, false, ◌&&◌, not, List, length, Some, None, ap, ◌∙◌, cond, arith}
use Rattle.std.specs.Prelude.{min}
use Rattle.fv_bits.specs.Members.{is_member, apart_between}
use Rattle.fv_bits.proofs.Counts.{passing, passing-add, passing-suc, passing_le}
use Rattle.fv_bits.proofs.Laws.{count_of-le}
use Rattle.fv_volmap.specs.Slots.{Slot, count_beside}

-- a range in two parts
in_parts : (p : ℕ → Bool) (a m n : ℕ) → m ≤ n → passing p a n ≡ passing p a m + passing p (a + m) (n - m)
in_parts p a m n within = ap (passing p a) (let whole : n ≡ m + (n - m) = omega (arith, within) in whole) ∙ passing-add p a m (n - m)

-- so many are found in a part of the range
pub found_before : (p : ℕ → Bool) (a m n most : ℕ) → m ≤ n → most ≡ min most (passing p a m) → most ≡ min most (passing p a n)
found_before p a m n most within found = omega (arith, in_parts p a m n within, found)

-- one number more
pub counted_next : (p : ℕ → Bool) (a m most count : ℕ) → count ≡ min most (passing p a m) → count + 1 ≤ most
    → count + cond {A = ℕ} (p (a + m)) 1 0 ≡ min most (passing p a (m + 1))
counted_next p a m most count was less =
    let all = passing-add p a m 1 in
    let last : passing p (a + m) 1 ≡ cond {A = ℕ} (p (a + m)) 1 0 + 0 = passing-suc p (a + m) 0 in
    let few : cond {A = ℕ} (p (a + m)) 1 0 ≤ 1 = at_most_one (p (a + m)) in
    omega (arith, all, last, few, was, less)
  where
    at_most_one : (t : Bool) → cond {A = ℕ} t 1 0 ≤ 1
    at_most_one true = omega arith
    at_most_one false = omega arith

-- first behind a number, then before it
pub counted_around : (p : ℕ → Bool) (next span most behind rest : ℕ) → next ≤ span → behind ≡ min most (passing p next (span - next))
    → rest ≡ min (most - behind) (passing p 0 (next - 0)) → behind + rest ≡ min most (passing p 0 span)
counted_around p next span most behind rest within after before =
    let parts : passing p 0 span ≡ passing p 0 next + passing p (0 + next) (span - next) = in_parts p 0 next span within in
    let start : passing p (0 + next) (span - next) ≡ passing p next (span - next) = ap (λ (k : ℕ). passing p k (span - next)) (let same : 0 + next ≡ next = omega arith in same) in
    let first : passing p 0 (next - 0) ≡ passing p 0 next = ap (passing p 0) (let same : next - 0 ≡ next = omega arith in same) in
    omega (arith, parts, start, first, after, before)

-- the numbers of a map that another one lacks, as they are counted by words
pub beside_some : (map base : List Bool) → apart_between map base 0 (length map) ≡ count_beside map (Some base)
unfolding apart_between
beside_some map base = ap (passing (λ (v : ℕ). is_member map v && not (is_member base v)) 0) (let whole : length map - 0 ≡ length map = omega arith in whole)

-- they are at most as many as the map is long
pub beside_le : (map : List Bool) (base : Slot) → count_beside map base ≤ length map
beside_le map None = count_of-le map
beside_le map (Some base) = passing_le (λ (v : ℕ). is_member map v && not (is_member base v)) 0 (length map)
