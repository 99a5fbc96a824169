-- How many numbers are free, as the sets change.
use Rattle.std.proofs.Common.{◌≡◌, ◌≢◌, ℕ, zero, suc, ◌+◌, ◌-◌, ◌^◌, ◌<◌, ◌≤◌, List, length, set, Bool, true, false, cond, not, ◌==◌, ◌||◌, refl, sym, ap, ◌∙◌, ⊎_elim, arith, length-set, add-zero}
use Rattle.std.specs.Prelude.{nat_le, ◌&&◌}
use Rattle.std.proofs.lemmas.Bool.{cases_lt}
use Rattle.std.proofs.lemmas.Bool.Decides.{nat_tests}
use Rattle.fv_bits.specs.Members.{is_member, count_between}
use Rattle.fv_bits.proofs.Counts.{passing, passing-add, passing-suc, passing_same, passing_le}
use Rattle.fv_bits.proofs.Laws.{is_member-set}
use Rattle.fv_aggmap.specs.Space.{is_held, IsFreeIn, IsKept, free_from, becomes_free}
use Rattle.fv_aggmap.proofs.Holding.{or_true, or_same}

-- one number's answer changes
one_changes : (p q : ℕ → Bool) (a n k : ℕ) → a ≤ k → k < a + n → ((j : ℕ) → j ≢ k → q j ≡ p j) → passing q a n + cond (p k) 1 0 ≡ passing p a n + cond (q k) 1 0
one_changes p q a n k low high same =
    let rest = n - (k - a + 1) in
    let size : n ≡ (k - a) + suc rest = omega arith in
    let at : a + (k - a) ≡ k = omega arith in
    let split : (t : ℕ → Bool) → passing t a n ≡ passing t a (k - a) + (cond (t k) 1 0 + passing t (k + 1) rest) = λ t.
    ap (passing t a) size ∙ passing-add t a (k - a) (suc rest)
    ∙ ap (λ (x : ℕ). passing t a (k - a) + passing t x (suc rest)) at
    ∙ ap (λ (x : ℕ). passing t a (k - a) + x) (passing-suc t k rest) in
    let below = passing_same q p a a (k - a) (λ j lt. same (a + j) (omega arith)) in
    let above = passing_same q p (k + 1) (k + 1) rest (λ j lt. same ((k + 1) + j) (omega arith)) in
    omega (arith, split p, split q, below, above)

-- whether a number is in neither set
abbrev clear : List Bool → List Bool → ℕ → Bool
clear committed next b = not (is_held committed next b)

clear_elsewhere : (committed next : List Bool) (b : ℕ) (v : Bool) → b < length next → (j : ℕ) → j ≢ b → clear committed (set next b v) j ≡ clear committed next j
clear_elsewhere committed next b v within j other =
    let test : (j == b) ≡ false = grind (arith, nat_tests) in
    ap (λ (x : Bool). not (is_member committed j || x)) (is_member-set next b v j within ∙ ap (λ (t : Bool). cond t v (is_member next j)) test)

clear_there : (committed next : List Bool) (b : ℕ) (v : Bool) → b < length next → clear committed (set next b v) b ≡ not (is_member committed b || v)
clear_there committed next b v within =
    let test : (b == b) ≡ true = grind (arith, nat_tests) in
    ap (λ (x : Bool). not (is_member committed b || x)) (is_member-set next b v b within ∙ ap (λ (t : Bool). cond t v (is_member next b)) test)

pub taken_count : (committed next : List Bool) (first b : ℕ) → length next ≡ length committed → IsFreeIn committed next first b → free_from committed (set next b true) first + 1 ≡ free_from committed next first
unfolding free_from
taken_count committed next first b long is =
    let n = length committed - first in
    let before : clear committed next b ≡ true = ap not is.free in
    let after : clear committed (set next b true) b ≡ false = clear_there committed next b true (omega (arith, long, is.within)) ∙ ap not (or_true (is_member committed b)) in
    let change = one_changes (clear committed next) (clear committed (set next b true)) first n b is.after (omega (arith, is.after, is.within)) (clear_elsewhere committed next b true (omega (arith, long, is.within))) in
    let one = ap (λ (t : Bool). cond {A = ℕ} t 1 0) before in
    let none = ap (λ (t : Bool). cond {A = ℕ} t 1 0) after in
    omega (arith, change, one, none)

pub released_count : (committed next : List Bool) (first b : ℕ) → length next ≡ length committed → b < length committed
    → free_from committed (set next b false) first ≡ free_from committed next first + cond (becomes_free committed next first b) 1 0
unfolding free_from
released_count committed next first b long within =
    let n = length committed - first in
    let inside : b < length next = omega (arith, long, within) in
    let p = clear committed next in
    let q = clear committed (set next b false) in
    ⊎_elim
    (λ (below : b < first).
    let test : nat_le first b ≡ false = grind (arith, nat_tests) in
    rw test (passing_same q p first first n (λ j lt. clear_elsewhere committed next b false inside (first + j) (omega arith)) ∙ sym (add-zero (passing p first n))))
    (λ (low : first ≤ b).
    let test : nat_le first b ≡ true = grind (arith, nat_tests) in
    let change = one_changes p q first n b low (omega (arith, low, within)) (clear_elsewhere committed next b false inside) in
    let there = ap (λ (t : Bool). cond {A = ℕ} t 1 0) (clear_there committed next b false inside) in
    rw test (by_cases (is_member committed b) (is_member next b) (passing q first n) (passing p first n) (change ∙ ap (λ (x : ℕ). passing p first n + x) there)))
    (cases_lt b first)
  where
    by_cases : (c m : Bool) (after before : ℕ) → after + cond {A = ℕ} (not (c || m)) 1 0 ≡ before + cond {A = ℕ} (not (c || false)) 1 0 → after ≡ before + cond {A = ℕ} (m && not c) 1 0
    by_cases true true after before e = omega arith
    by_cases true false after before e = omega arith
    by_cases false true after before e = omega arith
    by_cases false false after before e = omega arith

-- of the same set twice: what it hasn't
others : (p : ℕ → Bool) (a n : ℕ) → passing (λ b. not (p b)) a n + passing p a n ≡ n
others p a zero = omega arith
others p a (suc n) =
    let one = passing-suc p a n in
    let two = passing-suc (λ b. not (p b)) a n in
    let rest = others p (a + 1) n in
    let first = either (p a) in
    omega (arith, one, two, rest, first)
  where
    either : (t : Bool) → cond {A = ℕ} (not t) 1 0 + cond {A = ℕ} t 1 0 ≡ 1
    either true = refl
    either false = refl

pub clear_count : (map : List Bool) (first : ℕ) → first ≤ length map → free_from map map first + count_between map first (length map) ≡ length map - first
unfolding free_from count_between
clear_count map first le =
    let n = length map - first in
    let same = passing_same (clear map map) (λ b. not (is_member map b)) first first n (λ j lt. ap not (or_same (is_member map (first + j)))) in
    omega (arith, same, others (is_member map) first n)

pub free_le : (committed next : List Bool) (first : ℕ) → free_from committed next first ≤ length committed - first
unfolding free_from
free_le committed next first = passing_le (clear committed next) first (length committed - first)

-- ---- what is kept

pub kept_taken : (committed next : List Bool) (first cursor free b : ℕ) → IsKept committed next first cursor free → IsFreeIn committed next first b → IsKept committed (set next b true) first (b + 1) (free - 1)
kept_taken committed next first cursor free b kept is = record {
  size = kept.size;
  same = length-set next b true ∙ kept.same;
  start = kept.start;
  after = omega (arith, is.after);
  within = omega (arith, is.within);
  count = omega (arith, kept.count, taken_count committed next first b kept.same is);
}

pub kept_released : (committed next : List Bool) (first cursor free b : ℕ) → IsKept committed next first cursor free → b < length committed → IsKept committed (set next b false) first cursor (free + cond (becomes_free committed next first b) 1 0)
kept_released committed next first cursor free b kept within = record {
  size = kept.size;
  same = length-set next b false ∙ kept.same;
  start = kept.start;
  after = kept.after;
  within = kept.within;
  count = rw kept.count (sym (released_count committed next first b kept.same within));
}

pub count_fits : (committed next : List Bool) (first cursor free : ℕ) (t : Bool) → IsKept committed next first cursor free → free + cond {A = ℕ} t 1 0 < 2 ^ 32
count_fits committed next first cursor free true kept = omega (arith, kept.count, kept.size.greatest, free_le committed next first)
count_fits committed next first cursor free false kept = omega (arith, kept.count, kept.size.greatest, free_le committed next first)
