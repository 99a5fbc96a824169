-- How many numbers are in a list or pass a test, over ranges.
use Rattle.std.proofs.Common.{◌≡◌, ℕ, zero, suc, ◌+◌, ◌<◌, ◌≤◌, Bool, true, false, cond, List, [], ◌∷◌, length, length-append, refl, ap, arith, ⊎_elim}
use Rattle.std.specs.Prelude.{◌==◌, ◌||◌, not, nat_le, flat_map, sum_by}
use Rattle.std.specs.List.{list_any, range_with_len}
use Rattle.std.proofs.lemmas.List.Sums.{sum_by-cons}
use Rattle.std.proofs.lemmas.Bool.{cases_lt}
use Rattle.std.proofs.lemmas.Bool.Decides.{nat_tests}
use Rattle.fv_bits.proofs.Counts.{passing, passing-suc, none_pass}

-- ---- tests

pub one_or_none : (t : Bool) → cond {A = ℕ} t 1 0 ≤ 1
one_or_none true = omega arith
one_or_none false = omega arith

-- what a test of order says
pub le_of_test : (a b : ℕ) → nat_le a b ≡ true → a ≤ b
le_of_test a b e = grind (arith, nat_tests, e)

-- those that pass a test, and those that don't
pub others : (p : ℕ → Bool) (a n : ℕ) → passing (λ b. not (p b)) a n + passing p a n ≡ n
others p a zero = omega arith
others p a (suc n) = omega (arith, passing-suc p a n, passing-suc (λ b. not (p b)) a n, others p (a + 1) n, either (p a))
  where
    either : (t : Bool) → cond {A = ℕ} (not t) 1 0 + cond {A = ℕ} t 1 0 ≡ 1
    either true = refl
    either false = refl

-- what passes one test passes one of two others
pub within_two : (p q r : ℕ → Bool) (a n : ℕ) → ((k : ℕ) → cond {A = ℕ} (p k) 1 0 ≤ cond (q k) 1 0 + cond (r k) 1 0) → passing p a n ≤ passing q a n + passing r a n
within_two p q r a zero each = omega arith
within_two p q r a (suc n) each = omega (arith, passing-suc p a n, passing-suc q a n, passing-suc r a n, each a, within_two p q r (a + 1) n each)

-- none of a range passes
pub none_between : (p : ℕ → Bool) (a n : ℕ) → ((k : ℕ) → a ≤ k → k < a + n → p k ≡ false) → passing p a n ≡ 0
none_between p a zero none = refl
none_between p a (suc n) none =
    omega (arith, passing-suc p a n, ap {B = ℕ} (λ t. cond t 1 0) (none a (omega arith) (omega arith)), none_between p (a + 1) n (λ k low high. none k (omega arith) (omega arith)))

-- ---- lists

-- a number passes once at most
only_one : (x a n : ℕ) → passing (λ b. x == b) a n ≤ 1
only_one x a zero = omega arith
only_one x a (suc n) = ⊎_elim
    (λ (before : x < suc a).
    let none = none_pass (λ b. x == b) (a + 1) n (λ k from. let test : (x == k) ≡ false = grind (arith, nat_tests) in test) in
    omega (arith, passing-suc (λ b. x == b) a n, none, one_or_none (x == a)))
    (λ (past : suc a ≤ x).
    let test : (x == a) ≡ false = grind (arith, nat_tests) in
    let nothing = ap {B = ℕ} (λ t. cond t 1 0) test in
    omega (arith, passing-suc (λ b. x == b) a n, nothing, only_one x (a + 1) n))
    (cases_lt x (suc a))

-- of two tests at most both pass
pub at_most_both : (t u : Bool) → cond {A = ℕ} (t || u) 1 0 ≤ cond t 1 0 + cond u 1 0
at_most_both true true = omega arith
at_most_both true false = omega arith
at_most_both false true = omega arith
at_most_both false false = omega arith

-- a list has as many different numbers at most as it is long
pub listed_within : (xs : List ℕ) (a n : ℕ) → passing (λ b. list_any (λ x. x == b) xs) a n ≤ length xs
listed_within [] a n = omega (arith, none_pass (λ b. false) a n (λ k from. refl))
listed_within (x ∷ xs) a n = omega (arith, within_two (λ b. list_any (λ x. x == b) (x ∷ xs)) (λ b. x == b) (λ b. list_any (λ x. x == b) xs) a n (λ k. at_most_both (x == k) (list_any (λ x. x == k) xs)), only_one x a n, listed_within xs a n)

-- parts of at most one element
pub parts_of_one : {X : Type 0} (part : ℕ → List X) → ((k : ℕ) → length (part k) ≤ 1) → (xs : List ℕ) → length (flat_map part xs) ≤ length xs
parts_of_one part one [] = omega arith
parts_of_one part one (x ∷ xs) = omega (arith, length-append (part x) (flat_map part xs), one x, parts_of_one part one xs)

-- a sum with larger parts
pub sums_within : (a b : ℕ → ℕ) (from count : ℕ) → ((k : ℕ) → from ≤ k → k < from + count → a k ≤ b k) → sum_by a (range_with_len from count) ≤ sum_by b (range_with_len from count)
sums_within a b from zero each = omega arith
sums_within a b from (suc count) each =
    omega (arith, sum_by-cons a from (range_with_len (from + 1) count), sum_by-cons b from (range_with_len (from + 1) count), each from (omega arith) (omega arith), sums_within a b (from + 1) count (λ k low high. each k (omega arith) (omega arith)))

-- a sum with the same parts
pub same_sum : (a b : ℕ → ℕ) (from count : ℕ) → ((k : ℕ) → from ≤ k → k < from + count → a k ≡ b k) → sum_by a (range_with_len from count) ≡ sum_by b (range_with_len from count)
same_sum a b from zero same = refl
same_sum a b from (suc count) same =
    omega (arith, sum_by-cons a from (range_with_len (from + 1) count), sum_by-cons b from (range_with_len (from + 1) count), same from (omega arith) (omega arith), same_sum a b (from + 1) count (λ k low high. same k (omega arith) (omega arith)))

-- a sum without parts
pub none_sum : (a : ℕ → ℕ) (from count : ℕ) → ((k : ℕ) → from ≤ k → k < from + count → a k ≡ 0) → sum_by a (range_with_len from count) ≡ 0
none_sum a from zero none = refl
none_sum a from (suc count) none = omega (arith, sum_by-cons a from (range_with_len (from + 1) count), none from (omega arith) (omega arith), none_sum a (from + 1) count (λ k low high. none k (omega arith) (omega arith)))
