-- How many places a reserve stands for, level by level.
use Rattle.std.proofs.Common.{◌≡◌, ℕ, zero, suc, ◌+◌, ◌-◌, ◌*◌, ◌/◌, ◌^◌, ◌<◌, ◌≤◌, Bool, true, false, cond, List, [], ◌∷◌, ◌++◌, map, refl, sym, ap, ◌∙◌, arith, ⊎_elim}
use Rattle.std.specs.Prelude.{filter, flat_map, count_by, sum_by, nat_lt, ◌&&◌, if◌then◌else◌}
use Rattle.std.specs.List.{range_with_len}
use Rattle.std.proofs.Math.Nat.{le-div_iff_mul-le, le-mul_of_pos_right, pow-le-pow_right}
use Rattle.std.proofs.lemmas.Bool.{cases_lt}
use Rattle.std.proofs.lemmas.Bool.Decides.{nat_tests}
use Rattle.std.proofs.lemmas.List.Sums.{sum_by-append, sum_by-cons}
use Rattle.fv_bits.proofs.Counts.{passing, passing-add, passing_same}
use Rattle.fv_model.specs.Numbers.{ceil_div}
use Rattle.fv_model.specs.Trees.{fan, spots_over}
use Rattle.fv_model.specs.Tables.{File, inode_cell}
use Rattle.fv_model.specs.Places.{Place, InodeFile, OfFile, placed}
use Rattle.fv_model.specs.Space.{reserved_at, reserved_places}
use Rattle.fv_image.proofs.Counts.{none_between, same_sum}
use Rattle.fv_fourth_pass.specs.Needed.{one_if, ranges, ranges_at}

-- ---- counts of lists

counted_next : {X : Type 0} (p : X → Bool) (x : X) (xs : List X) → count_by p (x ∷ xs) ≡ one_if (p x) + count_by p xs
counted_next p x xs = sum_by-cons (λ x. cond (p x) 1 0) x xs

counted_map : {X Y : Type 0} (p : Y → Bool) (f : X → Y) (xs : List X) → count_by p (map f xs) ≡ count_by (λ x. p (f x)) xs
counted_map p f [] = refl
counted_map p f (x ∷ xs) = let rest = counted_map p f xs in omega (arith, counted_next p (f x) (map f xs), counted_next (λ x. p (f x)) x xs, rest)

counted_filter : {X : Type 0} (p test : X → Bool) (xs : List X) → count_by p (filter test xs) ≡ count_by (λ x. test x && p x) xs
counted_filter p test [] = refl
counted_filter p test (x ∷ xs) = so (test x) (counted_filter p test xs) ∙ sym (counted_next (λ x. test x && p x) x xs)
  where
    so : (b : Bool) → count_by p (filter test xs) ≡ count_by (λ x. test x && p x) xs → count_by p (if b then x ∷ filter test xs else filter test xs) ≡ one_if (b && p x) + count_by (λ x. test x && p x) xs
    so true rest = counted_next p x (filter test xs) ∙ ap (λ n. one_if (p x) + n) rest
    so false rest = rest ∙ (let e : count_by (λ x. test x && p x) xs ≡ 0 + count_by (λ x. test x && p x) xs = omega arith in e)

counted_spread : {X Y : Type 0} (p : Y → Bool) (part : X → List Y) (xs : List X) → count_by p (flat_map part xs) ≡ sum_by (λ x. count_by p (part x)) xs
counted_spread p part [] = refl
counted_spread p part (x ∷ xs) =
    let rest = counted_spread p part xs in
    let both : count_by p (part x ++ flat_map part xs) ≡ count_by p (part x) + count_by p (flat_map part xs) = sum_by-append (λ y. cond {A = ℕ} (p y) 1 0) (part x) (flat_map part xs) in
    omega (arith, both, rest, sum_by-cons (λ x. count_by p (part x)) x xs)

-- ---- a range that is cut

pub cut : (t q : ℕ → Bool) (r n : ℕ) → ((i : ℕ) → i < r → t i ≡ true) → ((i : ℕ) → r ≤ i → t i ≡ false) → ((i : ℕ) → n ≤ i → i < r → q i ≡ false) → passing (λ i. t i && q i) 0 n ≡ passing q 0 r
cut t q r n low high far = ⊎_elim
    (λ (short : n < r).
    let split : r ≡ n + (r - n) = omega (arith, short) in
    let parts = passing-add q 0 n (r - n) in
    let past : passing q (0 + n) (r - n) ≡ 0 = none_between q (0 + n) (r - n) (λ k least most. far k (omega (arith, least)) (omega (arith, most, short))) in
    let same : passing (λ i. t i && q i) 0 n ≡ passing q 0 n = passing_same (λ i. t i && q i) q 0 0 n (λ j lt. ap (λ b. b && q (0 + j)) (low (0 + j) (omega (arith, lt, short)))) in
    let whole : passing q 0 r ≡ passing q 0 (n + (r - n)) = ap (passing q 0) split in
    omega (arith, whole, parts, past, same))
    (λ (long : r ≤ n).
    let split : n ≡ r + (n - r) = omega (arith, long) in
    let parts = passing-add (λ i. t i && q i) 0 r (n - r) in
    let past : passing (λ i. t i && q i) (0 + r) (n - r) ≡ 0 = none_between (λ i. t i && q i) (0 + r) (n - r) (λ k least most. ap (λ b. b && q k) (high k (omega (arith, least)))) in
    let same : passing (λ i. t i && q i) 0 r ≡ passing q 0 r = passing_same (λ i. t i && q i) q 0 0 r (λ j lt. ap (λ b. b && q (0 + j)) (low (0 + j) (omega (arith, lt)))) in
    let whole : passing (λ i. t i && q i) 0 n ≡ passing (λ i. t i && q i) 0 (r + (n - r)) = ap (passing (λ i. t i && q i) 0) split in
    omega (arith, whole, parts, past, same))
    (cases_lt n r)

-- ---- the ranges of a width that meet the indexes below a reserve

module _ (m r : ℕ) (pos : 0 < m) where
  under_low : (i : ℕ) → i < ceil_div r m → i * m < r
  under_low i low =
      let step : suc i * m ≤ r + m - 1 = (le-div_iff_mul-le pos).0 (let e : suc i ≤ (r + m - 1) / m = omega (arith, low) in e) in
      let expand : suc i * m ≡ m + i * m = omega arith in
      omega (arith, step, expand, pos)

  low_range : (i : ℕ) → i < ceil_div r m → nat_lt (i * m) r ≡ true
  low_range i low = let lt = under_low i low in grind (arith, nat_tests, lt)

  high_range : (i : ℕ) → ceil_div r m ≤ i → nat_lt (i * m) r ≡ false
  high_range i high = ⊎_elim
      (λ (lt : i * m < r).
      let expand : suc i * m ≡ m + i * m = omega arith in
      let step : suc i ≤ (r + m - 1) / m = (le-div_iff_mul-le pos).1 (let e : suc i * m ≤ r + m - 1 = omega (arith, lt, expand, pos) in e) in
      absurd (omega (arith, step, high)))
      (λ (ge : r ≤ i * m). let e : nat_lt (i * m) r ≡ false = grind (arith, nat_tests, ge) in e)
      (cases_lt (i * m) r)

  reserved_count : (q : ℕ → Bool) → passing (λ i. nat_lt (i * m) r && q i) 0 r ≡ passing q 0 (ceil_div r m)
  reserved_count q = cut (λ i. nat_lt (i * m) r) q (ceil_div r m) r low_range high_range (λ i past low.
      let lt = under_low i low in let more = le-mul_of_pos_right {m = m} i pos in absurd (omega (arith, past, lt, more)))

pub wide : (k : ℕ) → 0 < fan ^ k
wide k = let le : fan ^ 0 ≤ fan ^ k = pow-le-pow_right {n = fan} (omega arith) {i = 0} {j = k} (omega arith) in omega (arith, le)

abbrev pub in_file : ℕ → ℕ → ℕ → Place
in_file n k i = record { owner = OfFile n; level = k; index = i }

level_count : (p : Place → Bool) (n r k : ℕ) → count_by p (reserved_at n r k) ≡ passing (λ i. p (in_file n k i)) 0 (ranges_at r k)
unfolding reserved_at
level_count p n r k =
    counted_map p (in_file n k) (filter (λ i. nat_lt (i * fan ^ k) r) (range_with_len 0 r))
    ∙ counted_filter (λ i. p (in_file n k i)) (λ i. nat_lt (i * fan ^ k) r) (range_with_len 0 r)
    ∙ reserved_count (fan ^ k) r (wide k) (λ i. p (in_file n k i))

-- ---- of a file

abbrev pub tree_count : (Place → Bool) → ℕ → ℕ → ℕ → ℕ
tree_count p n r l = sum_by (λ k. passing (λ i. p (in_file n k i)) 0 (ranges_at r k)) (range_with_len 0 (l + 1))

abbrev pub inode_count : (Place → Bool) → ℕ → ℕ → ℕ
inode_count p n levels = sum_by (λ k. one_if (p (placed InodeFile (k, inode_cell n / fan ^ k)))) (range_with_len 0 (levels + 1))

some_places : (p : Place → Bool) (levels n r l : ℕ) →
    count_by p (flat_map (reserved_at n r) (range_with_len 0 (l + 1)) ++ map (placed InodeFile) (spots_over levels (inode_cell n))) ≡ tree_count p n r l + inode_count p n levels
unfolding spots_over
some_places p levels n r l =
    let both : count_by p (flat_map (reserved_at n r) (range_with_len 0 (l + 1)) ++ map (placed InodeFile) (map (λ k. (k, inode_cell n / fan ^ k)) (range_with_len 0 (levels + 1))))
    ≡ count_by p (flat_map (reserved_at n r) (range_with_len 0 (l + 1))) + count_by p (map (placed InodeFile) (map (λ k. (k, inode_cell n / fan ^ k)) (range_with_len 0 (levels + 1)))) =
    sum_by-append (λ y. cond {A = ℕ} (p y) 1 0) (flat_map (reserved_at n r) (range_with_len 0 (l + 1))) (map (placed InodeFile) (map (λ k. (k, inode_cell n / fan ^ k)) (range_with_len 0 (levels + 1)))) in
    let spread = counted_spread p (reserved_at n r) (range_with_len 0 (l + 1)) in
    let each : sum_by (λ k. count_by p (reserved_at n r k)) (range_with_len 0 (l + 1)) ≡ tree_count p n r l =
    same_sum (λ k. count_by p (reserved_at n r k)) (λ k. passing (λ i. p (in_file n k i)) 0 (ranges_at r k)) 0 (l + 1) (λ k low high. level_count p n r k) in
    let over : count_by p (map (placed InodeFile) (map (λ k. (k, inode_cell n / fan ^ k)) (range_with_len 0 (levels + 1)))) ≡ inode_count p n levels =
    counted_map p (placed InodeFile) (map (λ k. (k, inode_cell n / fan ^ k)) (range_with_len 0 (levels + 1)))
    ∙ counted_map (λ spot. p (placed InodeFile spot)) (λ k. (k, inode_cell n / fan ^ k)) (range_with_len 0 (levels + 1)) in
    omega (arith, both, spread, each, over)

pub places_none : (p : Place → Bool) (levels n : ℕ) (f : File) → f.reserve ≡ 0 → count_by p (reserved_places levels n f) ≡ 0
unfolding reserved_places
places_none p levels n f none = ap (λ r. count_by p (cond (nat_lt 0 r) (flat_map (reserved_at n f.reserve) (range_with_len 0 (f.tree.levels + 1)) ++ map (placed InodeFile) (spots_over levels (inode_cell n))) [])) none

pub places_some : (p : Place → Bool) (levels n : ℕ) (f : File) → 0 < f.reserve → count_by p (reserved_places levels n f) ≡ tree_count p n f.reserve f.tree.levels + inode_count p n levels
unfolding reserved_places
places_some p levels n f some =
    let test : nat_lt 0 f.reserve ≡ true = grind (arith, nat_tests, some) in
    ap (λ b. count_by p (cond b (flat_map (reserved_at n f.reserve) (range_with_len 0 (f.tree.levels + 1)) ++ map (placed InodeFile) (spots_over levels (inode_cell n))) [])) test
    ∙ some_places p levels n f.reserve f.tree.levels

-- ---- how many those are at most

ranges_few : (r k : ℕ) → ranges_at r k ≤ r
ranges_few r k = ⊎_elim
    (λ (past : r < ranges_at r k).
    let lt = under_low (fan ^ k) r (wide k) r past in
    let more = le-mul_of_pos_right {m = fan ^ k} r (wide k) in
    absurd (omega (arith, lt, more)))
    (λ few. few)
    (cases_lt r (ranges_at r k))

pub sum_most : (a : ℕ → ℕ) (most from count : ℕ) → ((k : ℕ) → a k ≤ most) → sum_by a (range_with_len from count) ≤ count * most
sum_most a most from zero each = omega arith
sum_most a most from (suc count) each =
    let rest = sum_most a most (from + 1) count each in
    let expand : suc count * most ≡ most + count * most = omega arith in
    omega (arith, sum_by-cons a from (range_with_len (from + 1) count), each from, rest, expand)

pub ranges_most : (r l : ℕ) → ranges r l ≤ (l + 1) * r
unfolding ranges
ranges_most r l = sum_most (ranges_at r) r 0 (l + 1) (ranges_few r)
