-- Sums over the positions of a tree, node by node and level by level.
use Rattle.std.proofs.Common.{◌≡◌, ◌<◌, ℕ, zero, suc, ◌+◌, ◌-◌, ◌*◌, ◌^◌, List, [], ◌∷◌, refl, sym, ap, ◌∙◌, arith}
use Rattle.std.specs.Prelude.{sum_by}
use Rattle.std.specs.List.{range_with_len}
use Rattle.std.proofs.Math.Nat.{mul_assoc, mul_comm, pow-suc, pow-zero}
use Rattle.std.proofs.lemmas.List.Sums.{sum_by-cons}
use Rattle.fv_image.proofs.Counts.{same_sum}

-- ---- sums over ranges

-- of ranges that meet
pub sum_meet : (f : ℕ → ℕ) (a m n : ℕ) → sum_by f (range_with_len a (m + n)) ≡ sum_by f (range_with_len a m) + sum_by f (range_with_len (a + m) n)
sum_meet f a zero n =
    let start : a ≡ a + 0 = omega arith in
    let none : 0 + n ≡ n = omega arith in
    (λ j. sum_by f (range_with_len (start j) (none j))) ∙ (let e : sum_by f (range_with_len (a + 0) n) ≡ 0 + sum_by f (range_with_len (a + 0) n) = omega arith in e)
sum_meet f a (suc m) n =
    let all : suc m + n ≡ suc (m + n) = omega arith in
    let next : (a + 1) + m ≡ a + suc m = omega arith in
    let rest = sum_meet f (a + 1) m n in
    let moved : sum_by f (range_with_len ((a + 1) + m) n) ≡ sum_by f (range_with_len (a + suc m) n) = ap (λ k. sum_by f (range_with_len k n)) next in
    let whole : sum_by f (range_with_len a (suc m + n)) ≡ sum_by f (range_with_len a (suc (m + n))) = ap (λ k. sum_by f (range_with_len a k)) all in
    omega (arith, whole, sum_by-cons f a (range_with_len (a + 1) (m + n)), sum_by-cons f a (range_with_len (a + 1) m), rest, moved)

-- and one more number
pub sum_more : (f : ℕ → ℕ) (a n : ℕ) → sum_by f (range_with_len a (n + 1)) ≡ sum_by f (range_with_len a n) + f (a + n)
sum_more f a n =
    let one : sum_by f (range_with_len (a + n) 1) ≡ f (a + n) + 0 = sum_by-cons f (a + n) [] in
    let meet = sum_meet f a n 1 in
    omega (arith, one, meet)

-- of sums of two
pub sum_both : {X : Type 0} (f h : X → ℕ) (xs : List X) → sum_by (λ k. f k + h k) xs ≡ sum_by f xs + sum_by h xs
sum_both f h [] = refl
sum_both f h (x ∷ xs) =
    let rest = sum_both f h xs in
    omega (arith, sum_by-cons (λ k. f k + h k) x xs, sum_by-cons f x xs, sum_by-cons h x xs, rest)

sum_zero : (xs : List ℕ) → sum_by (λ k. 0) xs ≡ 0
sum_zero [] = refl
sum_zero (x ∷ xs) = let rest = sum_zero xs in omega (arith, sum_by-cons (λ (k : ℕ). 0) x xs, rest)

-- the one way round, or the other
pub sum_swap : (f : ℕ → ℕ → ℕ) (xs ys : List ℕ) → sum_by (λ k. sum_by (f k) ys) xs ≡ sum_by (λ q. sum_by (λ k. f k q) xs) ys
sum_swap f [] ys = sym (sum_zero ys)
sum_swap f (x ∷ xs) ys =
    let rest = sum_swap f xs ys in
    let both = sum_both (f x) (λ q. sum_by (λ k. f k q) xs) ys in
    let each : sum_by (λ q. sum_by (λ k. f k q) (x ∷ xs)) ys ≡ sum_by (λ q. f x q + sum_by (λ k. f k q) xs) ys = (λ j. sum_by (λ q. sum_by-cons (λ k. f k q) x xs j) ys) in
    omega (arith, sum_by-cons (λ k. sum_by (f k) ys) x xs, rest, both, each)

-- parts that are all so long, one after another
pub sum_pieces : (f : ℕ → ℕ) (w a b n : ℕ) → sum_by (λ c. sum_by f (range_with_len ((a + c) * w) w)) (range_with_len b n) ≡ sum_by f (range_with_len ((a + b) * w) (n * w))
sum_pieces f w a b zero = let none : 0 ≡ 0 * w = omega arith in ap (λ k. sum_by f (range_with_len ((a + b) * w) k)) none
sum_pieces f w a b (suc n) =
    let more : w + n * w ≡ suc n * w = omega arith in
    let assoc : a + b + 1 ≡ a + (b + 1) = omega arith in
    let step : (a + b) * w + w ≡ (a + b + 1) * w = omega arith in
    let next : (a + b) * w + w ≡ (a + (b + 1)) * w = step ∙ ap (λ k. k * w) assoc in
    let rest = sum_pieces f w a (b + 1) n in
    let moved : sum_by f (range_with_len ((a + b) * w + w) (n * w)) ≡ sum_by f (range_with_len ((a + (b + 1)) * w) (n * w)) = ap (λ k. sum_by f (range_with_len k (n * w))) next in
    let whole : sum_by f (range_with_len ((a + b) * w) (w + n * w)) ≡ sum_by f (range_with_len ((a + b) * w) (suc n * w)) = ap (λ k. sum_by f (range_with_len ((a + b) * w) k)) more in
    omega (arith, whole, moved, sum_meet f ((a + b) * w) w (n * w), rest, sum_by-cons (λ c. sum_by f (range_with_len ((a + c) * w) w)) b (range_with_len (b + 1) n))

-- ---- the positions under one, where a node leads to m

module _ (m : ℕ) (weight : ℕ → ℕ → ℕ) where
  -- a position of a level and those below it
  unfoldable pub under : ℕ → ℕ → ℕ
  under zero q = weight 0 q
  under (suc k) q = weight (suc k) q + sum_by (λ c. under k (m * q + c)) (range_with_len 0 m)

  -- those of one level
  abbrev pub row : ℕ → ℕ → ℕ → ℕ
  row l q k = sum_by (weight k) (range_with_len (q * m ^ (l - k)) (m ^ (l - k)))

  -- the parts of a wider range
  widened : (k l q w v : ℕ) → v ≡ m * w → sum_by (λ c. sum_by (weight k) (range_with_len ((m * q + c) * w) w)) (range_with_len 0 m) ≡ sum_by (weight k) (range_with_len (q * v) v)
  widened k l q w v is =
      let none : m * q + 0 ≡ m * q = omega arith in
      let start : (m * q + 0) * w ≡ q * v = ap (λ n. n * w) (none ∙ mul_comm m q) ∙ mul_assoc q m w ∙ ap (λ n. q * n) (sym is) in
      sum_pieces (weight k) w (m * q) 0 m ∙ (λ j. sum_by (weight k) (range_with_len (start j) (sym is j)))

  no_power : m ^ 0 ≡ 1
  no_power = pow-zero m

  own_row : (l q : ℕ) → row l q l ≡ weight l q
  own_row l q =
      let none : l - l ≡ 0 = omega arith in
      let one : q * 1 ≡ q = omega arith in
      (λ j. sum_by (weight l) (range_with_len (q * m ^ none j) (m ^ none j)))
      ∙ (λ j. sum_by (weight l) (range_with_len (q * no_power j) (no_power j)))
      ∙ (λ j. sum_by (weight l) (range_with_len (one j) 1))
      ∙ sum_by-cons (weight l) q []
      ∙ (let e : weight l q + 0 ≡ weight l q = omega arith in e)

  lower_row : (l q k : ℕ) → k < l + 1 → sum_by (λ c. row l (m * q + c) k) (range_with_len 0 m) ≡ row (suc l) q k
  lower_row l q k low =
      let up : suc l - k ≡ suc (l - k) = omega (arith, low) in
      widened k l q (m ^ (l - k)) (m ^ (suc l - k)) (ap (λ n. m ^ n) up ∙ pow-suc m (l - k) ∙ mul_comm (m ^ (l - k)) m)

  -- They are those of all levels.
  pub under_rows : (l q : ℕ) → under l q ≡ sum_by (row l q) (range_with_len 0 (l + 1))
  unfolding under
  under_rows zero q =
      let one : sum_by (row 0 q) (range_with_len 0 1) ≡ row 0 q 0 + 0 = sum_by-cons (row 0 q) 0 [] in
      let own = own_row 0 q in
      omega (arith, one, own)
  under_rows (suc l) q =
      let each : sum_by (λ c. under l (m * q + c)) (range_with_len 0 m) ≡ sum_by (λ c. sum_by (row l (m * q + c)) (range_with_len 0 (l + 1))) (range_with_len 0 m) =
      same_sum (λ c. under l (m * q + c)) (λ c. sum_by (row l (m * q + c)) (range_with_len 0 (l + 1))) 0 m (λ c low high. under_rows l (m * q + c)) in
      let turned = sum_swap (λ c k. row l (m * q + c) k) (range_with_len 0 m) (range_with_len 0 (l + 1)) in
      let lower : sum_by (λ k. sum_by (λ c. row l (m * q + c) k) (range_with_len 0 m)) (range_with_len 0 (l + 1)) ≡ sum_by (row (suc l) q) (range_with_len 0 (l + 1)) =
      same_sum (λ k. sum_by (λ c. row l (m * q + c) k) (range_with_len 0 m)) (row (suc l) q) 0 (l + 1) (λ k low high. lower_row l q k (within k (l + 1) high)) in
      let more = sum_more (row (suc l) q) 0 (l + 1) in
      let last : row (suc l) q (0 + (l + 1)) ≡ weight (suc l) q = ap (row (suc l) q) (let e : 0 + (l + 1) ≡ suc l = omega arith in e) ∙ own_row (suc l) q in
      let long : sum_by (row (suc l) q) (range_with_len 0 (suc l + 1)) ≡ sum_by (row (suc l) q) (range_with_len 0 (l + 1 + 1)) = ap (λ n. sum_by (row (suc l) q) (range_with_len 0 n)) (let e : suc l + 1 ≡ l + 1 + 1 = omega arith in e) in
      omega (arith, each, turned, lower, more, last, long)
    where
      within : (k n : ℕ) → k < 0 + n → k < n
      within k n lt = omega (arith, lt)

  -- Where only cells count, they are those cells.
  pub under_cells : ((k q : ℕ) → weight (suc k) q ≡ 0) → (l q : ℕ) → under l q ≡ sum_by (weight 0) (range_with_len (q * m ^ l) (m ^ l))
  unfolding under
  under_cells none zero q =
      let one : q * 1 ≡ q = omega arith in
      sym ((λ j. sum_by (weight 0) (range_with_len (q * no_power j) (no_power j))) ∙ (λ j. sum_by (weight 0) (range_with_len (one j) 1)) ∙ sum_by-cons (weight 0) q [] ∙ (let e : weight 0 q + 0 ≡ weight 0 q = omega arith in e))
  under_cells none (suc l) q =
      let each = same_sum (λ c. under l (m * q + c)) (λ c. sum_by (weight 0) (range_with_len ((m * q + c) * m ^ l) (m ^ l))) 0 m (λ c low high. under_cells none l (m * q + c)) in
      let wide = widened 0 l q (m ^ l) (m ^ suc l) (pow-suc m l ∙ mul_comm (m ^ l) m) in
      omega (arith, none l q, each, wide)
