-- What lies between two places of a list.
use Rattle.std.proofs.Common.{◌≡◌, ℕ, ◌+◌, ◌-◌, ◌<◌, ◌≤◌, ◌++◌, min, ⊎_elim, List, [], length, take, drop, refl, sym, ap, ◌∙◌, arith}
use Rattle.std.specs.List.{between, copy_within}
use Rattle.std.proofs.lemmas.List.{take-take, take_all, take_at, take-append-le, take-append-drop, length-take, length-take-le, length-drop, drop-drop, drop-take}
use Rattle.std.proofs.lemmas.Slice.{between_is, between_from_start}
use Rattle.std.proofs.lemmas.Bool.{cases_lt}
use Rattle.fv_lines.specs.Reading.{SaysAs}

pub none_between : (i j : ℕ) (xs : List ℕ) → j ≤ i → between i j xs ≡ []
none_between i j xs past = let none : j - i ≡ 0 = omega (arith, past) in rw none refl

-- the first of them
pub cut_between : (i j n : ℕ) (xs : List ℕ) → i + n ≤ j → take n (between i j xs) ≡ between i (i + n) xs
cut_between i j n xs within =
    let few : n ≤ j - i = omega (arith, within) in
    let count : n ≡ (i + n) - i = omega arith in
    take-take n (j - i) (drop i xs) few ∙ ap (λ (k : ℕ). take k (drop i xs)) count

-- all but the first
pub rest_between : (i j n : ℕ) (xs : List ℕ) → drop n (between i j xs) ≡ between (i + n) j xs
rest_between i j n xs = ap (λ (l : List ℕ). drop n l) (between_is xs i j) ∙ drop-drop n i (take j xs) ∙ sym (between_is xs (i + n) j)

take_sum : (m n : ℕ) (xs : List ℕ) → take (m + n) xs ≡ take m xs ++ take n (drop m xs)
take_sum m n xs =
    sym (take-append-drop m (take (m + n) xs))
    ∙ ap (λ (l : List ℕ). l ++ drop m (take (m + n) xs)) (take-take m (m + n) xs (omega arith))
    ∙ ap (λ (l : List ℕ). take m xs ++ l) (drop-take m n xs)

pub join_between : (a b c : ℕ) (xs : List ℕ) → a ≤ b → b ≤ c → between a c xs ≡ between a b xs ++ between b c xs
join_between a b c xs first second =
    let all : c - a ≡ (b - a) + (c - b) = omega (arith, first, second) in
    let behind : a + (b - a) ≡ b = omega (arith, first) in
    ap (λ (k : ℕ). take k (drop a xs)) all
    ∙ take_sum (b - a) (c - b) (drop a xs)
    ∙ ap (λ (l : List ℕ). between a b xs ++ take (c - b) l) (drop-drop (b - a) a xs ∙ ap (λ (k : ℕ). drop k xs) behind)

-- ---- lists with the same front

same_count : (n : ℕ) (a b : List ℕ) → take n a ≡ take n b → min n (length a) ≡ min n (length b)
same_count n a b same = sym (length-take n a) ∙ ap (λ (l : List ℕ). length l) same ∙ length-take n b

front_then : (n : ℕ) (a b c : List ℕ) → take n a ≡ take n b → take n (a ++ c) ≡ take n (b ++ c)
front_then n a b c same =
    let counts : min n (length a) ≡ min n (length b) = same_count n a b same in
    ⊎_elim
    (λ short.
    let other : length b < n = omega (arith, counts, short) in
    let equal : a ≡ b = sym (take_all n a (omega (arith, short))) ∙ same ∙ take_all n b (omega (arith, other)) in
    ap (λ (l : List ℕ). take n (l ++ c)) equal)
    (λ long. take-append-le n a c long ∙ same ∙ sym (take-append-le n b c (omega (arith, counts, long))))
    (cases_lt (length a) n)

pub says_then : (a b c : List ℕ) → SaysAs a b → SaysAs (a ++ c) (b ++ c)
says_then a b c same = front_then 9001 a b c same

pub same_size : (a b : List ℕ) → SaysAs a b → min 9001 (length a) ≡ min 9001 (length b)
same_size a b same = same_count 9001 a b same

-- ---- a line that was moved to the front

same_cut : (n k m : ℕ) (xs : List ℕ) → k ≡ min m n → take n (take k xs) ≡ take n (take m xs)
same_cut n k m xs is =
    ⊎_elim
    (λ long.
    let whole : k ≡ n = omega (arith, is, long) in
    ap (λ (j : ℕ). take n (take j xs)) whole ∙ take-take n n xs (omega arith) ∙ sym (take-take n m xs (omega (arith, long))))
    (λ short. let whole : k ≡ m = omega (arith, is, short) in ap (λ (j : ℕ). take n (take j xs)) whole)
    (cases_lt n m)

copied : (bytes : List ℕ) (from kept : ℕ) → from + kept ≤ length bytes → take kept (copy_within bytes from (from + kept) 0) ≡ take kept (drop from bytes)
copied bytes from kept within =
    let count : (from + kept) - from ≡ kept = omega arith in
    let enough : kept ≤ length (drop from bytes) = omega (arith, length-drop from bytes, within) in
    rw count (take_at (take kept (drop from bytes)) (drop (0 + kept) bytes) kept (length-take-le kept (drop from bytes) enough))

moved_by : (n : ℕ) (bytes new : List ℕ) (from to kept : ℕ) → from ≤ to → to ≤ length bytes → kept ≡ min (to - from) n → new ≡ copy_within bytes from (from + kept) 0
    → take n (between 0 kept new) ≡ take n (between from to bytes)
moved_by n bytes new from to kept order within is after =
    let inside : from + kept ≤ length bytes = omega (arith, order, within, is) in
    ap (λ (l : List ℕ). take n l) (between_from_start new kept ∙ ap (λ (l : List ℕ). take kept l) after ∙ copied bytes from kept inside)
    ∙ same_cut n kept (to - from) (drop from bytes) is

pub moved : (bytes new : List ℕ) (from to kept : ℕ) → from ≤ to → to ≤ length bytes → kept ≡ min (to - from) 9001 → new ≡ copy_within bytes from (from + kept) 0
    → SaysAs (between 0 kept new) (between from to bytes)
moved bytes new from to kept order within is after = moved_by 9001 bytes new from to kept order within is after
