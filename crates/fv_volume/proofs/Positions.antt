-- The first place of a row that passes a test, or else its length.
use Rattle.std.proofs.Common.{◌≡◌, ◌<◌, ◌≤◌, ℕ, Bool, true, false, cond, not, Option, Some, None, List, length, refl, ap, ◌∙◌, arith}
use Rattle.std.specs.Prelude.{nat_lt, position}
use Rattle.std.specs.List.{position_or_len}
use Rattle.std.proofs.lemmas.Bool.Decides.{nat_tests}
use Rattle.std.proofs.lemmas.List.Sums.{prefix_len-le-length}

place_fits : {X : Type 0} (p : X → Bool) (xs : List X) → position_or_len p xs ≤ length xs
place_fits p xs = prefix_len-le-length (λ x. not (p x)) xs

abbrev place_or : Option ℕ → ℕ → ℕ
place_or None len = len
place_or (Some k) len = k

place_in : (b : Bool) (n len : ℕ) → nat_lt n len ≡ b → n ≤ len → (o : Option ℕ) → o ≡ cond b (Some n) None → place_or o len ≡ n
place_in true n len is le o e = ap (λ (q : Option ℕ). place_or q len) e
place_in false n len is le o e = ap (λ (q : Option ℕ). place_or q len) e ∙ (let same : len ≡ n = grind (arith, nat_tests, is, le) in same)

pub first_of : {X : Type 0} (p : X → Bool) (xs : List X) (k : ℕ) → Some k ≡ position p xs → k ≡ position_or_len p xs
first_of p xs k is = place_in (nat_lt (position_or_len p xs) (length xs)) (position_or_len p xs) (length xs) refl (place_fits p xs) (Some k) is

pub last_of : {X : Type 0} (p : X → Bool) (xs : List X) → None ≡ position p xs → length xs ≡ position_or_len p xs
last_of p xs is = place_in (nat_lt (position_or_len p xs) (length xs)) (position_or_len p xs) (length xs) refl (place_fits p xs) None is

within_if : (b : Bool) (n len k : ℕ) → nat_lt n len ≡ b → Some k ≡ cond b (Some n) None → k < len
within_if true n len k is e = let same : k ≡ n = cc in grind (arith, nat_tests, is, same)
within_if false n len k is e = absurd cc

pub first_within : {X : Type 0} (p : X → Bool) (xs : List X) (k : ℕ) → Some k ≡ position p xs → k < length xs
first_within p xs k is = within_if (nat_lt (position_or_len p xs) (length xs)) (position_or_len p xs) (length xs) k refl is
