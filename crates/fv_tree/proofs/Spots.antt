-- Levels and ranges as keys of what is held in memory.
use Rattle.std.proofs.Common.{◌≡◌, ◌≢◌, ◌⊎◌, inl, inr, ℕ, Bool, true, false, ◌&&◌, cond, Option, Some, nat_eq, ap, ◌∙◌, ◌<◌, arith}
use Rattle.std.specs.Ordering.{is_eq, is_gt}
use Rattle.std.specs.Option.{option_map}
use Rattle.std.proofs.lemmas.Bool.Decides.{nat_tests}
use Rattle.fv_model.specs.Trees.{spot_cmp}

pub same_spot : (a b k q : ℕ) → is_eq (spot_cmp (a, b) (k, q)) ≡ (nat_eq k a && nat_eq q b)
same_spot a b k q = grind (arith, nat_tests)

-- a choice that a function is applied to
pub mapped : {X Y : Type 0} (f : X → Y) (a b : Bool) (x : X) (o : Option X) → a ≡ b → option_map f (cond a (Some x) o) ≡ cond b (Some (f x)) (option_map f o)
mapped f true b x o e = ap (λ c. cond c (Some (f x)) (option_map f o)) e
mapped f false b x o e = ap (λ c. cond c (Some (f x)) (option_map f o)) e

pub here : (k q : ℕ) → (nat_eq k k && nat_eq q q) ≡ true
here k q = grind (arith, nat_tests)

pub elsewhere : (k q a b : ℕ) → (k ≢ a) ⊎ (q ≢ b) → (nat_eq k a && nat_eq q b) ≡ false
elsewhere k q a b (inl h) = grind (arith, nat_tests)
elsewhere k q a b (inr h) = grind (arith, nat_tests)

-- no spot of a lower level comes after
pub below_first : {P : Type 0} (a b k q : ℕ) → k < a → is_gt (spot_cmp (a, b) (k, q)) ≡ false → P
below_first a b k q lt e = absurd (grind (arith, nat_tests, lt, e))

pub spot_differs : (a b k q : ℕ) → (k ≢ a) ⊎ (q ≢ b) → is_eq (spot_cmp (a, b) (k, q)) ≡ false
spot_differs a b k q other = same_spot a b k q ∙ elsewhere k q a b other

pub spot_same : (a b : ℕ) → is_eq (spot_cmp (a, b) (a, b)) ≡ true
spot_same a b = same_spot a b a b ∙ here a b
