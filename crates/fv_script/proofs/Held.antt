-- The value of digits, held at the greatest number of 128 bits.
use Rattle.std.proofs.Common.{◌≡◌, ℕ, ◌+◌, ◌-◌, ◌*◌, ◌^◌, List, [], ◌∷◌, refl, ap, ◌∙◌, arith}
use Rattle.std.specs.Prelude.{fold, min}
use Rattle.fv_model.specs.Words.{value_of}
use Rattle.fv_script.specs.Parts.{held}

one_held : (value digit : ℕ) → held (min value (2 ^ 128 - 1)) digit ≡ min (10 * value + (digit - 48)) (2 ^ 128 - 1)
one_held value digit = omega arith

all_held : (value : ℕ) (digits : List ℕ) → fold held (min value (2 ^ 128 - 1)) digits ≡ min (fold (λ v d. 10 * v + (d - 48)) value digits) (2 ^ 128 - 1)
all_held value [] = refl
all_held value (digit ∷ digits) = ap (λ v. fold held v digits) (one_held value digit) ∙ all_held (10 * value + (digit - 48)) digits

pub value_held : (digits : List ℕ) → fold held 0 digits ≡ min (value_of digits) (2 ^ 128 - 1)
value_held digits = all_held 0 digits
