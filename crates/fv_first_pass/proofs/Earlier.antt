-- The first number of a row that passes a test, number by number.
use Rattle.std.proofs.Common.{◌≡◌, ℕ, ◌+◌, Bool, [], ◌∷◌, sym, ap, ◌∙◌, arith}
use Rattle.std.specs.Prelude.{Option, find}
use Rattle.std.specs.List.{range_with_len}
use Rattle.std.specs.Option.{option_or}
use Rattle.std.proofs.lemmas.List.Folds.{find-append}
use Rattle.fv_first_pass.proofs.Ranges.{range_more}

pub first_more : (p : ℕ → Bool) (n : ℕ) (first next : Option ℕ) → first ≡ find p (range_with_len 0 n) → next ≡ find p (n ∷ []) → option_or first next ≡ find p (range_with_len 0 (n + 1))
first_more p n first next is one =
    rw (is, one) (sym (ap (find p) (range_more 0 n n (omega arith)) ∙ find-append p (range_with_len 0 n) (n ∷ [])))
