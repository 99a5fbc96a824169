-- Counting the ends of lines.
use Rattle.std.proofs.Common.{◌≡◌, ℕ, ◌+◌, ◌++◌, false, cond, List, [], ◌∷◌, suc, refl, ◌∙◌, arith}
use Rattle.std.specs.Prelude.{fold, nat_eq}
use Rattle.fv_model.specs.Runs.{whole}
use Rattle.fv_script.proofs.ScriptLines.{IsOneLine}

-- 1 for a byte that ends a line
abbrev pub end_of : ℕ → ℕ
end_of b = cond (nat_eq b 10) 1 0

counts_from : (n : ℕ) (bytes : List ℕ) → fold (λ a x. a + end_of x) n bytes ≡ n + whole bytes
counts_from n [] = omega arith
counts_from n (b ∷ bytes) = omega (arith, counts_from (n + end_of b) bytes, counts_from (0 + end_of b) bytes)

pub whole_cons : (b : ℕ) (bytes : List ℕ) → whole (b ∷ bytes) ≡ end_of b + whole bytes
whole_cons b bytes = counts_from (0 + end_of b) bytes ∙ omega arith

pub whole_append : (first second : List ℕ) → whole (first ++ second) ≡ whole first + whole second
whole_append [] second = omega arith
whole_append (b ∷ first) second = omega (arith, whole_cons b (first ++ second), whole_append first second, whole_cons b first)

-- bytes that end no line have no line's end
pub none_in : (bytes : List ℕ) → IsOneLine bytes → whole bytes ≡ 0
none_in [] one = refl
none_in (b ∷ bytes) one =
    let first : nat_eq b 10 ≡ false = one 0 0 (omega arith) in
    whole_cons b bytes ∙ rw (first, none_in bytes (λ k d below. one (suc k) d (omega (arith, below)))) refl

pub one_in : (bytes : List ℕ) → IsOneLine bytes → whole (bytes ++ 10 ∷ []) ≡ 1
one_in bytes one = whole_append bytes (10 ∷ []) ∙ rw (none_in bytes one) refl
