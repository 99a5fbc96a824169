-- What a test of a list says of what is in it.
use Rattle.std.proofs.Common.{◌≡◌, ℕ, Bool, true, List, [], ◌∷◌, subst, arith, ⊎_elim}
use Rattle.std.specs.Prelude.{◌==◌}
use Rattle.std.specs.List.{list_all, list_any}
use Rattle.std.proofs.lemmas.Bool.{and_parts, or_cases}
use Rattle.std.proofs.lemmas.Bool.Decides.{nat_tests}

-- what holds of each number of a list holds of one that is in it
pub of_listed : (test : ℕ → Bool) (xs : List ℕ) (b : ℕ) → list_all test xs ≡ true → list_any (λ x. x == b) xs ≡ true → test b ≡ true
of_listed test [] b all there = absurd cc
of_listed test (x ∷ xs) b all there =
    let parts = and_parts (test x) (list_all test xs) all in ⊎_elim
    (λ (here : (x == b) ≡ true). let e : x ≡ b = grind (arith, nat_tests) in subst (λ (n : ℕ). test n ≡ true) e parts.0)
    (λ later. of_listed test xs b parts.1 later)
    (or_cases (x == b) (list_any (λ x. x == b) xs) there)
