-- How often a number stands in a list.
use Rattle.std.proofs.Common.{◌≡◌, ◌≢◌, ℕ, ◌+◌, Bool, true, false, cond, List, [], ◌∷◌, ◌++◌, ap, ◌∙◌, arith}
use Rattle.std.specs.Prelude.{◌==◌}
use Rattle.std.proofs.lemmas.Bool.Decides.{nat_tests}
use Rattle.std.proofs.lemmas.List.Sums.{sum_by_push, sum_by-append}
use Rattle.fv_third_pass.specs.Tallied.{times}

abbrev one : ℕ → ℕ → ℕ
one b x = cond (x == b) 1 0

pub times_both : (b : ℕ) (xs ys : List ℕ) → times b (xs ++ ys) ≡ times b xs + times b ys
times_both b xs ys = sum_by-append (one b) xs ys

pub times_same : (b : ℕ) (list : List ℕ) → times b (list ++ b ∷ []) ≡ times b list + 1
times_same b list =
    let test : (b == b) ≡ true = grind (arith, nat_tests) in
    sum_by_push (one b) list b ∙ ap (λ (t : Bool). times b list + cond {A = ℕ} t 1 0) test

pub times_other : (b x : ℕ) (list : List ℕ) → x ≢ b → times b (list ++ x ∷ []) ≡ times b list
times_other b x list apart =
    let test : (x == b) ≡ false = grind (arith, nat_tests, apart) in
    let step : times b (list ++ x ∷ []) ≡ times b list + 0 = sum_by_push (one b) list x ∙ ap (λ (t : Bool). times b list + cond {A = ℕ} t 1 0) test in
    omega (arith, step)
