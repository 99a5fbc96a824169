-- The least number of levels, by powers.
use Rattle.std.proofs.Common.{◌≡◌, ℕ, suc, ◌^◌, ◌<◌, ◌≤◌, arith, ⊎_elim}
use Rattle.std.proofs.lemmas.Bool.{cases_lt}
use Rattle.fv_model.specs.Trees.{fan, least_levels}
use Rattle.fv_laws.proofs.Levels.{least_low, least_reaches, wider}

pub least_zero : (n : ℕ) → n ≤ 1 → least_levels n ≡ 0
least_zero n low = let few = least_low n 0 low in omega (arith, few)

pub least_suc : (n h : ℕ) → n ≤ fan ^ suc h → fan ^ h < n → least_levels n ≡ suc h
least_suc n h high low =
    let few = least_low n (suc h) high in
    let reach = least_reaches n in ⊎_elim
    (λ (more : h < least_levels n). omega (arith, few, more))
    (λ (less : least_levels n ≤ h). let wide = wider (least_levels n) h less in absurd (omega (arith, low, reach, wide)))
    (cases_lt h (least_levels n))
