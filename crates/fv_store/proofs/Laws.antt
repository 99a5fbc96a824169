-- Laws of stores, for callers.
use Rattle.std.proofs.Common.{◌≡◌, ℕ, false, cond, [], ◌∷◌, Some, None, refl, sym, ap, ◌∙◌, ⊎_elim, arith, nat_eq}
use Rattle.std.proofs.lemmas.Bool.{cases_Bool}
use Rattle.std.proofs.lemmas.Bool.Decides.{nat_tests}
use Rattle.lru.proofs.Splits.{Contains-nil}
use Rattle.fv_disk.specs.Shown.{Shown}
use Rattle.fv_store.specs.Held.{Pairs, block_at, without, StandsOn}
use Rattle.fv_store.proofs.Lists.{without_first, without_other}

-- a store that holds nothing stands on every disk
pub stands_at_first : (disk : Shown) → StandsOn disk []
stands_at_first disk = record { same = λ told k b in_it. absurd (Contains-nil (k, b) in_it) }

-- a forgotten block isn't held
pub block_at-without : (pairs : Pairs) (k : ℕ) → block_at (without pairs k) k ≡ None
unfolding without
block_at-without [] k = refl
block_at-without (e ∷ es) k = ⊎_elim (λ same. ap (λ l. block_at l k) (without_first e es k same) ∙ block_at-without es k) (λ other. ap (λ l. block_at l k) (without_other e es k other) ∙ ap (λ t. cond t (Some e.1) (block_at (without es k) k)) other ∙ block_at-without es k) (cases_Bool (nat_eq k e.0))

-- the others stay
pub block_at-other : (pairs : Pairs) (k j : ℕ) → nat_eq k j ≡ false → block_at (without pairs k) j ≡ block_at pairs j
unfolding without
block_at-other [] k j apart = refl
block_at-other (e ∷ es) k j apart = ⊎_elim (λ same.
    let away : nat_eq j e.0 ≡ false = grind (arith, nat_tests, apart, same) in
    ap (λ l. block_at l j) (without_first e es k same) ∙ block_at-other es k j apart ∙ sym (ap (λ t. cond t (Some e.1) (block_at es j)) away)) (λ other.
    ap (λ l. block_at l j) (without_other e es k other) ∙ ap (cond (nat_eq j e.0) (Some e.1)) (block_at-other es k j apart)) (cases_Bool (nat_eq k e.0))
