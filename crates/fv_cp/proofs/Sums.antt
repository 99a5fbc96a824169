-- Sums over the volumes of a session, by slot.
use Rattle.std.proofs.Common.{◌≡◌, ◌<◌, ◌+◌, ℕ, suc, [], ◌∷◌, length, Option, sum_by, refl, ap, ◌∙◌, arith}
use Rattle.std.specs.List.{range_with_len}
use Rattle.std.proofs.lemmas.List.Sums.{sum_by-cons}
use Rattle.fv_volume.specs.declared.state.VolumeState.{VolumeState}
use Rattle.fv_volume.specs.States.{States, state_at}

by_slot : (f : Option VolumeState → ℕ) (g : ℕ → Option VolumeState) (xs : States) (from : ℕ) → ((k : ℕ) → k < length xs → g (from + k) ≡ state_at xs k) → sum_by f xs ≡ sum_by (λ s. f (g s)) (range_with_len from (length xs))
by_slot f g [] from same = refl
by_slot f g (x ∷ xs) from same =
    let first : g from ≡ x = ap g (omega arith) ∙ same 0 (omega arith) in
    let here : f (g from) ≡ f x = ap f first in
    let rest : sum_by f xs ≡ sum_by (λ s. f (g s)) (range_with_len (from + 1) (length xs)) = by_slot f g xs (from + 1) (λ k lt. ap g (omega arith) ∙ same (suc k) (omega (arith, lt))) in
    omega (arith, here, rest, sum_by-cons f x xs, sum_by-cons (λ s. f (g s)) from (range_with_len (from + 1) (length xs)))

-- a sum over all slots
pub over_slots : (f : Option VolumeState → ℕ) (states : States) → length states ≡ 64 → sum_by f states ≡ sum_by (λ s. f (state_at states s)) (range_with_len 0 64)
over_slots f states long =
    by_slot f (state_at states) states 0 (λ k lt. ap (state_at states) (omega arith)) ∙ ap (λ n. sum_by (λ s. f (state_at states s)) (range_with_len 0 n)) long
