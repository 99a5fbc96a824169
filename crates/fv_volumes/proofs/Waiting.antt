-- Which volumes wait to be written once the first slots are passed.
use Rattle.std.proofs.Common.{◌≡◌, ◌≢◌, ℕ, suc, ◌<◌, ◌≤◌, Bool, true, false, Option, Some, None, ⊎_elim, refl, arith}
use Rattle.std.specs.Prelude.{IfSome}
use Rattle.std.proofs.lemmas.Bool.{both_ways, cases_eq}
use Rattle.fv_volume.specs.declared.state.VolumeState.{VolumeState}

-- at first each that changed
pub waits_first : (s : ℕ) (o : Option VolumeState) → IfSome o (λ x. x.changed ≡ true → 0 ≤ s)
waits_first s None = tt
waits_first s (Some x) = λ changed. omega arith

-- then none of the slot that is passed, where it didn't change
pub waits_on : (s k : ℕ) (o : Option VolumeState) → (k ≡ s → IfSome o (λ x. x.changed ≡ false)) → IfSome o (λ x. x.changed ≡ true → s ≤ k) → IfSome o (λ x. x.changed ≡ true → suc s ≤ k)
waits_on s k None same waits = tt
waits_on s k (Some x) same waits = λ changed. ⊎_elim
    (λ (e : k ≡ s). absurd (both_ways _ (same e) changed))
    (λ (other : k ≢ s). let high = waits changed in omega (arith, high, other))
    (cases_eq k s)

-- and once all are passed none
pub none_waits : (o : Option VolumeState) (s : ℕ) → s < 64 → IfSome o (λ x. x.changed ≡ true → 64 ≤ s) → IfSome o (λ x. x.changed ≡ false)
none_waits None s inside waits = tt
none_waits (Some x) s inside waits = so x.changed refl
  where
    so : (t : Bool) → x.changed ≡ t → t ≡ false
    so true e = let high = waits e in absurd (omega (arith, high, inside))
    so false e = refl
