-- Which blocks the steps of making an aggregate spare.
use Rattle.std.proofs.Common.{◌≡◌, ℕ, ◌<◌, ◌≤◌, ◌⊎◌, List, ◌∙◌, arith, inl, inr}
use Rattle.std.specs.Prelude.{◌≢◌, Result, Ok}
use Rattle.fv_disk.specs.declared.Failed.{Failed}
use Rattle.fv_disk.specs.Shown.{Image, Shown, IsDisk}
use Rattle.fv_disk.specs.DiskCalls.{Writes}
use Rattle.fv_disk.specs.Sparing.{LeftBefore, Spares}
use Rattle.fv_disk.proofs.Moments.{weaken}
use Rattle.fv_disk.proofs.Sparing.{spares_then, spares_write}
use Rattle.fv_image.specs.Layout.{gate_place}
use Rattle.fv_model.specs.Machines.{first_block}
use Rattle.fv_root.specs.Formatted.{IsNoGate, WritesFixed}
use Rattle.fv_root.specs.Commits.{IsNotGate}
use Rattle.fv_root.specs.Steps.{IsBesides}

-- a fixed block behind the gates isn't one of those that stay
pub besides : (blocks at b : ℕ) → at < first_block blocks → IsNoGate at → IsBesides blocks b → b ≢ at
besides blocks at b fixed behind is = λ same. elim is [
  | inl first ↦ absurd (behind.first (omega (arith, same, first)))
  | inr later ↦ elim later [
    | inl second ↦ absurd (behind.second (omega (arith, same, second)))
    | inr volumes ↦ absurd (omega (arith, same, fixed, volumes))
  ]
]

-- a write of one of the two gates
pub gate_spared : (old : Shown) (at : ℕ) (block : List ℕ) (new : Shown) (result : Result Unit Failed) → (at ≡ gate_place 0) ⊎ (at ≡ gate_place 1) → IsDisk old → Writes old at block new result → Spares IsNoGate old new result
gate_spared old at block new result is laws = spares_write IsNoGate old at block new result laws (λ b other. λ same. elim is [
  | inl first ↦ other.first (same ∙ first)
  | inr second ↦ other.second (same ∙ second)
])

-- what spares each allocatable block writes fixed blocks alone
pub fixed_so : (spared : ℕ → Type 0) (blocks : ℕ) (old new : Shown) (result : Result Unit Failed) → ((b : ℕ) → first_block blocks ≤ b → spared b) → Spares spared old new result → WritesFixed blocks old new result
fixed_so spared blocks old new result volumes s =
    let fewer : (c : Image) → LeftBefore spared old c → LeftBefore (λ b. first_block blocks ≤ b) old c = λ c kept. (kept.0, kept.1, λ b is. kept.2 b (volumes b is)) in
    record {
      counted = s.counted;
      reads = λ tells b is. s.reads tells b (volumes b is);
      images = λ c now. fewer c (s.images c now);
      any_moment = weaken old new (λ c g. LeftBefore spared old c × (g ≡ old.given)) (λ c g. LeftBefore (λ b. first_block blocks ≤ b) old c × (g ≡ old.given)) (λ c g kept. (fewer c kept.0, kept.1)) s.any_moment;
    }

pub fixed_gates : (blocks : ℕ) (old new : Shown) (result : Result Unit Failed) → Spares IsNoGate old new result → WritesFixed blocks old new result
fixed_gates blocks old new result = fixed_so IsNoGate blocks old new result (λ b le. record { first = omega arith; second = omega arith })

pub fixed_behind : (blocks : ℕ) (old new : Shown) (result : Result Unit Failed) → Spares (IsBesides blocks) old new result → WritesFixed blocks old new result
fixed_behind blocks old new result = fixed_so (IsBesides blocks) blocks old new result (λ b le. inr (inr le))

pub fixed_gate : (blocks : ℕ) (old new : Shown) (result : Result Unit Failed) → Spares (IsNotGate 0) old new result → WritesFixed blocks old new result
fixed_gate blocks old new result = fixed_so (IsNotGate 0) blocks old new result (λ b le. omega arith)

pub fixed_then : (blocks : ℕ) (old mid new : Shown) (result : Result Unit Failed) → WritesFixed blocks old mid (Ok tt) → WritesFixed blocks mid new result → WritesFixed blocks old new result
fixed_then blocks = spares_then (λ b. first_block blocks ≤ b)
