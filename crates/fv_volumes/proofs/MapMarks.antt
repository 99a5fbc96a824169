-- Marks of the regions with the entries of the blocks of maps that a consistency point writes.
use Rattle.std.proofs.Common.{◌≡◌, ◌≢◌, ℕ, ◌+◌, ◌<◌, ◌/◌, Bool, true, false, List, length, get_or, ⊎_elim, ap, ◌∙◌, arith, get_or-set_other, get_or-set_same}
use Rattle.std.specs.Prelude.{slice_set}
use Rattle.std.proofs.lemmas.Bool.{cases_eq}
use Rattle.fv_volume.specs.declared.state.VolumeState.{VolumeState}
use Rattle.fv_volume.specs.Stored.{is_map_written}

-- the regions of all blocks that are written below a VVBN are marked
abbrev pub AreMarkedBelow : VolumeState → ℕ → List Bool → Type 0
AreMarkedBelow x n plan = (v : ℕ) → v < n → is_map_written x v ≡ true → get_or plan (v / 256) false ≡ true

-- so they are where one more is marked
pub marked_more : (x : VolumeState) (k : ℕ) (plan : List Bool) → k / 256 < length plan → AreMarkedBelow x k plan → AreMarkedBelow x (k + 1) (slice_set plan (k / 256) true)
marked_more x k plan within were v low on = ⊎_elim
    (λ (same : v / 256 ≡ k / 256). ap (λ (r : ℕ). get_or (slice_set plan (k / 256) true) r false) same ∙ get_or-set_same plan (k / 256) true false within)
    (λ (other : v / 256 ≢ k / 256).
    let apart : v ≢ k = λ e. other (ap (λ (n : ℕ). n / 256) e) in
    get_or-set_other plan (k / 256) (v / 256) true false other ∙ were v (omega (arith, low, apart)) on)
    (cases_eq (v / 256) (k / 256))

-- a mark that is there stays
pub mark_kept : (plan : List Bool) (region j : ℕ) → region < length plan → get_or plan j false ≡ true → get_or (slice_set plan region true) j false ≡ true
mark_kept plan region j within on = ⊎_elim
    (λ (same : j ≡ region). ap (λ (r : ℕ). get_or (slice_set plan region true) r false) same ∙ get_or-set_same plan region true false within)
    (λ (other : j ≢ region). get_or-set_other plan region j true false other ∙ on)
    (cases_eq j region)
