-- The blocks of entries that go, which are given back one after another.
use Rattle.std.proofs.Common.{◌≡◌, ℕ, ◌+◌, ◌-◌, ◌≤◌, Bool, true, false, ◌&&◌, ◌||◌, refl, ap, ◌∙◌}
use Rattle.fv_aggmap.specs.Space.{Space}
use Rattle.fv_aggmap.proofs.Giving.{given_same, given_then}
use Rattle.fv_container.specs.Leading.{lead_to, place_at}
use Rattle.fv_container.specs.Mapped.{Mapped}
use Rattle.fv_container.specs.Spelled.{is_at}
use Rattle.fv_container.proofs.Leading.{lead_more, or_false}
use Rattle.fv_delay.specs.Reclaims.{HasGiven}

-- one entry more: it stays, or its block is given back
pub given_more : (container : Mapped) (p : ℕ → Bool) (first v : ℕ) (old mid new : Space) → first ≤ v → HasGiven old (lead_to container p first (v - first)) mid
    → (p v ≡ false → new ≡ mid) → (p v ≡ true → HasGiven mid (λ b. is_at b (place_at container v)) new) → HasGiven old (lead_to container p first ((v + 1) - first)) new
given_more container p first v old mid new from before same gave = so (p v) refl
  where
    so : (t : Bool) → p v ≡ t → HasGiven old (lead_to container p first ((v + 1) - first)) new
    so true e = given_then old mid new (lead_to container p first (v - first)) (λ b. is_at b (place_at container v)) (lead_to container p first ((v + 1) - first))
        (λ b. lead_more container p first v b from ∙ ap (λ (t : Bool). lead_to container p first (v - first) b || (t && is_at b (place_at container v))) e) before (gave e)
    so false e = rw (same e) (given_same old mid (lead_to container p first (v - first)) (lead_to container p first ((v + 1) - first))
        (λ b. lead_more container p first v b from ∙ ap (λ (t : Bool). lead_to container p first (v - first) b || (t && is_at b (place_at container v))) e ∙ or_false (lead_to container p first (v - first) b)) before)
