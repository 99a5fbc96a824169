-- The labels that the new root names before a point writes anything: none for a slot without a volume.
use Rattle.std.proofs.Common.{◌≡◌, ◌≢◌, ⊎_elim, ℕ, ◌+◌, ◌<◌, ◌≤◌, List, length, All, get_or, Option, Some, None, refl, sym, ap, subst, ◌∙◌, arith, length-set}
use Rattle.std.specs.Prelude.{slice_set}
use Rattle.std.proofs.lemmas.Bool.{cases_eq}
use Rattle.std.proofs.lemmas.List.{get_or-set_same, get_or-set_other}
use Rattle.std.proofs.lemmas.List.Elements.{All-get_or, All-set}
use Rattle.fv_codec.specs.Blocks.{last_place}
use Rattle.fv_volume.specs.declared.state.VolumeState.{VolumeState}
use Rattle.fv_volume.specs.States.{States, state_at}
use Rattle.fv_cp.specs.Course.{AreNamedFor, ClearedTo, label_lent}

pub cleared_none : (states : States) (before : List ℕ) → length before ≡ 64 → All (λ place. place ≤ last_place) before → ClearedTo states before before 0
cleared_none states before long places = record { long = long; places = places; done = λ s low. absurd (omega (arith, low)); rest = λ s past. refl }

fits : (o : Option VolumeState) (place : ℕ) → place ≤ last_place → label_lent o place ≤ last_place
fits None place most = omega arith
fits (Some x) place most = most

-- one slot more
pub cleared_more : (states : States) (before mid now : List ℕ) (n : ℕ) → n < 64 → now ≡ slice_set mid n (label_lent (state_at states n) (get_or mid n 0)) → ClearedTo states before mid n → ClearedTo states before now (n + 1)
cleared_more states before mid now n inside is was =
    let within : n < length mid = (let long = was.long in omega (arith, long, inside)) in
    record {
      long = ap (λ (xs : List ℕ). length xs) is ∙ length-set mid n (label_lent (state_at states n) (get_or mid n 0)) ∙ was.long;
      places = subst (λ (xs : List ℕ). All (λ place. place ≤ last_place) xs) (sym is)
          (All-set (λ place. place ≤ last_place) mid n (label_lent (state_at states n) (get_or mid n 0)) (fits (state_at states n) (get_or mid n 0) (All-get_or (λ place. place ≤ last_place) mid n 0 within was.places)) was.places);
      done = λ s low. ap (λ (xs : List ℕ). get_or xs s 0) is ∙ ⊎_elim
          (λ (here : s ≡ n). ap (λ (k : ℕ). get_or (slice_set mid n (label_lent (state_at states n) (get_or mid n 0))) k 0) here ∙ get_or-set_same mid n (label_lent (state_at states n) (get_or mid n 0)) 0 within
          ∙ ap (label_lent (state_at states n)) (was.rest n (omega arith)) ∙ ap (λ (k : ℕ). label_lent (state_at states k) (get_or before k 0)) (sym here))
          (λ (other : s ≢ n). get_or-set_other mid n s (label_lent (state_at states n) (get_or mid n 0)) 0 other ∙ was.done s (omega (arith, low, other)))
          (cases_eq s n);
      rest = λ s past. ap (λ (xs : List ℕ). get_or xs s 0) is ∙ get_or-set_other mid n s (label_lent (state_at states n) (get_or mid n 0)) 0 (omega (arith, past)) ∙ was.rest s (omega (arith, past));
    }

pub cleared_all : (states : States) (before now : List ℕ) (n : ℕ) → 64 ≤ n → ClearedTo states before now n → AreNamedFor states before now
cleared_all states before now n past is = record { long = is.long; places = is.places; each = λ s low. is.done s (omega (arith, past, low)) }
