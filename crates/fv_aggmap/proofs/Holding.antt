-- Which numbers one of two sets has.
use Rattle.std.proofs.Common.{◌≡◌, ℕ, ◌<◌, ◌≤◌, List, Bool, true, false, ◌||◌, refl, ⊎_elim}
use Rattle.std.proofs.lemmas.Bool.{cases_lt}
use Rattle.fv_bits.specs.Members.{is_member, IsFullFrom}
use Rattle.fv_aggmap.specs.Space.{is_held, AreHeldFrom}

pub or_true : (x : Bool) → (x || true) ≡ true
or_true true = refl
or_true false = refl

pub or_same : (x : Bool) → (x || x) ≡ x
or_same true = refl
or_same false = refl

pub held_left : (left right : List Bool) (b : ℕ) → is_member left b ≡ true → is_held left right b ≡ true
held_left left right b is = rw is refl

-- each number from `from` up to `at` is held
abbrev pub AreHeldTo : List Bool → List Bool → ℕ → ℕ → Type 0
AreHeldTo left right from at = (k : ℕ) → from ≤ k → k < at → is_held left right k ≡ true

pub none_left : (left right : List Bool) (from at : ℕ) → AreHeldTo left right from at → IsFullFrom left at → AreHeldFrom left right from
none_left left right from at so_far full = record {
  held = λ b low high. ⊎_elim
      (λ (below : b < at). so_far b low below)
      (λ (past : at ≤ b). held_left left right b (full.full b past high))
      (cases_lt b at);
}
