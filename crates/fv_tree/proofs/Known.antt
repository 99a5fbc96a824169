-- What is in use has its place, also after a block was placed under a known one, and another was named as gone.
use Rattle.std.proofs.Common.{◌≡◌, ◌≢◌, ◌≤◌, ℕ, Bool, true, false, cond, nat_eq, refl, sym, ap, ◌∙◌, arith, ⊎_elim}
use Rattle.std.specs.Prelude.{Option, Some, None}
use Rattle.std.proofs.lemmas.Bool.{cases_eq}
use Rattle.std.proofs.lemmas.Bool.Decides.{nat_tests}
use Rattle.fv_tree.specs.Sources.{Shown, Use, Drops, IsUntouched}
use Rattle.fv_tree.specs.Stored.{HasPlaces, KeepsPlaces}
use Rattle.fv_tree.proofs.Cases.{some_none}

pub places_same : (old new : Shown) → new.used ≡ old.used → KeepsPlaces old new
places_same old new same has v x at = has v x (ap (λ (used : ℕ → Option Use). used v) (sym same) ∙ at)

pub places_untouched : (old new : Shown) → IsUntouched old new → KeepsPlaces old new
places_untouched old new same = places_same old new same.used

places_dropped : (old new : Shown) (vvbn : ℕ) → Drops old vvbn new → KeepsPlaces old new
places_dropped old new vvbn drops has v x at = ⊎_elim
    (λ (same : v ≡ vvbn).
    let test : nat_eq v vvbn ≡ true = grind (arith, nat_tests, same) in
    some_none (new.used v) x (drops.used v ∙ ap (λ b. cond b None (old.used v)) test) at)
    (λ (differs : v ≢ vvbn).
    let test : nat_eq v vvbn ≡ false = grind (arith, nat_tests, differs) in
    has v x (sym (drops.used v ∙ ap (λ b. cond b None (old.used v)) test) ∙ at))
    (cases_eq v vvbn)

pvbn_or : Option Use → ℕ
pvbn_or None = 0
pvbn_or (Some x) = x.pvbn

places_added : (old new : Shown) (vvbn : ℕ) (u : Use) → 1 ≤ u.pvbn → ((v : ℕ) → new.used v ≡ cond (nat_eq v vvbn) (Some u) (old.used v)) → KeepsPlaces old new
unfolding pvbn_or
places_added old new vvbn u known used has v x at = ⊎_elim
    (λ (same : v ≡ vvbn).
    let test : nat_eq v vvbn ≡ true = grind (arith, nat_tests, same) in
    let is : u.pvbn ≡ x.pvbn = ap pvbn_or (sym (used v ∙ ap (λ b. cond b (Some u) (old.used v)) test) ∙ at) in
    λ none. absurd (omega (arith, is, known, none)))
    (λ (differs : v ≢ vvbn).
    let test : nat_eq v vvbn ≡ false = grind (arith, nat_tests, differs) in
    has v x (sym (used v ∙ ap (λ b. cond b (Some u) (old.used v)) test) ∙ at))
    (cases_eq v vvbn)

-- a block is placed, and then another is named as gone, or none
pub places_swapped : (old mid new : Shown) (vvbn : ℕ) (u : Use) (r : ℕ) (named : Bool) → 1 ≤ u.pvbn → ((v : ℕ) → mid.used v ≡ cond (nat_eq v vvbn) (Some u) (old.used v))
    → (named ≡ true → Drops mid r new) → (named ≡ false → IsUntouched mid new) → KeepsPlaces old new
places_swapped old mid new vvbn u r named known used drops still has = at named drops still
  where
    placed : HasPlaces mid.used
    placed = places_added old mid vvbn u known used has

    at : (b : Bool) → (b ≡ true → Drops mid r new) → (b ≡ false → IsUntouched mid new) → HasPlaces new.used
    at true drops still = places_dropped mid new r (drops refl) placed
    at false drops still = places_untouched mid new (still refl) placed
