-- Blocks among places.
use Rattle.std.proofs.Common.{◌≡◌, ◌≢◌, ℕ, suc, ◌<◌, List, [], ◌∷◌, length, get_or, true, false, ◌||◌, sym, ap, ◌∙◌, arith, ⊎_elim}
use Rattle.std.proofs.lemmas.Bool.{true≢false}
use Rattle.std.proofs.lemmas.Bool.{cases_Bool}
use Rattle.std.proofs.lemmas.Bool.Decides.{nat_tests}
use Rattle.std.proofs.lemmas.List.Folds.{list_any_at}
use Rattle.fv_container.specs.Spelled.{is_at, names}

pub at_itself : (b : ℕ) → b ≢ 0 → is_at b b ≡ true
at_itself b some = grind (arith, nat_tests, some)

pub at_means : (b place : ℕ) → is_at b place ≡ true → (place ≡ b) × (b ≢ 0)
at_means b place at = (grind (arith, nat_tests, at), grind (arith, nat_tests, at))

pub at_other : (b place : ℕ) → b ≢ place → is_at b place ≡ false
at_other b place other = grind (arith, nat_tests, other)

-- 0 is no place
pub at_none : (b : ℕ) → is_at b 0 ≡ false
at_none b = grind (arith, nat_tests)

-- a place that isn't 0 is named
pub named_at : (places : List ℕ) (m b : ℕ) → m < length places → get_or places m 0 ≡ b → b ≢ 0 → names places b ≡ true
named_at places m b within is some = list_any_at (is_at b) places m 0 within (rw is (at_itself b some))

-- a named block stands somewhere
pub record StandsAt (places : List ℕ) (b : ℕ) : Type 0 where
  pub number : ℕ
  pub within : number < length places
  pub place : get_or places number 0 ≡ b
  pub some : b ≢ 0

pub named_where : (places : List ℕ) (b : ℕ) → names places b ≡ true → StandsAt places b
named_where [] b named = cc
named_where (p ∷ ps) b named = ⊎_elim
    (λ (here : is_at b p ≡ true). let means = at_means b p here in record { number = 0; within = omega arith; place = means.0; some = means.1 })
    (λ (other : is_at b p ≡ false).
    let rest = named_where ps b (sym (ap (λ t. t || names ps b) other) ∙ named) in
    record { number = suc rest.number; within = omega (arith, rest.within); place = rest.place; some = rest.some })
    (cases_Bool (is_at b p))

pub elsewhere : (places : List ℕ) (m b : ℕ) → m < length places → get_or places m 0 ≢ 0 → names places b ≡ false → b ≢ get_or places m 0
elsewhere places m b within some away is = true≢false (sym (named_at places m b within (sym is) (λ none. some (sym is ∙ none))) ∙ away)
