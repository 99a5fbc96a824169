-- What an option or a bit can be, and what can't be.
use Rattle.std.proofs.Common.{◌≡◌, ◌⊎◌, inl, inr, Bool, true, false, Option, Some, None, is_some, refl, ap, arith, ◌||◌}

pub false_is_true : {P : Type 0} (b : Bool) → b ≡ false → b ≡ true → P
false_is_true b e f = absurd (grind (arith, e, f))

pub there : {X : Type 0} (o : Option X) → (o ≡ None) ⊎ ((x : X) × (o ≡ Some x))
there None = inl refl
there (Some x) = inr (x, refl)

pub none_some : {X P : Type 0} (o : Option X) → o ≡ None → is_some o ≡ true → P
none_some o none some = false_is_true (is_some o) (ap is_some none) some

pub some_none : {X P : Type 0} (o : Option X) (x : X) → o ≡ None → o ≡ Some x → P
some_none o x none some = none_some o none (ap is_some some)

pub bit : (b : Bool) → (b ≡ false) ⊎ (b ≡ true)
bit false = inl refl
bit true = inr refl

-- ---- one test or another

pub first_true : (a b : Bool) → (a || b) ≡ true → (a ≡ true) ⊎ (b ≡ true)
first_true true b e = inl refl
first_true false b e = inr e

pub or_true : (a : Bool) → (a || true) ≡ true
or_true true = refl
or_true false = refl
