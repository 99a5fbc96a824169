-- What was read is in range: fields that are as said, and what they say.
use Rattle.std.proofs.Common.{◌≡◌, ℕ, zero, suc, ◌*◌, ◌≤◌, Bool, true, false, cond, List, [], ◌∷◌, length, drop, Result, Ok, Err, refl, sym, subst, arith, inl, inr, lt-ltb, le-ltb, length-drop}
use Rattle.std.specs.Prelude.{IfOk}
use Rattle.std.specs.List.{All, AllByRecursion}
use Rattle.std.proofs.lemmas.Bool.{cases_lt}
use Rattle.std.proofs.lemmas.List.Elements.{All-from_recursion}
use Rattle.fv_codec.specs.declared.shape.Shape.{Shape}
use Rattle.fv_codec.specs.Fields.{Verdict, Field, verdict, verdicts, ◌then◌, in_range, each, items, some_filled, reading}
use Rattle.fv_codec.proofs.Numbers.{AllAsSaid}

pub then_ok : (a b : Verdict) → (a then b) ≡ Ok tt → (a ≡ Ok tt) × (b ≡ Ok tt)
then_ok (Ok fine) b is = (refl, is)
then_ok (Err fault) b is = absurd cc

pub as_said : (fields : List Field) (bytes : List ℕ) → verdicts fields bytes ≡ Ok tt → AllAsSaid fields bytes
as_said [] bytes is = tt
as_said (field ∷ fields) bytes is = let p = then_ok (verdict field bytes) (verdicts fields bytes) is in (p.0, as_said fields bytes p.1)

pub within : (least greatest x : ℕ) → in_range least greatest x ≡ Ok tt → (least ≤ x) × (x ≤ greatest)
within least greatest x is =
    elim (cases_lt x least) [
      | inl lt ↦ let t = lt-ltb x least lt in let no = rw t at is in absurd cc
      | inr le ↦ let f = le-ltb x least le in elim (cases_lt greatest x) [
        | inl lt ↦ let t = lt-ltb greatest x lt in let no = rw (f, t) at is in absurd cc
        | inr le' ↦ (le, le')
      ]
    ]

abbrev judged : Bool → Shape → Verdict
judged b fault = cond b (Ok tt) (Err fault)

abbrev fine : Verdict
fine = Ok tt

pub divided : (b : Bool) (fault : Shape) → judged b fault ≡ fine → b ≡ true
divided true fault is = refl
divided false fault is = absurd cc

pub filled : (none : Bool) → some_filled none ≡ Ok tt → none ≡ false
filled true is = absurd cc
filled false is = refl

pub reading_ok : {X : Type 0} (v : Verdict) (x y : X) → reading v x ≡ Ok y → (v ≡ Ok tt) × (x ≡ y)
reading_ok (Ok fine) x y is = (refl, cc)
reading_ok (Err fault) x y is = absurd cc

pub in_range_of : {X : Type 0} (fields : List Field) (bytes : List ℕ) (x : X) (P : X → Type 0) (r : Result X Shape) → r ≡ reading (verdicts fields bytes) x → (AllAsSaid fields bytes → P x) → IfOk r P
in_range_of fields bytes x P (Ok y) is holds = let p = reading_ok (verdicts fields bytes) x y (sym is) in subst P p.1 (holds (as_said fields bytes p.0))
in_range_of fields bytes x P (Err fault) is holds = tt

module _ {X : Type 0} (size : ℕ) (asks : List ℕ → Verdict) (value : List ℕ → X) (P : X → Type 0) (item : (bytes : List ℕ) → size ≤ length bytes → asks bytes ≡ Ok tt → P (value bytes)) where
  each_is : (n : ℕ) (bytes : List ℕ) → n * size ≤ length bytes → each n size asks bytes ≡ Ok tt → AllByRecursion P (items n size value bytes)
  unfolding each items
  each_is zero bytes room is = tt
  each_is (suc n) bytes room is =
      let p = then_ok (asks bytes) (each n size asks (drop size bytes)) is in
      (item bytes (omega arith) p.0, each_is n (drop size bytes) (omega (arith, length-drop size bytes)) p.1)

  pub all_are : (n : ℕ) (bytes : List ℕ) → n * size ≤ length bytes → each n size asks bytes ≡ Ok tt → All P (items n size value bytes)
  all_are n bytes room is = All-from_recursion P (items n size value bytes) (each_is n bytes room is)
