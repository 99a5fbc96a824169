-- A fault's wanted and found numbers differ.
use Rattle.std.proofs.Common.{◌≡◌, ℕ, zero, suc, ◌-◌, ◌%◌, ◌≢◌, Bool, true, false, cond, eqb, List, [], ◌∷◌, take, drop, Result, Ok, Err, refl, sym, ap, ◌∙◌, arith, inl, inr, lt-ltb, le-ltb, eq-eqb, ne_eqb}
use Rattle.std.specs.Prelude.{IfErr}
use Rattle.std.proofs.Math.Nat.{mod-le}
use Rattle.std.proofs.lemmas.Bool.{cases_eq, cases_lt}
use Rattle.fv_codec.specs.declared.shape.Shape.{Shape}
use Rattle.fv_codec.specs.Bytes.{word_at, half_at, byte_at}
use Rattle.fv_codec.specs.Fields.{Verdict, Field, word_in, half_in, byte_in, step_in, zeros_in, name_in, part_in, items_in, some_in, verdict, verdicts, ◌then◌, in_range, all_zero, all_name, is_name_byte, name_filled, each, none_filled, some_filled, reading}

abbrev pub Differs : Verdict → Type 0
Differs v = IfErr v (λ s. s.want ≢ s.found)

then_differs : (a b : Verdict) → Differs a → Differs b → Differs (a then b)
then_differs (Ok fine) b first second = second
then_differs (Err fault) b first second = first

pub in_range_differs : (least greatest x : ℕ) → Differs (in_range least greatest x)
in_range_differs least greatest x =
    elim (cases_lt x least) [
      | inl lt ↦ let t = lt-ltb x least lt in rw t (λ e. omega arith)
      | inr le ↦ let f = le-ltb x least le in elim (cases_lt greatest x) [
        | inl lt ↦ let t = lt-ltb greatest x lt in rw (f, t) (λ e. omega arith)
        | inr le' ↦ let g = le-ltb greatest x le' in rw (f, g) tt
      ]
    ]

all_zero_differs : (xs : List ℕ) → Differs (all_zero xs)
unfolding all_zero
all_zero_differs [] = tt
all_zero_differs (x ∷ xs) =
    elim (cases_eq x 0) [
      | inl is ↦ let t = eq-eqb x 0 is in rw t (all_zero_differs xs)
      | inr not ↦ let f = ne_eqb x 0 not in rw f (λ e. not (sym e))
    ]

name_case : (b : Bool) (x : ℕ) (v : Verdict) → is_name_byte x ≡ b → Differs v → Differs (cond b v (Err (record { want = 97; found = x })))
name_case true x v is rest = rest
name_case false x v is rest = λ (e : 97 ≡ x). let no : is_name_byte 97 ≡ false = ap is_name_byte e ∙ is in absurd cc

all_name_differs : (xs : List ℕ) → Differs (all_name xs)
unfolding all_name
all_name_differs [] = tt
all_name_differs (x ∷ xs) = name_case (is_name_byte x) x (all_name xs) refl (all_name_differs xs)

name_filled_differs : (len : ℕ) (bytes : List ℕ) → Differs (name_filled len bytes)
unfolding name_filled
name_filled_differs len bytes = then_differs (all_name (take len bytes)) (all_zero (drop len bytes)) (all_name_differs (take len bytes)) (all_zero_differs (drop len bytes))

over_differs : (step x : ℕ) → Differs (cond (eqb (x % step) 0) (Ok tt) (Err (record { want = x - x % step; found = x })))
over_differs step x =
    elim (cases_eq (x % step) 0) [
      | inl is ↦ let t = eq-eqb (x % step) 0 is in rw t tt
      | inr not ↦ let f = ne_eqb (x % step) 0 not in let le = mod-le x step in rw f (λ e. not (omega arith))
    ]

some_differs : (none : Bool) → Differs (some_filled none)
some_differs true = λ e. absurd cc
some_differs false = tt

pub each_differs : (n size : ℕ) (asks : List ℕ → Verdict) (bytes : List ℕ) → ((item : List ℕ) → Differs (asks item)) → Differs (each n size asks bytes)
unfolding each
each_differs zero size asks bytes items = tt
each_differs (suc n) size asks bytes items = then_differs (asks bytes) (each n size asks (drop size bytes)) (items bytes) (each_differs n size asks (drop size bytes) items)

-- what a field's parts have to be for its own verdict
abbrev pub PartsDiffer : Field → Type 0
PartsDiffer (part_in at asks) = (item : List ℕ) → Differs (asks item)
PartsDiffer (items_in at n size asks) = (item : List ℕ) → Differs (asks item)
PartsDiffer _ = Unit {0}

verdict_differs : (field : Field) (bytes : List ℕ) → PartsDiffer field → Differs (verdict field bytes)
verdict_differs (word_in at least greatest) bytes parts = in_range_differs least greatest (word_at at bytes)
verdict_differs (half_in at least greatest) bytes parts = in_range_differs least greatest (half_at at bytes)
verdict_differs (byte_in at least greatest) bytes parts = in_range_differs least greatest (byte_at at bytes)
verdict_differs (step_in at step least greatest) bytes parts = then_differs (in_range least greatest (word_at at bytes)) _ (in_range_differs least greatest (word_at at bytes)) (over_differs step (word_at at bytes))
verdict_differs (zeros_in at count) bytes parts = all_zero_differs (take count (drop at bytes))
verdict_differs (name_in at len) bytes parts = name_filled_differs len (take 64 (drop at bytes))
verdict_differs (part_in at asks) bytes parts = parts (drop at bytes)
verdict_differs (items_in at count size asks) bytes parts = each_differs count size asks (drop at bytes) parts
verdict_differs (some_in at count size empty) bytes parts = some_differs (none_filled count size empty (drop at bytes))

abbrev pub AllPartsDiffer : List Field → Type 0
AllPartsDiffer [] = Unit {0}
AllPartsDiffer (field ∷ fields) = PartsDiffer field × AllPartsDiffer fields

pub verdicts_differ : (fields : List Field) (bytes : List ℕ) → AllPartsDiffer fields → Differs (verdicts fields bytes)
verdicts_differ [] bytes parts = tt
verdicts_differ (field ∷ fields) bytes parts = then_differs (verdict field bytes) (verdicts fields bytes) (verdict_differs field bytes parts.0) (verdicts_differ fields bytes parts.1)

reading_differs : {X : Type 0} (v : Verdict) (x : X) → Differs v → IfErr (reading v x) (λ s. s.want ≢ s.found)
reading_differs (Ok fine) x v = tt
reading_differs (Err fault) x v = v

-- what is read by a block's fields
pub read_differs : {X : Type 0} (fields : List Field) (bytes : List ℕ) (x : X) (r : Result X Shape) → AllPartsDiffer fields → r ≡ reading (verdicts fields bytes) x → IfErr r (λ s. s.want ≢ s.found)
read_differs fields bytes x r parts is = rw is (reading_differs (verdicts fields bytes) x (verdicts_differ fields bytes parts))
