-- How a format is written down: the fields of a block in order of offset, each with what it may hold.
use Rattle.std.specs.Prelude.{ℕ, zero, suc, ◌-◌, ◌%◌, Bool, true, ◌&&◌, ◌||◌, List, [], ◌∷◌, take, drop, Result, Ok, Err, nat_lt, nat_le, ◌==◌, if◌then◌else◌}
use Rattle.fv_codec.specs.declared.shape.Shape.{Shape}
use Rattle.fv_codec.specs.Bytes.{word_at, half_at, byte_at}

-- what a field says of a block: it is as said, or here is the wanted and the found number
abbrev pub Verdict : Type 0
Verdict = Result (Unit {0}) Shape

-- the first verdict, and the second only where the first has nothing to say
infixr 10 ◌then◌
abbrev pub ◌then◌ : Verdict → Verdict → Verdict
(Ok fine) then next = next
(Err fault) then next = Err fault

-- a number against its least and its greatest allowed value
abbrev pub in_range : ℕ → ℕ → ℕ → Verdict
in_range least greatest x =
    if nat_lt x least then Err (record { want = least; found = x })
    else if nat_lt greatest x then Err (record { want = greatest; found = x })
    else Ok tt

-- a greatest allowed value that holds only under a condition; else the value is 0
abbrev pub up_to : Bool → ℕ → ℕ
up_to allowed greatest = if allowed then greatest else 0

-- each byte is zero
unfoldable pub all_zero : List ℕ → Verdict
all_zero [] = Ok tt
all_zero (x ∷ xs) = if x == 0 then all_zero xs else Err (record { want = 0; found = x })

-- so many items of so many bytes, one after the other: the first verdict on them
unfoldable pub each : ℕ → ℕ → (List ℕ → Verdict) → List ℕ → Verdict
each zero size asks bytes = Ok tt
each (suc count) size asks bytes = asks bytes then each count size asks (drop size bytes)

-- so many items of so many bytes, one after the other: their values
unfoldable pub items : {X : Type 0} → ℕ → ℕ → (List ℕ → X) → List ℕ → List X
items zero size value bytes = []
items (suc count) size value bytes = value bytes ∷ items count size value (drop size bytes)

-- each item is empty
unfoldable pub none_filled : ℕ → ℕ → (List ℕ → Bool) → List ℕ → Bool
none_filled zero size empty bytes = true
none_filled (suc count) size empty bytes = empty bytes && none_filled count size empty (drop size bytes)

-- a byte that a name may have: a to z, 0 to 9, and the underscore
abbrev pub is_name_byte : ℕ → Bool
is_name_byte x = (nat_le 97 x && nat_le x 122) || (nat_le 48 x && nat_le x 57) || (x == 95)

-- each byte is one that a name may have; another has the letter a as its wanted byte
unfoldable pub all_name : List ℕ → Verdict
all_name [] = Ok tt
all_name (x ∷ xs) = if is_name_byte x then all_name xs else Err (record { want = 97; found = x })

-- a name of so many bytes, filled up with zero bytes
unfoldable pub name_filled : ℕ → List ℕ → Verdict
name_filled len bytes = all_name (take len bytes) then all_zero (drop len bytes)

-- a multiple of a step between two multiples of it; what isn't one has the next smaller as its wanted number
abbrev pub in_steps : ℕ → ℕ → ℕ → ℕ → Verdict
in_steps step least greatest x = in_range least greatest x then (if x % step == 0 then Ok tt else Err (record { want = x - x % step; found = x }))

-- at least one item isn't empty: one is wanted where there is none
abbrev pub some_filled : Bool → Verdict
some_filled none = if none then Err (record { want = 1; found = 0 }) else Ok tt

-- a field, by its offset
pub data Field : Type 0 where
  -- a number of eight bytes, from the least to the greatest that is allowed
  word_in : ℕ → ℕ → ℕ → Field
  -- a number of four bytes, from the least to the greatest that is allowed
  half_in : ℕ → ℕ → ℕ → Field
  -- a byte, from the least to the greatest that is allowed
  byte_in : ℕ → ℕ → ℕ → Field
  -- a multiple of a step as eight bytes: the step, the least and the greatest
  step_in : ℕ → ℕ → ℕ → ℕ → Field
  -- so many zero bytes
  zeros_in : ℕ → ℕ → Field
  -- a name in 64 bytes, of so many bytes of its own
  name_in : ℕ → ℕ → Field
  -- a part, and what it says of its own bytes
  part_in : ℕ → (List ℕ → Verdict) → Field
  -- so many items of so many bytes each, and what each of them says of its own bytes
  items_in : ℕ → ℕ → ℕ → (List ℕ → Verdict) → Field
  -- so many items of so many bytes each, of which not all are empty
  some_in : ℕ → ℕ → ℕ → (List ℕ → Bool) → Field

-- what a field says of the bytes of its block
abbrev pub verdict : Field → List ℕ → Verdict
verdict (word_in at least greatest) bytes = in_range least greatest (word_at at bytes)
verdict (half_in at least greatest) bytes = in_range least greatest (half_at at bytes)
verdict (byte_in at least greatest) bytes = in_range least greatest (byte_at at bytes)
verdict (step_in at step least greatest) bytes = in_steps step least greatest (word_at at bytes)
verdict (zeros_in at count) bytes = all_zero (take count (drop at bytes))
verdict (name_in at len) bytes = name_filled len (take 64 (drop at bytes))
verdict (part_in at asks) bytes = asks (drop at bytes)
verdict (items_in at count size asks) bytes = each count size asks (drop at bytes)
verdict (some_in at count size empty) bytes = some_filled (none_filled count size empty (drop at bytes))

-- the verdict of the first field that isn't as said
abbrev pub verdicts : List Field → List ℕ → Verdict
verdicts [] bytes = Ok tt
verdicts (field ∷ fields) bytes = verdict field bytes then verdicts fields bytes

-- the value that is read where the verdict has nothing to say
abbrev pub reading : {X : Type 0} → Verdict → X → Result X Shape
reading (Ok fine) x = Ok x
reading (Err fault) x = Err fault

-- the verdict under which a reading was made
abbrev pub verdict_of : {X : Type 0} → Result X Shape → Verdict
verdict_of (Ok x) = Ok tt
verdict_of (Err fault) = Err fault
