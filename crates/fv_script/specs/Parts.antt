-- What the private functions of the reader answer of a line's words.
use Rattle.std.specs.Prelude.{◌≡◌, ◌≤◌, ℕ, ◌+◌, ◌-◌, ◌*◌, ◌^◌, Bool, true, false, not, nat_eq, min, List, length, take, drop, Option, Some, None, Result, Ok, Err, if◌then◌else◌}
use Rattle.std.specs.List.{list_all, prefix_len, position_or_len}
use Rattle.std.specs.Char.{is_ascii_hexdigit}
use Rattle.fv_model.specs.Spelling.{is_name}
use Rattle.fv_model.specs.Words.{Words}
use Rattle.fv_model.specs.Grammar.{is_end}
use Rattle.fv_script.specs.declared.fault.LineFault.{LineFault}
use Rattle.fv_script.specs.declared.fault.LineFault.TheVariants.{Syntax, Range}

-- a part is read exactly where the first word says it, and the words behind it are left
abbrev pub Gives : {X A : Type 0} → (X → A) → Result X LineFault → Words → Option (A × Words) → Type 0
Gives view (Ok x) left first = first ≡ Some (view x, left)
Gives view (Err fault) left first = (first ≡ None) × (fault ≡ Syntax)

-- no word is left, or else that is a fault
abbrev pub Ends : Result Unit LineFault → Words → Type 0
Ends (Ok done) words = is_end words ≡ true
Ends (Err fault) words = (is_end words ≡ false) × (fault ≡ Syntax)

-- at most so many hexadecimal digits as a block has
abbrev pub AreDigits : List ℕ → Type 0
AreDigits digits = (length digits ≤ 8192) × (list_all is_ascii_hexdigit digits ≡ true)

-- a number is read exactly where it is in its range
abbrev pub in_range : Bool → {A : Type 0} → A → Result A LineFault
in_range true n = Ok n
in_range false n = Err Range

-- how many bytes stand before the first one of a value
abbrev pub is_other : ℕ → ℕ → Bool
is_other wanted b = not (nat_eq b wanted)

abbrev pub before : ℕ → List ℕ → ℕ
before wanted bytes = prefix_len (is_other wanted) bytes

-- how many spaces begin a line, and how many bytes stand before its first space
abbrev pub is_space : ℕ → Bool
is_space b = nat_eq b 32

abbrev pub spaces : List ℕ → ℕ
spaces line = prefix_len is_space line

abbrev pub letters : List ℕ → ℕ
letters line = prefix_len (λ b. not (is_space b)) line

-- a zero byte
abbrev pub is_zero : ℕ → Bool
is_zero b = nat_eq b 0

-- one more digit, held at the greatest number of 128 bits
abbrev pub held : ℕ → ℕ → ℕ
held value digit = min (min (value * 10) (2 ^ 128 - 1) + (digit - 48)) (2 ^ 128 - 1)

-- how many bytes stand before the first @, and the names around it
abbrev pub is_at : ℕ → Bool
is_at b = nat_eq b 64

abbrev pub before_at : List ℕ → ℕ
before_at word = position_or_len is_at word

abbrev pub table_at : List ℕ → Option (List ℕ × Option (List ℕ))
table_at word =
    let v = take (before_at word) word in
    let s = drop (before_at word + 1) word in
    if is_name v then (if nat_eq (before_at word) (length word) then Some (v, None) else if is_name s then Some (v, Some s) else None) else None
