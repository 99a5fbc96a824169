-- The words of a line of a script, and what one word says.
use Rattle.std.specs.Prelude.{ℕ, ◌+◌, ◌-◌, ◌*◌, ◌%◌, Bool, ◌&&◌, nat_le, nat_lt, nat_eq, List, [], ◌∷◌, ◌++◌, length, filter, fold, replicate, codes, bytes_eq, Option, Some, None, if◌then◌else◌}
use Rattle.std.specs.Char.{is_ascii_digit, is_ascii_hexdigit}
use Rattle.std.specs.List.{list_all, slice_split}
use Rattle.fv_model.specs.declared.commands.Kind.{Kind}
use Rattle.fv_model.specs.declared.commands.Kind.TheVariants.{Volume as Whole, File as ByFile, Thin}
use Rattle.fv_model.specs.Spelling.{is_name}

-- the words of a line are what stands between its spaces
abbrev pub Words : Type 0
Words = List (List ℕ)

unfoldable pub line_words : List ℕ → Words
line_words line = filter (λ w. nat_lt 0 (length w)) (slice_split (λ b. nat_eq b 32) line)

-- any word, as it is
unfoldable pub text_of : List ℕ → Option (List ℕ)
text_of word = Some word

unfoldable pub name_of : List ℕ → Option (List ℕ)
name_of word = if is_name word then Some word else None

-- a number is one or more decimal digits
abbrev pub value_of : List ℕ → ℕ
value_of digits = fold (λ value digit. 10 * value + (digit - 48)) 0 digits

abbrev pub is_number : List ℕ → Bool
is_number word = nat_le 1 (length word) && list_all is_ascii_digit word

unfoldable pub count_of : List ℕ → Option ℕ
count_of word = if is_number word then Some (value_of word) else None

unfoldable pub kind_of : List ℕ → Option Kind
kind_of word =
    if bytes_eq word (codes "volume") then Some Whole
    else if bytes_eq word (codes "file") then Some ByFile
    else if bytes_eq word (codes "none") then Some Thin
    else None

-- a volume, or a volume and a snapshot with @ between
abbrev pub table_in : List (List ℕ) → Option (List ℕ × Option (List ℕ))
table_in (v ∷ []) = if is_name v then Some (v, None) else None
table_in (v ∷ s ∷ []) = if is_name v && is_name s then Some (v, Some s) else None
table_in parts = None

unfoldable pub table_of : List ℕ → Option (List ℕ × Option (List ℕ))
table_of word = table_in (slice_split (λ b. nat_eq b 64) word)

-- the value of a hexadecimal digit of either case
abbrev pub nibble : ℕ → ℕ
nibble digit = if nat_le digit 57 then digit - 48 else if nat_le digit 70 then digit - 55 else digit - 87

-- the bytes that digits spell, two for each
abbrev pub bytes_of : List ℕ → List ℕ
bytes_of [] = []
bytes_of (high ∷ []) = []
bytes_of (high ∷ low ∷ digits) = (16 * nibble high + nibble low) ∷ bytes_of digits

abbrev pub is_hex : List ℕ → Bool
is_hex word = nat_le 2 (length word) && nat_le (length word) 8192 && nat_eq (length word % 2) 0 && list_all is_ascii_hexdigit word

-- the block that begins with these bytes, with zeros behind them
unfoldable pub padded : List ℕ → List ℕ
padded bytes = bytes ++ replicate (4096 - length bytes) 0

-- a block is spelled by its first bytes; a dash is the zero block
unfoldable pub block_of : List ℕ → Option (List ℕ)
block_of word = if bytes_eq word (codes "-") then Some (padded []) else if is_hex word then Some (padded (bytes_of word)) else None
