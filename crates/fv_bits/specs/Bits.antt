-- The bits of numbers and of lists of bytes, each counted from the least.
use Rattle.std.specs.Prelude.{ℕ, ◌/◌, ◌%◌, Bool, List, ◌==◌, slice_index}
use Rattle.std.specs.Int.{bit_at}

-- whether bit k of a number is set
unfoldable pub bit_of_number : ℕ → ℕ → Bool
bit_of_number number k = bit_at number k == 1

-- whether bit b of some bytes is set: it is bit b mod 8 of byte b div 8, and bits past the last byte are clear
unfoldable pub bit_of_bytes : List ℕ → ℕ → Bool
bit_of_bytes bytes b = bit_of_number (slice_index bytes (b / 8)) (b % 8)

-- how many bits one block of a map holds
abbrev pub block_bits : ℕ
block_bits = 32768

-- whether bit b of an area is set, where block i of the area has the bytes `area i`
unfoldable pub bit_of_area : (ℕ → List ℕ) → ℕ → Bool
bit_of_area area b = bit_of_bytes (area (b / block_bits)) (b % block_bits)
