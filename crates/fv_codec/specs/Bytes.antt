-- Numbers and runs of bytes in a block: how they are read at an offset, and how they are spelled.
use Rattle.std.specs.Prelude.{ℕ, List, drop, replicate, slice_index}
use Rattle.byteorder.specs.Endian.{big_number, big_bytes}

-- the number in the eight bytes from an offset, the greatest byte first
unfoldable pub word_at : ℕ → List ℕ → ℕ
word_at at bytes = big_number 8 (drop at bytes)

-- the number in the four bytes from an offset, the greatest byte first
unfoldable pub half_at : ℕ → List ℕ → ℕ
half_at at bytes = big_number 4 (drop at bytes)

-- the byte at an offset
unfoldable pub byte_at : ℕ → List ℕ → ℕ
byte_at at bytes = slice_index bytes at

-- a number as eight bytes, the greatest byte first
unfoldable pub word : ℕ → List ℕ
word x = big_bytes 8 x

-- a number as four bytes, the greatest byte first
unfoldable pub half : ℕ → List ℕ
half x = big_bytes 4 x

-- so many zero bytes
unfoldable pub zeros : ℕ → List ℕ
zeros count = replicate count 0
