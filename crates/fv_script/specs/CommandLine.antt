-- The numbers on a command line.
use Rattle.std.specs.Prelude.{ℕ, ◌^◌, Bool, ◌&&◌, nat_le, nat_lt, List, length, Option, Some, None, if◌then◌else◌}
use Rattle.fv_model.specs.Words.{is_number, value_of}

-- an aggregate has 512 to 1,048,576 blocks
abbrev pub is_aggregate_size : ℕ → Bool
is_aggregate_size blocks = nat_le 512 blocks && nat_le blocks 1048576

-- the number that a word spells in 1 to 20 decimal digits, if an aggregate can have so many blocks
unfoldable pub blocks_of : List ℕ → Option ℕ
blocks_of word = if is_number word && (nat_le (length word) 20 && is_aggregate_size (value_of word)) then Some (value_of word) else None

-- the seed that a word spells in 1 to 20 decimal digits, if it is below 2^64
unfoldable pub seed_of : List ℕ → Option ℕ
seed_of word = if is_number word && (nat_le (length word) 20 && nat_lt (value_of word) (2 ^ 64)) then Some (value_of word) else None

-- how many drawn commands a word asks for in 1 to 20 decimal digits, if they are at most 1,000,000
unfoldable pub draws_of : List ℕ → Option ℕ
draws_of word = if is_number word && (nat_le (length word) 20 && nat_le (value_of word) 1000000) then Some (value_of word) else None
