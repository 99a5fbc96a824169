-- How a map is kept: in words of 64 bits, and which words stand for which map.
use Rattle.std.specs.Prelude.{◌≡◌, ℕ, ◌+◌, ◌*◌, ◌/◌, ◌%◌, ◌^◌, ◌<◌, ◌≤◌, Bool, not, true, false, ◌&&◌, ◌||◌, ◌==◌, if◌then◌else◌, List, length, map, slice_index}
use Rattle.std.specs.List.{range_with_len}
use Rattle.fv_bits.specs.Bits.{bit_of_number, bit_of_bytes, block_bits}

-- whether bit b of some words is set: it is bit b mod 64 of word b div 64, and bits past the last word are clear
unfoldable pub bit_of_words : List ℕ → ℕ → Bool
bit_of_words words b = bit_of_number (slice_index words (b / 64)) (b % 64)

-- the map of this length whose members are the bits of the words
unfoldable pub map_of : ℕ → List ℕ → List Bool
map_of len words = map (bit_of_words words) (range_with_len 0 len)

-- there are as many words as the length asks for, and no bit is set from the length on
pub record IsStored (len : ℕ) (words : List ℕ) : Type 0 where
  pub enough : len ≤ 64 * length words
  pub few : 64 * length words < len + 64
  pub clear : (b : ℕ) → len ≤ b → bit_of_words words b ≡ false

-- at is the first bit of a word from `from` on that has the wanted value, or 64
pub record IsFirstBit (word : ℕ) (wanted : Bool) (from at : ℕ) : Type 0 where
  pub after : from ≤ at
  pub within : at ≤ 64
  pub here : at < 64 → bit_of_number word at ≡ wanted
  pub before : (k : ℕ) → from ≤ k → k < at → bit_of_number word k ≡ not wanted

-- at is the first bit of some words from `from` on that has the wanted value
pub record IsFirst (words : List ℕ) (wanted : Bool) (from at : ℕ) : Type 0 where
  pub after : from ≤ at
  pub here : bit_of_words words at ≡ wanted
  pub before : (k : ℕ) → from ≤ k → k < at → bit_of_words words k ≡ not wanted

-- the new word is the old one with bit k put to a value
pub record PutsBit (old k : ℕ) (value : Bool) (new : ℕ) : Type 0 where
  pub bits : (j : ℕ) → j < 64 → bit_of_number new j ≡ (if j == k then value else bit_of_number old j)

-- the new words are the old ones with bit b put to a value
pub record PutsBitOf (old : List ℕ) (b : ℕ) (value : Bool) (new : List ℕ) : Type 0 where
  pub len : length new ≡ length old
  pub bits : (k : ℕ) → bit_of_words new k ≡ (if k == b then value else bit_of_words old k)

-- the new words have the bits of two others
pub record Unites (left right new : List ℕ) : Type 0 where
  pub len : length new ≡ length left
  pub bits : (k : ℕ) → bit_of_words new k ≡ (bit_of_words left k || bit_of_words right k)

-- whether bit b is set in some words and clear in others
unfoldable pub is_apart : List ℕ → List ℕ → ℕ → Bool
is_apart words others b = bit_of_words words b && not (bit_of_words others b)

-- a word has the bits of word `at` of some words that are clear in others
pub record IsApart (words others : List ℕ) (at word : ℕ) : Type 0 where
  pub bits : (k : ℕ) → k < 64 → bit_of_number word k ≡ is_apart words others (64 * at + k)

-- each word from `from` up to `to` is the one given
pub record AreAll (words : List ℕ) (word from to : ℕ) : Type 0 where
  pub each : (k : ℕ) → from ≤ k → k < to → slice_index words k ≡ word

-- no bit of some words is set from `from` on
pub record AreClearFrom (words : List ℕ) (from : ℕ) : Type 0 where
  pub bits : (k : ℕ) → from ≤ k → bit_of_words words k ≡ false

-- each is a word of 64 bits
pub record AreWords (words : List ℕ) : Type 0 where
  pub fits : (k : ℕ) → slice_index words k < 2 ^ 64

-- a word has the bits of word `at` of some bytes
pub record IsWordOf (bytes : List ℕ) (at word : ℕ) : Type 0 where
  pub bits : (k : ℕ) → k < 64 → bit_of_number word k ≡ bit_of_bytes bytes (64 * at + k)

-- the new bytes are the old ones with word `at` put in
pub record PutsWord (old : List ℕ) (at word : ℕ) (new : List ℕ) : Type 0 where
  pub len : length new ≡ length old
  pub bits : (b : ℕ) → bit_of_bytes new b ≡ (if b / 64 == at then bit_of_number word (b % 64) else bit_of_bytes old b)

-- the bytes from the first on, as many as one block has, have the bits of the words from `first` on
pub record HasBitsOf (words : List ℕ) (first : ℕ) (block : List ℕ) : Type 0 where
  pub bits : (b : ℕ) → b < block_bits → bit_of_bytes block b ≡ bit_of_words words (64 * first + b)

-- the new words are the old ones with those of a block put over the 512 from `first` on, as far as there are so many
pub record PutsBlock (old : List ℕ) (first : ℕ) (block new : List ℕ) : Type 0 where
  pub len : length new ≡ length old
  pub inside : (k : ℕ) → k < 512 → first + k < length old → slice_index new (first + k) ≡ slice_index block k
  pub before : (k : ℕ) → k < first → slice_index new k ≡ slice_index old k
  pub behind : (k : ℕ) → first + 512 ≤ k → slice_index new k ≡ slice_index old k

-- no bit from `from` up to `to` is clear
pub record AreSet (words : List ℕ) (from to : ℕ) : Type 0 where
  pub bits : (k : ℕ) → from ≤ k → k < to → bit_of_words words k ≡ true

-- at is the first number from `len` on whose bit is set in block `index`, which has these words
pub record IsFirstAbove (words : List ℕ) (index len at : ℕ) : Type 0 where
  pub past : len ≤ at
  pub place : at / block_bits ≡ index
  pub bit : bit_of_words words (at % block_bits) ≡ true
  pub before : (k : ℕ) → len ≤ k → k < at → k / block_bits ≡ index → bit_of_words words (k % block_bits) ≡ false

-- no bit is set in block `index`, which has these words, for a number from `len` on
pub record HasNoneAbove (words : List ℕ) (index len : ℕ) : Type 0 where
  pub bits : (k : ℕ) → k < block_bits → len ≤ block_bits * index + k → bit_of_words words k ≡ false
