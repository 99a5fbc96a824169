-- A set of numbers below a length, as the list that says for each number whether it is a member.
use Rattle.std.specs.Prelude.{◌≡◌, ◌≢◌, ℕ, ◌+◌, ◌-◌, ◌*◌, ◌/◌, ◌%◌, ◌<◌, ◌≤◌, Bool, true, false, not, ◌&&◌, ◌||◌, List, length, slice_index_or, count_by, filter}
use Rattle.std.specs.FinSet.{FinSet, from_list}
use Rattle.std.specs.List.{range_with_len}
use Rattle.std.specs.Ordering.{nat_cmp}
use Rattle.fv_bits.specs.Bits.{bit_of_bytes, block_bits}

-- whether a number is a member: none is from the length on
unfoldable pub is_member : List Bool → ℕ → Bool
is_member map i = slice_index_or map i false

-- how many members there are from `from` up to `to`, without `to`
unfoldable pub count_between : List Bool → ℕ → ℕ → ℕ
count_between map from to = count_by (is_member map) (range_with_len from (to - from))

-- how many members there are
unfoldable pub count_of : List Bool → ℕ
count_of map = count_between map 0 (length map)

-- how many members there are from `from` up to `to`, without `to`, that are no members of another map
unfoldable pub apart_between : List Bool → List Bool → ℕ → ℕ → ℕ
apart_between map other from to = count_by (λ i. is_member map i && not (is_member other i)) (range_with_len from (to - from))

-- the members as a finite set
unfoldable pub members_of : List Bool → FinSet nat_cmp
members_of map = from_list (filter (is_member map) (range_with_len 0 (length map)))

-- i is the least number below the length, from `from` on, that is no member
pub record IsFirstFree (map : List Bool) (from i : ℕ) : Type 0 where
  pub after : from ≤ i
  pub within : i < length map
  pub free : is_member map i ≡ false
  pub before : (k : ℕ) → from ≤ k → k < i → is_member map k ≡ true

-- each number below the length, from `from` on, is a member
pub record IsFullFrom (map : List Bool) (from : ℕ) : Type 0 where
  pub full : (k : ℕ) → from ≤ k → k < length map → is_member map k ≡ true

-- i is the least member from `from` on
pub record IsFirstMember (map : List Bool) (from i : ℕ) : Type 0 where
  pub after : from ≤ i
  pub within : i < length map
  pub here : is_member map i ≡ true
  pub before : (k : ℕ) → from ≤ k → k < i → is_member map k ≡ false

-- no number from `from` on is a member
pub record HasNoneFrom (map : List Bool) (from : ℕ) : Type 0 where
  pub none : (k : ℕ) → from ≤ k → is_member map k ≡ false

-- the map has the members of two others, and the length of the first
pub record IsUnion (map left right : List Bool) : Type 0 where
  pub len : length map ≡ length left
  pub members : (i : ℕ) → is_member map i ≡ (is_member left i || is_member right i)

-- block `index` of the map: its bits are the map's members, and clear from the length on
pub record IsBlockOf (map : List Bool) (index : ℕ) (block : List ℕ) : Type 0 where
  pub len : length block ≡ 4096
  pub bits : (b : ℕ) → b < block_bits → bit_of_bytes block b ≡ is_member map (block_bits * index + b)

-- a block's bits were taken: they now are the members in its range, and all others stay
pub record TakesBlock (old new : List Bool) (index : ℕ) (block : List ℕ) : Type 0 where
  pub len : length new ≡ length old
  pub taken : (b : ℕ) → b < block_bits → is_member new (block_bits * index + b) ≡ bit_of_bytes block b
  pub others : (i : ℕ) → i / block_bits ≢ index → is_member new i ≡ is_member old i

-- i is the first number from `len` on whose bit is set in block `index`
pub record IsFirstPast (len index : ℕ) (block : List ℕ) (i : ℕ) : Type 0 where
  pub past : len ≤ i
  pub place : i / block_bits ≡ index
  pub bit : bit_of_bytes block (i % block_bits) ≡ true
  pub before : (k : ℕ) → len ≤ k → k < i → k / block_bits ≡ index → bit_of_bytes block (k % block_bits) ≡ false
