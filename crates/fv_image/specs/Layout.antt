-- Where the fixed blocks of an aggregate lie.
use Rattle.std.specs.Prelude.{ℕ, ◌+◌, ◌*◌}
use Rattle.fv_model.specs.Numbers.{ceil_div}

abbrev pub superblock : ℕ
superblock = 0

-- root slots are 0 and 1, each with a gate and a root
abbrev pub gate_place : ℕ → ℕ
gate_place slot = 1 + slot

abbrev pub root_place : ℕ → ℕ
root_place slot = 3 + slot

-- the bits that one block of a map holds
abbrev pub block_bits : ℕ
block_bits = 32768

-- how many blocks a map of so many blocks' bits takes
abbrev pub area_blocks : ℕ → ℕ
area_blocks blocks = ceil_div blocks block_bits

-- block k of the map area that goes with a root slot
abbrev pub area_place : ℕ → ℕ → ℕ → ℕ
area_place blocks slot k = 5 + (slot * area_blocks blocks + k)
