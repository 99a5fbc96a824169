-- Which blocks of an aggregate are held, and which are free.
use Rattle.std.specs.Prelude.{◌≡◌, ◌<◌, ◌≤◌, ◌-◌, ℕ, Bool, not, true, false, ◌||◌, ◌&&◌, nat_le, List, length, count_by}
use Rattle.std.specs.List.{range_with_len}
use Rattle.fv_bits.specs.Members.{is_member}
use Rattle.fv_model.specs.Machines.{first_block}
use Rattle.fv_root.specs.Formatted.{IsSize}

-- the blocks that the root on the disk holds, and those that the next one will hold
pub record Space : Type 0 where
  pub committed : List Bool
  pub next : List Bool

-- how many blocks the aggregate has
abbrev pub blocks_of : Space → ℕ
blocks_of space = length space.committed

-- one of two sets has a number
abbrev pub is_held : List Bool → List Bool → ℕ → Bool
is_held committed next b = is_member committed b || is_member next b

-- a number from `first` on, below the length, that neither set has
pub record IsFreeIn (committed next : List Bool) (first b : ℕ) : Type 0 where
  pub after : first ≤ b
  pub within : b < length committed
  pub free : is_held committed next b ≡ false

-- each number from `first` on, below the length, is in one of the sets
pub record AreHeldFrom (committed next : List Bool) (first : ℕ) : Type 0 where
  pub held : (b : ℕ) → first ≤ b → b < length committed → is_held committed next b ≡ true

-- a free block: it can be allocated, and neither root holds it
abbrev pub IsFree : Space → ℕ → Type 0
IsFree space = IsFreeIn space.committed space.next (first_block (blocks_of space))

-- no block is free
abbrev pub IsFull : Space → Type 0
IsFull space = AreHeldFrom space.committed space.next (first_block (blocks_of space))

-- how many numbers from `first` on, below the length, neither set has
unfoldable pub free_from : List Bool → List Bool → ℕ → ℕ
free_from committed next first = count_by (λ b. not (is_held committed next b)) (range_with_len first (length committed - first))

-- how many blocks are free
abbrev pub free_blocks : Space → ℕ
free_blocks space = free_from space.committed space.next (first_block (blocks_of space))

-- ---- how a space is kept

-- both sets speak of the same blocks, of which `free` are free, and the search goes on from `cursor`
pub record IsKept (committed next : List Bool) (first cursor free : ℕ) : Type 0 where
  pub size : IsSize (length committed)
  pub same : length next ≡ length committed
  pub start : first ≡ first_block (length committed)
  pub after : first ≤ cursor
  pub within : cursor ≤ length committed
  pub count : free ≡ free_from committed next first

-- whether a number becomes free where the next set gives it up
abbrev pub becomes_free : List Bool → List Bool → ℕ → ℕ → Bool
becomes_free committed next first b = nat_le first b && is_member next b && not (is_member committed b)
