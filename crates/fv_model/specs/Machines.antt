-- The machine: an aggregate of so many blocks with its volumes.
use Rattle.std.specs.Prelude.{ℕ, ◌+◌, ◌-◌, ◌*◌}
use Rattle.std.specs.FinMap as fin
use Rattle.fv_model.specs.Numbers.{ceil_div}
use Rattle.fv_model.specs.Spelling.{name_cmp}
use Rattle.fv_model.specs.Volumes.{Volume}

pub record Machine : Type 0 where
  pub blocks : ℕ
  -- of the format
  pub version : ℕ
  pub volumes : fin.FinMap name_cmp Volume

-- the machine of so many blocks without a volume
abbrev pub empty_machine : ℕ → Machine
empty_machine blocks = record { blocks = blocks; version = 1; volumes = fin.empty }

-- the blocks before it hold the aggregate's own data: five, and two maps of a bit for each block
abbrev pub first_block : ℕ → ℕ
first_block blocks = 5 + 2 * ceil_div blocks 32768

-- what volumes can commit together: all blocks past the aggregate's own, less 256 that are kept for consistency points
abbrev pub capacity : ℕ → ℕ
capacity blocks = blocks - first_block blocks - 256
