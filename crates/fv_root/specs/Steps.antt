-- The steps of making a new aggregate, by what reads give after them.
use Rattle.std.specs.Prelude.{◌≡◌, ◌<◌, ◌≤◌, ◌+◌, ◌⊎◌, ℕ, replicate, Ok}
use Rattle.fv_disk.specs.Shown.{Image}
use Rattle.fv_codec.specs.Blocks.{super_at, root_at}
use Rattle.fv_image.specs.Layout.{superblock, gate_place, root_place, area_blocks}
use Rattle.fv_model.specs.Machines.{first_block}
use Rattle.fv_root.specs.Formatted.{first_root}

-- a block that stays while what the first gate leads to is written: one of the two gates, or an allocatable block
abbrev pub IsBesides : ℕ → ℕ → Type 0
IsBesides blocks b = (b ≡ gate_place 0) ⊎ (b ≡ gate_place 1) ⊎ (first_block blocks ≤ b)

-- so many blocks of the first map area are zero, and no block before it has changed
pub record IsCleared (count : ℕ) (before after : Image) : Type 0 where
  pub area : (k : ℕ) → k < count → after (5 + k) ≡ replicate 4096 0
  pub others : (b : ℕ) → b < 5 → after b ≡ before b

-- what the first gate leads to is there
pub record IsLaidOut (blocks : ℕ) (i : Image) : Type 0 where
  pub super : super_at (i superblock) ≡ Ok (record { blocks = blocks })
  pub root : root_at (i (root_place 0)) ≡ Ok first_root
  pub area : (k : ℕ) → k < area_blocks blocks → i (5 + k) ≡ replicate 4096 0
