-- The root of an image that counts.
use Rattle.std.specs.Prelude.{◌+◌, ◌%◌, ◌^◌, ℕ, Bool, Option, Some, None, Result, Ok, Err, ◌==◌, if◌then◌else◌}
use Rattle.fv_disk.specs.Shown.{Image}
use Rattle.fv_codec.specs.declared.shape.Shape.{Shape}
use Rattle.fv_codec.specs.declared.superblock.Super.{Super}
use Rattle.fv_codec.specs.declared.root.Root.{Root}
use Rattle.fv_codec.specs.Blocks.{super_at, gate_open, root_at}
use Rattle.fv_image.specs.Layout.{superblock, gate_place, root_place}

-- what stands behind a slot's gate: nothing where the gate isn't open, since what is there doesn't
-- count, and else what the root's block reads as
abbrev pub behind : Image → ℕ → Option (Result Root Shape)
behind i slot = if gate_open (i (gate_place slot)) then Some (root_at (i (root_place slot))) else None

-- whether a generation is the next after another; they wrap at 2^64
abbrev pub follows : ℕ → ℕ → Bool
follows generation other = generation == (other + 1) % 2 ^ 64

-- The slot and the root that count, from what stands behind the gates of slots 0 and 1: of two roots
-- the one whose generation follows the other's, and slot 0 where neither follows. None counts where
-- no gate is open, or where a root behind an open gate has no shape.
abbrev pub newer : Option (Result Root Shape) → Option (Result Root Shape) → Option (ℕ × Root)
newer None None = None
newer (Some (Ok root)) None = Some (0, root)
newer None (Some (Ok root)) = Some (1, root)
newer (Some (Ok first)) (Some (Ok second)) = if follows second.generation first.generation then Some (1, second) else Some (0, first)
newer (Some (Err fault)) other = None
newer None (Some (Err fault)) = None
newer (Some (Ok root)) (Some (Err fault)) = None

-- a root that counts, with its slot and the number of blocks of its aggregate
pub record Taken : Type 0 where
  pub blocks : ℕ
  pub slot : ℕ
  pub root : Root

abbrev pub taken : ℕ → ℕ × Root → Taken
taken blocks chosen = record { blocks = blocks; slot = chosen.0; root = chosen.1 }

abbrev pub taken_of : Result Super Shape → Option (ℕ × Root) → Option Taken
taken_of (Err fault) chosen = None
taken_of (Ok super) None = None
taken_of (Ok super) (Some chosen) = Some (taken super.blocks chosen)

-- the root of an image; none where block 0 isn't a superblock, too
unfoldable pub root_of : Image → Option Taken
root_of i = taken_of (super_at (i superblock)) (newer (behind i 0) (behind i 1))
