-- The images that the tears make, and how they are put together.
use Rattle.std.specs.Prelude.{◌≡◌, ◌<◌, ℕ, List, take, replicate, if◌then◌else◌}
use Rattle.std.specs.Ordering.{nat_cmp}
use Rattle.std.specs.BTreeSet as set
use Rattle.fv_disk.specs.Shown.{Image}
use Rattle.fv_memdisk.specs.declared.blocks.Blocks.{Blocks}
use Rattle.fv_memdisk.specs.declared.kept.Kept.{Kept}
use Rattle.fv_memdisk.specs.declared.call.Tear.{Tear}
use Rattle.fv_memdisk.specs.declared.call.Tear.TheVariants.{Old, New, Fill, First}
use Rattle.fv_memdisk.specs.Past.{State, is_among, replay}
use Rattle.fv_memdisk.specs.Blocks.{disk_of}

-- what the blocks written since the last barrier hold: what they held then, what was written last,
-- one byte everywhere, or what was written last for the first so many of them
abbrev pub image_of : Tear → State → Image
image_of Old s a = s.settled a
image_of New s a = s.reads a
image_of (Fill byte) s a = if is_among s.written a then replicate 4096 byte else s.settled a
image_of (First count) s a = if is_among (take count s.written) a then s.reads a else s.settled a

-- the map has what reads give
abbrev pub Stands : Blocks → State → Type 0
Stands blocks s = (a : ℕ) → disk_of blocks a ≡ s.reads a

-- it has what reads give at the chosen blocks, and others elsewhere
abbrev pub StandsAt : set.BTreeSet ℕ → Image → Blocks → State → Type 0
StandsAt chosen others blocks s = (a : ℕ) → disk_of blocks a ≡ (if set.contains nat_cmp chosen a then s.reads a else others a)

-- the start and the written blocks are those of a state
pub record IsUnsettled (start : ℕ) (written : List ℕ) (s : State) : Type 0 where
  pub start_is : start ≡ s.start
  pub written_is : written ≡ s.written

-- the calls since the barrier at which the state was s, and the blocks that they wrote
pub record IsTail (s : State) (since : List Kept) (written : List ℕ) : Type 0 where
  pub written_is : written ≡ (replay s since).written
  pub settled_is : (a : ℕ) → s.reads a ≡ (replay s since).settled a

-- the byte of a tear is one
abbrev pub IsByteOf : Tear → Type 0
IsByteOf Old = Unit {0}
IsByteOf New = Unit {0}
IsByteOf (Fill byte) = byte < 256
IsByteOf (First count) = Unit {0}
