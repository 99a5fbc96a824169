-- Why calls of an inode file fail, and what those that only read leave.
use Rattle.std.specs.Prelude.{◌≡◌, ◌⊎◌, ℕ, List, Some, Result, Err, IfErr, OnErr}
use Rattle.fv_disk.specs.declared.fault.BlockFault.{BlockFault}
use Rattle.fv_disk.specs.declared.fault.BlockFault.TheVariants.{Damaged}
use Rattle.fv_codec.specs.declared.shape.Shape.{Shape}
use Rattle.fv_codec.specs.Blocks.{inodes_at}
use Rattle.fv_tables.specs.Spelled.{Rooted, block_at}
use Rattle.fv_tree.specs.declared.kept.Tree.{Tree}
use Rattle.fv_tree.specs.Sources.{Shown, IsCalm, IsUntouched, Counts}
use Rattle.fv_tree.specs.Standing.{standing, under, Fails}
use Rattle.fv_tree.specs.Reading.{cell_read_at}
use Rattle.fv_tree.specs.Writing.{Remains}
use Rattle.fv_tree.specs.Flushing.{loaded, Stands}
use Rattle.fv_tree.specs.Altering.{Leaves}
use Rattle.fv_tree.specs.Leading.{LeadsNoMore}
use Rattle.fv_tree.specs.Stored.{IsStoredWell, TellsPlaces}
use Rattle.fv_tree.specs.Readying.{KeepsReady}

-- A block hasn't the shape of an inode block: the place where it was read, and its first field that isn't as said. Where content is
-- told it is that of a cell.
pub record IsInodeDamage (told : Type 0) (t : Rooted) (new : Shown) (e : BlockFault) : Type 0 where
  pub at : ℕ
  pub block : List ℕ
  pub shape : Shape
  pub fault : inodes_at block ≡ Err shape
  pub is : e ≡ Damaged at shape.want shape.found
  pub cell : ℕ
  pub lies : told → block_at t cell ≡ Some block
  pub place : told → at ≡ cell_read_at t new cell

-- why a call of an inode file failed: as a call of its tree, or for an inode block without its shape, where both counts stay
abbrev pub InodeFails : Type 0 → Rooted → Shown → Shown → BlockFault → Type 0
InodeFails told t old new e = Fails told t old new e ⊎ (IsCalm old new × IsInodeDamage told t new e)

-- A call that only reads leaves the map, what is in use and the count of strays, and tells why it failed.
pub record Looks {T : Type 0} (told : Type 0) (t : Rooted) (old new : Shown) (result : Result T BlockFault) : Type 0 where
  pub untouched : IsUntouched old new
  pub counts : Counts old new result
  pub cause : IfErr result (InodeFails told t old new)

-- What a call leaves that changes a tree and only loads, whether it was done or failed. After a fault the tree is seen as before, and no
-- place of it changed.
pub record OnlyLoads {T : Type 0} (told : Type 0) (old new : Shown) (t u : Tree) (result : Result T BlockFault) : Type 0 where
  pub failed : told → OnErr result (Remains (standing (under old) t) (standing (under new) u))
  pub leaves : told → OnErr result (Leaves (loaded old t) (loaded new u))
  pub owner : u.owner ≡ t.owner
  pub stands : told → Stands old t → Stands new u
  -- it leads to the same blocks
  pub leads : told → LeadsNoMore (loaded old t) (loaded new u)
  pub keeps : told → LeadsNoMore (loaded new u) (loaded old t)
  -- and what that is stays as its pointers say
  pub stored_well : told → IsStoredWell (loaded old t) → IsStoredWell (loaded new u)
  pub tells : told → TellsPlaces (loaded old t) → TellsPlaces (loaded new u)
  pub keeps_ready : KeepsReady t u
  pub looks : Looks told (standing (under old) t) old new result
