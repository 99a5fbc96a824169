-- Why calls of a table fail, and what those that only read leave.
use Rattle.std.specs.Prelude.{◌≡◌, ◌⊎◌, ℕ, Some, Result, IfErr}
use Rattle.fv_disk.specs.declared.fault.BlockFault.{BlockFault}
use Rattle.fv_codec.specs.declared.inode.InodeRecord.{InodeRecord}
use Rattle.fv_tables.specs.Spelled.{Rooted}
use Rattle.fv_tables.specs.Told.{Standing, file_at, tree_of}
use Rattle.fv_tree.specs.Sources.{Shown, IsUntouched, Counts}
use Rattle.fv_tree.specs.Standing.{Fails}
use Rattle.fv_inode.specs.Failing.{InodeFails}

-- a tree is that of a file of the table
pub record IsFileTree (x : Standing) (t : Rooted) : Type 0 where
  pub number : ℕ
  pub file : InodeRecord
  pub there : file_at x.inode number ≡ Some file
  pub tree : t ≡ tree_of x number file

-- a call of a tree failed, where content is told that of a file
pub record TreeFails (told : Type 0) (x : Standing) (old new : Shown) (e : BlockFault) : Type 0 where
  pub tree : Rooted
  pub of_file : told → IsFileTree x tree
  pub fails : Fails told tree old new e

-- why a call of a table failed: as a call of its inode file, or as one of the tree of a file
abbrev pub FilesFail : Type 0 → Standing → Shown → Shown → BlockFault → Type 0
FilesFail told x old new e = InodeFails told x.inode old new e ⊎ TreeFails told x old new e

-- A call that only reads leaves the map, what is in use and the count of strays, and tells why it failed.
pub record Looks {T : Type 0} (told : Type 0) (x : Standing) (old new : Shown) (result : Result T BlockFault) : Type 0 where
  pub untouched : IsUntouched old new
  pub counts : Counts old new result
  pub cause : IfErr result (FilesFail told x old new)
