-- When the record of a file can be changed without a fault.
use Rattle.std.specs.Prelude.{◌≡◌, ℕ, ◌/◌, ◌%◌, true, get_or, is_some}
use Rattle.fv_tables.specs.Told.{records_each, records_in, free_record, used_record}
use Rattle.fv_tree.specs.declared.kept.Tree.{Tree}
use Rattle.fv_tree.specs.Standing.{cell_in}
use Rattle.fv_tree.specs.Readying.{IsReady}
use Rattle.fv_inode.specs.declared.file.InodeFile.{InodeFile}

-- The inode block of file n and the nodes over it are in memory, and among its records that of the file is in use. It speaks of
-- memory alone.
pub record HoldsFile (t : Tree) (n : ℕ) : Type 0 where
  pub way : IsReady t (n / records_each)
  pub used : is_some (used_record (get_or (records_in (cell_in t (n / records_each))) (n % records_each) free_record)) ≡ true

abbrev pub IsReadyFile : InodeFile → ℕ → Type 0
IsReadyFile f = HoldsFile f.tree
