-- What the changes of an inode file do: to the records of its files, and to its tree.
use Rattle.std.specs.Prelude.{◌≡◌, ◌⊎◌, ◌+◌, ◌/◌, ◌≢◌, ◌≤◌, ℕ, true, cond, nat_eq, List, Option, Some, None, Result, Ok, IfOk, IfErr, OnOk, OnErr}
use Rattle.std.specs.Option.{option_map}
use Rattle.fv_disk.specs.declared.fault.BlockFault.{BlockFault}
use Rattle.fv_codec.specs.declared.pointer.Pointer.{Pointer}
use Rattle.fv_codec.specs.declared.inode.InodeRecord.{InodeRecord}
use Rattle.fv_codec.specs.Blocks.{inodes_at}
use Rattle.fv_tables.specs.Spelled.{Rooted}
use Rattle.fv_tables.specs.Told.{records_each, file_at}
use Rattle.fv_tree.specs.declared.kept.Tree.{Tree}
use Rattle.fv_tree.specs.Sources.{Shown, Counts, IsUntouched}
use Rattle.fv_tree.specs.Standing.{standing, under}
use Rattle.fv_tree.specs.Writing.{IsWritten, Remains, Writes}
use Rattle.fv_tree.specs.Refilling.{IsRefilled, Refills}
use Rattle.fv_tree.specs.Erasing.{Erases, HoldsCells}
use Rattle.fv_tree.specs.Releasing.{IsDropped, Releases}
use Rattle.fv_tree.specs.Flushing.{Leads, loaded, Stands}
use Rattle.fv_tree.specs.Altering.{Alters, Leaves}
use Rattle.fv_tree.specs.Leading.{LeadsNoMore}
use Rattle.fv_tree.specs.Stored.{IsStoredWell, TellsPlaces}
use Rattle.fv_tree.specs.Counting.{positions_of}
use Rattle.fv_inode.specs.declared.info.Info.{Info}
use Rattle.fv_inode.specs.Files.{info_of, new_record, with_root, IsLeastFree, NamesIndexes}
use Rattle.fv_inode.specs.Failing.{InodeFails}

-- A change with the stamp s wrote a cell, with an inode block of these records.
pub record WritesFiles (old new : Rooted) (cell s : ℕ) (files : List InodeRecord) : Type 0 where
  pub block : List ℕ
  pub spelled : inodes_at block ≡ Ok (record { index = cell; files = files })
  pub written : Writes old new cell s block
  pub place_by_place : IsWritten old new cell s block

-- A change with the stamp s gave file n this record, or none. It wrote the inode block of n, with the index that it has; the records of
-- all other files stay. To the tree it is the machine's write of the inode cell.
pub record Rewrites (old new : Rooted) (n s : ℕ) (record_now : Option InodeRecord) : Type 0 where
  pub files : (k : ℕ) → file_at new k ≡ cond (nat_eq k n) record_now (file_at old k)
  pub block : List ℕ
  pub inodes : List InodeRecord
  pub spelled : inodes_at block ≡ Ok (record { index = n / records_each; files = inodes })
  pub written : Writes old new (n / records_each) s block
  pub place_by_place : IsWritten old new (n / records_each) s block

-- A change with the stamp s made a file under the least free number.
pub record Makes (old new : Rooted) (name : List ℕ) (reserve s : ℕ) (info : Info) : Type 0 where
  pub number : IsLeastFree old info.number
  pub told : info ≡ info_of info.number (new_record name reserve)
  pub rewrites : Rewrites old new info.number s (Some (new_record name reserve))

-- file n has another file beside it in its inode block
pub record HasNeighbor (t : Rooted) (n : ℕ) : Type 0 where
  pub other : ℕ
  pub file : InodeRecord
  pub apart : other ≢ n
  pub beside : other / records_each ≡ n / records_each
  pub there : file_at t other ≡ Some file

-- A change with the stamp s took file n away. While another file is in its inode block, that is written without it; with the last one
-- the cell is removed, by the machine's removal.
pub record Takes (old new : Rooted) (n s : ℕ) : Type 0 where
  pub files : (k : ℕ) → file_at new k ≡ cond (nat_eq k n) None (file_at old k)
  pub indexes : NamesIndexes old → NamesIndexes new
  pub tree : (HasNeighbor old n × Rewrites old new n s None) ⊎ ((HasNeighbor old n → ⊥) × Erases old new (nat_eq (n / records_each)) 0 s)

-- File n was taken away by a change with the stamp s, and so many positions of the inode file went, its cell and marks. After a fault the inode file is seen as before, and no block was named as gone. The room doesn't fall.
-- `calls` says what the calls to the blocks were, and `told` whether content is told.
pub record TakesFile (told calls : Type 0) (old new : Shown) (t u : Tree) (n s : ℕ) (result : Result ℕ BlockFault) : Type 0 where
  pub removed : told → OnOk result (Stands old t → HoldsCells (standing (under old) t) → Takes (standing (under old) t) (standing (under new) u) n s)
  pub count : told → IfOk result (λ count. Stands old t → positions_of (standing (under old) t) ≡ positions_of (standing (under new) u) + count)
  pub strays : told → Stands old t → new.strays ≡ old.strays
  pub room : old.room ≤ new.room
  pub released : told → OnOk result (Releases old new (IsDropped (under old) t u))
  pub leads : told → Stands old t → LeadsNoMore (loaded old t) (loaded new u)
  pub stored_well : told → Stands old t → IsStoredWell (loaded old t) → IsStoredWell (loaded new u)
  pub tells : told → Stands old t → TellsPlaces (loaded old t) → TellsPlaces (loaded new u)
  -- what the tree doesn't lead to any more is out of use
  pub lets_go : told → Stands old t → (level place v : ℕ) → Leads (loaded old t) level place v → Leads (loaded new u) level place v ⊎ (new.used v ≡ None)
  -- each place that still stands got the stamp, or is as before; after a fault nothing changed
  pub alters : told → Stands old t → Alters s (loaded old t) (loaded new u)
  pub leaves : told → OnErr result (Leaves (loaded old t) (loaded new u))
  pub failed : told → OnErr result (Remains (standing (under old) t) (standing (under new) u))
  pub owner : u.owner ≡ t.owner
  pub stands : told → Stands old t → Stands new u
  pub untouched : OnErr result (IsUntouched old new)
  pub called : calls
  pub counts : Counts old new result
  pub cause : IfErr result (InodeFails told (standing (under old) t) old new)

-- A cell that stands got an inode block of these records, under the stamp that it has.
pub record FillsFiles (old new : Rooted) (cell : ℕ) (files : List InodeRecord) : Type 0 where
  pub block : List ℕ
  pub spelled : inodes_at block ≡ Ok (record { index = cell; files = files })
  pub refilled : Refills old new cell block true
  pub place_by_place : IsRefilled old new cell block true

-- The record of file n says where the root of its tree lies now, and how many levels the tree has. The inode block of n has the index
-- of its cell. The records of all other files stay, and so do the levels and every stamp of the inode file.
pub record SetsRoot (old new : Rooted) (n levels : ℕ) (root : Pointer) : Type 0 where
  pub files : (k : ℕ) → file_at new k ≡ cond (nat_eq k n) (option_map (with_root levels root) (file_at old n)) (file_at old k)
  pub inodes : List InodeRecord
  pub fills : FillsFiles old new (n / records_each) inodes
