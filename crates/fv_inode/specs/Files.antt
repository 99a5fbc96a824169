-- Files by their names, as the records of an inode file tell them.
use Rattle.std.specs.Prelude.{◌≡◌, ℕ, ◌+◌, ◌*◌, ◌<◌, ◌≤◌, ◌++◌, ◌-◌, Bool, true, false, List, take, length, replicate, get_or, Option, Some, None, Ok, is_some}
use Rattle.fv_codec.specs.declared.pointer.Pointer.{Pointer}
use Rattle.fv_codec.specs.declared.inode.InodeRecord.{InodeRecord}
use Rattle.fv_codec.specs.Blocks.{IsPointer, inodes_at, most_cells}
use Rattle.fv_model.specs.Numbers.{most_files}
use Rattle.fv_model.specs.Spelling.{is_same_name}
use Rattle.fv_model.specs.Trees.{least_levels}
use Rattle.fv_tables.specs.Spelled.{Rooted, hole, block_at}
use Rattle.fv_tables.specs.Told.{records_each, free_record, used_record, file_at}
use Rattle.fv_tree.specs.Sources.{Shown}
use Rattle.fv_tree.specs.Standing.{standing, under}
use Rattle.fv_inode.specs.declared.file.InodeFile.{InodeFile}
use Rattle.fv_inode.specs.declared.info.Info.{Info}

-- an inode file over the blocks of a source
abbrev pub rooted : Shown → InodeFile → Rooted
rooted source f = standing (under source) f.tree

-- ---- records

-- the name in a record
abbrev pub name_of : InodeRecord → List ℕ
name_of r = take r.name_length r.name

abbrev pub has_name : Option InodeRecord → List ℕ → Bool
has_name None name = false
has_name (Some r) name = is_same_name (name_of r) name

-- a free record as it is written
abbrev pub blank_record : InodeRecord
blank_record = record { name_length = 0; name = replicate 64 0; length = 0; reserve = 0; levels = 0; root = hole }

-- what a record says of file n
abbrev pub info_of : ℕ → InodeRecord → Info
info_of n r = record { number = n; length = r.length; reserve = r.reserve; levels = r.levels; root = r.root }

-- the record of a new file: it has no cell, and the levels with which its reserve begins
abbrev pub new_record : List ℕ → ℕ → InodeRecord
new_record name reserve = record {
  name_length = length name;
  name = name ++ replicate (64 - length name) 0;
  length = 0;
  reserve = reserve;
  levels = least_levels reserve;
  root = hole;
}

-- the record with the numbers of an info; the name stays
abbrev pub with_info : Info → InodeRecord → InodeRecord
with_info info r = record r { length = info.length; reserve = info.reserve; levels = info.levels; root = info.root }

-- the record with another root, of a tree of so many levels; the name and the other numbers stay
abbrev pub with_root : ℕ → Pointer → InodeRecord → InodeRecord
with_root levels root r = record r { levels = levels; root = root }

-- the numbers of an info are in the ranges of a record
pub record IsInfo (info : Info) : Type 0 where
  pub length : info.length ≤ most_cells
  pub reserve : info.reserve ≤ most_cells
  pub levels : info.levels ≤ 3
  pub root : IsPointer info.root

abbrev pub IsInfoIf : Option Info → Type 0
IsInfoIf None = Unit {0}
IsInfoIf (Some info) = IsInfo info

-- ---- the records of one inode block

-- the records of the inode block at a cell; where there is no cell, all of them are free
abbrev pub AreRecords : Rooted → ℕ → List InodeRecord → Type 0
AreRecords t cell files = (k : ℕ) → k < records_each → used_record (get_or files k free_record) ≡ file_at t (records_each * cell + k)

-- a block is an inode block that names this index
pub record IsInodesOf (index : ℕ) (block : List ℕ) : Type 0 where
  pub files : List InodeRecord
  pub spells : inodes_at block ≡ Ok (record { index = index; files = files })

-- Each inode block of an inode file, in memory or where the pointer to it leads, names its index, by which no reader judges it.
abbrev pub NamesIndexes : Rooted → Type 0
NamesIndexes t = (index : ℕ) (block : List ℕ) → block_at t index ≡ Some block → IsInodesOf index block

-- ---- look-ups

-- no file has the name, of all or of those with a number below another
abbrev pub HasNone : Rooted → List ℕ → Type 0
HasNone t name = (n : ℕ) → has_name (file_at t n) name ≡ false

abbrev pub HasNoneBelow : Rooted → List ℕ → ℕ → Type 0
HasNoneBelow t name bound = (n : ℕ) → n < bound → has_name (file_at t n) name ≡ false

-- the first file of a name, by number, and what its record says
pub record IsFirst (t : Rooted) (name : List ℕ) (info : Info) : Type 0 where
  pub file : InodeRecord
  pub there : file_at t info.number ≡ Some file
  pub named : is_same_name (name_of file) name ≡ true
  pub told : info ≡ info_of info.number file
  pub first : HasNoneBelow t name info.number

-- a look-up finds the first file of the name, and none exactly where no file has it
abbrev pub Finds : Rooted → List ℕ → Option Info → Type 0
Finds t name None = HasNone t name
Finds t name (Some info) = IsFirst t name info

-- the same of the files with a number below another
abbrev pub FindsBelow : Rooted → List ℕ → ℕ → Option Info → Type 0
FindsBelow t name bound None = HasNoneBelow t name bound
FindsBelow t name bound (Some info) = IsFirst t name info

-- the least number that no file has
pub record IsLeastFree (t : Rooted) (n : ℕ) : Type 0 where
  pub free : file_at t n ≡ None
  pub least : (k : ℕ) → k < n → is_some (file_at t k) ≡ true

-- the least number that no file has, or none where all below 262,144 are taken
abbrev pub IsFreeNumber : Rooted → Option ℕ → Type 0
IsFreeNumber t None = (n : ℕ) → n < most_files → is_some (file_at t n) ≡ true
IsFreeNumber t (Some n) = IsLeastFree t n

-- a file's number is in its range
abbrev pub IsNumberIf : Option ℕ → Type 0
IsNumberIf None = Unit {0}
IsNumberIf (Some n) = n < most_files

-- All numbers below this one are taken, and it is free, where it is below 262,144.
pub record IsFirstFree (t : Rooted) (n : ℕ) : Type 0 where
  pub least : (k : ℕ) → k < n → is_some (file_at t k) ≡ true
  pub free : n < most_files → file_at t n ≡ None
