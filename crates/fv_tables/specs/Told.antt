-- What a tree and a table hold, told by functions of positions and listed over the positions that a tree of these levels has.
use Rattle.std.specs.Prelude.{◌≡◌, ℕ, ◌+◌, ◌-◌, ◌*◌, ◌/◌, ◌%◌, ◌^◌, List, [], ◌∷◌, map, flat_map, take, Option, Some, None, Result, Ok, Err, get_or, ◌==◌, if◌then◌else◌}
use Rattle.std.specs.List.{range_with_len}
use Rattle.std.specs.Option.{option_map}
use Rattle.std.specs.Ordering.{nat_cmp}
use Rattle.std.specs.FinMap as fin
use Rattle.fv_codec.specs.declared.shape.Shape.{Shape}
use Rattle.fv_codec.specs.declared.pointer.Pointer.{Pointer}
use Rattle.fv_codec.specs.declared.inode.InodeRecord.{InodeRecord}
use Rattle.fv_codec.specs.declared.inode.InodeBlock.{InodeBlock}
use Rattle.fv_codec.specs.Blocks.{greatest_word, inodes_at}
use Rattle.fv_model.specs.Trees as trees
use Rattle.fv_model.specs.Trees.{fan, Spot, spot_cmp}
use Rattle.fv_model.specs.Tables.{File, Table}
use Rattle.fv_tables.specs.Spelled.{Under, Rooted, hole, stored, pointer_at, stamp_in, block_at}

-- ---- listing

-- an entry, where there is a value
abbrev pub entry_or : {K V : Type 0} → K → Option V → List (K × V)
entry_or k None = []
entry_or k (Some x) = (k, x) ∷ []

-- the entries of a function over a list of keys
unfoldable pub listed : {K V : Type 0} → (K → Option V) → List K → List (K × V)
listed f keys = flat_map (λ k. entry_or k (f k)) keys

-- ---- a tree

-- the ranges of a level, in a tree of so many levels; the cells at level 0
abbrev pub places : ℕ → ℕ → List ℕ
places levels level = range_with_len 0 (fan ^ (levels - level))

-- all positions of a tree of so many levels
unfoldable pub spots : ℕ → List Spot
spots levels = flat_map (λ level. map (λ place. (level, place)) (places levels level)) (range_with_len 0 (levels + 1))

-- the stamp at a position, where there is one
abbrev pub stamp_at : Rooted → Spot → Option ℕ
stamp_at t spot = stamp_in (pointer_at t spot.0 spot.1)

-- the machine's levels and stamps of a tree
unfoldable pub tree_told : Rooted → trees.Tree
tree_told t = record { levels = t.levels; stamps = fin.from_entries {R = spot_cmp} (listed (stamp_at t) (spots t.levels)) }

-- the blocks of its cells
unfoldable pub cells_told : Rooted → fin.FinMap nat_cmp (List ℕ)
cells_told t = fin.from_entries {R = nat_cmp} (listed (block_at t) (places t.levels 0))

-- trees that are told alike: the same levels, the same cells with their blocks, the same marks, all with the same stamps
pub record AreTold (t u : Rooted) : Type 0 where
  pub levels : u.levels ≡ t.levels
  pub stamps : (level place : ℕ) → stamp_in (pointer_at u level place) ≡ stamp_in (pointer_at t level place)
  pub blocks : (index : ℕ) → block_at u index ≡ block_at t index

-- ---- the records of files

-- how many files an inode block has records of
abbrev pub records_each : ℕ
records_each = 16

abbrev pub free_record : InodeRecord
free_record = record { name_length = 0; name = []; length = 0; reserve = 0; levels = 0; root = hole }

-- the records of an inode block; none where it has no shape
abbrev pub records_of : Result InodeBlock Shape → List InodeRecord
records_of (Ok b) = b.files
records_of (Err fault) = []

unfoldable pub records_in : Option (List ℕ) → List InodeRecord
records_in None = []
records_in (Some block) = records_of (inodes_at block)

-- a record that isn't free
abbrev pub used_record : InodeRecord → Option InodeRecord
used_record r = if r.name_length == 0 then None else Some r

-- The record of file n of a table with this inode file: record n mod 16 of the inode block at cell n / 16.
unfoldable pub file_at : Rooted → ℕ → Option InodeRecord
file_at t n = used_record (get_or (records_in (block_at t (n / records_each))) (n % records_each) free_record)

-- ---- a table

-- A table is its inode file, with the trees of files that are in memory. Such a tree counts in place of the one that the
-- file's record leads to.
pub record Standing : Type 0 where
  pub inode : Rooted
  pub trees : ℕ → Option Rooted

-- a table of which nothing is in memory, by the levels and the root pointer of its inode file
abbrev pub standing_at : Under → ℕ → Pointer → Standing
standing_at under levels root = record { inode = stored under greatest_word levels root; trees = λ n. None }

abbrev pub tree_or : Option Rooted → Rooted → Rooted
tree_or None t = t
tree_or (Some kept) t = kept

-- the tree of file n, whose record is r
abbrev pub tree_of : Standing → ℕ → InodeRecord → Rooted
tree_of x n r = tree_or (x.trees n) (stored x.inode.under n r.levels r.root)

-- the machine's file of a tree and a record
unfoldable pub file_told : Rooted → InodeRecord → File
file_told t r = record {
  name = take r.name_length r.name;
  length = r.length;
  reserve = r.reserve;
  blocks = cells_told t;
  tree = tree_told t;
}

-- file n of a table
unfoldable pub file_in : Standing → ℕ → Option File
file_in x n = option_map (λ r. file_told (tree_of x n r) r) (file_at x.inode n)

-- the numbers of which an inode file of these levels can have records
abbrev pub numbers : Standing → List ℕ
numbers x = range_with_len 0 (records_each * fan ^ x.inode.levels)

-- the records of a table's files, by number
unfoldable pub records : Standing → List (ℕ × InodeRecord)
records x = listed (file_at x.inode) (numbers x)

-- the machine's table
unfoldable pub table_told : Standing → Table
table_told x = record { files = fin.from_entries {R = nat_cmp} (listed (file_in x) (numbers x)); inode = tree_told x.inode }
