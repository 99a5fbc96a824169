-- A table whose changed trees are in memory, and how it stands to its blocks.
use Rattle.std.specs.Prelude.{◌≡◌, ℕ, ◌/◌, Bool, true, Option, Some, None, is_some}
use Rattle.std.specs.Ordering.{nat_cmp}
use Rattle.std.specs.Option.{option_map}
use Rattle.std.specs.BTreeMap as tree
use Rattle.fv_codec.specs.declared.inode.InodeRecord.{InodeRecord}
use Rattle.fv_codec.specs.declared.pointer.Pointer.{Pointer}
use Rattle.fv_codec.specs.Blocks.{greatest_word}
use Rattle.fv_tables.specs.Spelled.{Under, Rooted, stored}
use Rattle.fv_tables.specs.Told.{Standing, records_each, file_at, tree_or, table_told}
use Rattle.fv_tree.specs.declared.kept.Tree.{Tree}
use Rattle.fv_tree.specs.Sources.{Shown, Use}
use Rattle.fv_tree.specs.Standing.{standing, under}
use Rattle.fv_tree.specs.Flushing.{Loaded, loaded_over, ReachesOnce}
use Rattle.fv_tree.specs.Beside.{unread}
use Rattle.fv_tree.specs.Readying.{IsReady}
use Rattle.fv_inode.specs.declared.info.Info.{Info}
use Rattle.fv_inode.specs.Files.{info_of, IsInfo, NamesIndexes}
use Rattle.fv_files.specs.declared.files.Files.{Files}
use Rattle.fv_files.specs.Trees.{Changed, standing_in}
use Rattle.fv_files.specs.Apart.{Trees, StandsIn, AreApart, AreLed, AreStoredWell, stored_trees}

-- the trees that are in memory
abbrev pub changed : Files → Changed
changed f = record { inode = f.inode.tree; files = f.trees }

-- the table over the blocks of a source
abbrev pub table_in : Shown → Files → Standing
table_in source f = standing_in (under source) (changed f)

-- the tree of a file, where it is in memory
abbrev pub tree_in : Files → ℕ → Option Tree
tree_in f n = tree.get nat_cmp f.trees n

-- the table is told as what it was told as
abbrev pub IsTold : Shown → Files → Shown → Files → Type 0
IsTold old f new g = table_told (table_in new g) ≡ table_told (table_in old f)

-- the tree of a file: that in memory, or else that to which its record leads
abbrev pub file_loaded : Under → ℕ → InodeRecord → Option Tree → Loaded
file_loaded blocks n r None = unread (stored blocks n r.levels r.root)
file_loaded blocks n r (Some t) = loaded_over blocks t

abbrev pub loaded_trees : Under → Files → Trees
loaded_trees blocks f None = Some (loaded_over blocks f.inode.tree)
loaded_trees blocks f (Some n) = option_map (λ r. file_loaded blocks n r (tree_in f n)) (file_at (standing blocks f.inode.tree) n)

-- Each tree of the table stands on its blocks, and no two lead to one block. A tree in memory is that of a file.
pub record AreSound (blocks : Under) (used : ℕ → Option Use) (f : Files) : Type 0 where
  pub owner : f.inode.tree.owner ≡ greatest_word
  pub owners : (n : ℕ) (t : Tree) → tree_in f n ≡ Some t → (t.owner ≡ n) × (is_some (file_at (standing blocks f.inode.tree) n) ≡ true)
  pub trees : (a : Option ℕ) → StandsIn used (loaded_trees blocks f a)
  pub apart : AreApart (loaded_trees blocks f)
  -- the inode block of a tree in memory is ready, so that its root is laid without a load
  pub ready : (n : ℕ) → is_some (tree_in f n) ≡ true → IsReady f.inode.tree (n / records_each)

abbrev pub AreStanding : Shown → Files → Type 0
AreStanding source = AreSound (under source) source.used

-- What is in use is led to by one of the table's trees.
abbrev pub IsLed : Shown → Files → Type 0
IsLed source f = AreLed source.used (loaded_trees (under source) f)

-- So they do where nothing is in memory.
pub record AreReached (blocks : Under) (used : ℕ → Option Use) (levels : ℕ) (root : Pointer) : Type 0 where
  pub inode : ReachesOnce used (stored blocks greatest_word levels root)
  pub files : (n : ℕ) (r : InodeRecord) → file_at (stored blocks greatest_word levels root) n ≡ Some r → ReachesOnce used (stored blocks n r.levels r.root)
  pub apart : AreApart (stored_trees blocks levels root)

-- What the table leads to is as its pointers say, and each inode block names its index. `known` says whether every place is known.
pub record IsStoredOn (known : Bool) (blocks : Under) (f : Files) : Type 0 where
  pub trees : AreStoredWell known (loaded_trees blocks f)
  pub inodes : NamesIndexes (standing blocks f.inode.tree)

abbrev pub IsStored : Bool → Shown → Files → Type 0
IsStored known source = IsStoredOn known (under source)

-- So it is with the table under a root.
pub record IsStoredUnder (known : Bool) (blocks : Under) (levels : ℕ) (root : Pointer) : Type 0 where
  pub trees : AreStoredWell known (stored_trees blocks levels root)
  pub inodes : NamesIndexes (stored blocks greatest_word levels root)

-- what is known of a file is what its record says
pub record IsInfoOf (t : Rooted) (info : Info) : Type 0 where
  pub file : InodeRecord
  pub there : file_at t info.number ≡ Some file
  pub told : info ≡ info_of info.number file

-- a file of a table is known by an info in the ranges of a record
pub record IsKnown (told : Type 0) (source : Shown) (f : Files) (info : Info) : Type 0 where
  pub range : IsInfo info
  pub there : told → IsInfoOf (standing (under source) f.inode.tree) info

-- the tree of a file of which this is known: that in memory, or else that to which it leads
abbrev pub tree_known : Standing → Info → Rooted
tree_known x info = tree_or (x.trees info.number) (stored x.inode.under info.number info.levels info.root)
