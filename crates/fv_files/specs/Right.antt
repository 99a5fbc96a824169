-- The trees of a table whose pointers are right, so that a call may load by them, and those that may be read by their pointers alone.
use Rattle.std.specs.Prelude.{◌≡◌, ℕ, Option, Some, None}
use Rattle.fv_tables.specs.Spelled.{Under, stored}
use Rattle.fv_tree.specs.declared.kept.Tree.{Tree}
use Rattle.fv_tree.specs.Sources.{Shown}
use Rattle.fv_tree.specs.Standing.{under}
use Rattle.fv_tree.specs.Flushing.{Loaded, loaded_over}
use Rattle.fv_tree.specs.Beside.{unread}
use Rattle.fv_tree.specs.Places.{AreRight, HasRightPlaces, MayRead}
use Rattle.fv_inode.specs.declared.info.Info.{Info}
use Rattle.fv_files.specs.declared.files.Files.{Files}
use Rattle.fv_files.specs.Tables.{loaded_trees, tree_in}

-- the pointers of a tree, where there is one, are right
abbrev pub RightIn : (ℕ → ℕ → Type 0) → Option Loaded → Type 0
RightIn right None = Unit {0}
RightIn right (Some s) = AreRight right s

-- so are those of each tree of a table
abbrev pub HasRightTrees : Shown → Files → Type 0
HasRightTrees source f = (a : Option ℕ) → RightIn source.right (loaded_trees (under source) f a)

-- the tree of a file of which this is known: that in memory, or else that to which it leads
abbrev pub known_loaded : Under → Info → Option Tree → Loaded
known_loaded blocks info None = unread (stored blocks info.number info.levels info.root)
known_loaded blocks info (Some t) = loaded_over blocks t

-- so are those of this tree
abbrev pub HasRightFile : Shown → Files → Info → Type 0
HasRightFile source f info = AreRight source.right (known_loaded (under source) info (tree_in f info.number))

-- So are those of the tree of a number in memory, where there is one.
abbrev pub HasRightKept : Shown → Option Tree → Type 0
HasRightKept source o = (t : Tree) → o ≡ Some t → HasRightPlaces source t

-- ---- trees that may be read by their pointers alone where they didn't change

-- a tree, where there is one, may be read so
abbrev pub ReadableIn : (ℕ → ℕ → Type 0) → Option Loaded → Type 0
ReadableIn right None = Unit {0}
ReadableIn right (Some s) = MayRead right s

-- so may each tree of a table
abbrev pub AreReadableTrees : Shown → Files → Type 0
AreReadableTrees source f = (a : Option ℕ) → ReadableIn source.right (loaded_trees (under source) f a)

-- so may the tree of a file
abbrev pub IsReadableFile : Shown → Files → Info → Type 0
IsReadableFile source f info = MayRead source.right (known_loaded (under source) info (tree_in f info.number))
