-- How many unknown pointers lie on the path to a cell, by what an image shows, and which sessions have it so.
--
-- An example: a mirror has its root under VVBN 7, an inode block, which has a record of one file with its only cell under 8. No place is
-- known. So two unknown pointers lie on the path to cell 0 of that file: the one in the label, and the one in the record.
use Rattle.std.specs.Prelude.{◌≡◌, ℕ, List, Option, Some}
use Rattle.std.specs.Option.{option_map}
use Rattle.fv_disk.specs.Shown.{Image}
use Rattle.fv_codec.specs.Blocks.{greatest_word}
use Rattle.fv_tables.specs.Spelled.{Rooted as Tree, Under, stored}
use Rattle.fv_image.specs.Held.{view_at}
use Rattle.fv_image.specs.Places.{path_of}
use Rattle.fv_image.specs.Views.{Head}
use Rattle.fv_image.specs.Volumes.{standing_of}
use Rattle.fv_root.specs.declared.find.Found.{Found}
use Rattle.fv_root.specs.Finding.{IsFound, root_found}
use Rattle.fv_inode.specs.declared.info.Info.{Info}
use Rattle.fv_inode.specs.Files.{IsFirst}
use Rattle.fv_files.specs.Apart.{stored_trees, Trees}
use Rattle.fv_pool.specs.declared.pool.Pool.{Pool}
use Rattle.fv_pool.specs.declared.rooted.Rooted.{Rooted}
use Rattle.fv_pool.specs.BlocksOver.{held_block}
use Rattle.fv_volume.specs.declared.state.VolumeState.{VolumeState}
use Rattle.fv_volume.specs.Paths.{unknown_over}
use Rattle.fv_volume.specs.States.{state_at}
use Rattle.fv_cp.specs.Placing.{HaveNoFiles}
use Rattle.fv_aggregate.specs.declared.session.Session.{Session}

-- ---- an image

-- By the root that counts in an image, a volume of this name has a file of this name in its active table, and so many unknown pointers lie
-- on the path to the cell of this index: from the label to the file's record, and from the root in the record to the cell.
pub record ShowsPath (i : Image) (volume file : List ℕ) (index count : ℕ) : Type 0 where
  pub found : Found
  pub counts : IsFound i found
  pub slot : ℕ
  pub head : Head
  pub there : (view_at (root_found found) i).head slot ≡ Some head
  pub named : head.name ≡ volume
  pub info : Info
  pub first : IsFirst (standing_of (view_at (root_found found) i) slot head.active).inode file info
  pub path : count ≡ path_of (view_at (root_found found) i) slot head info.number index

-- ---- a session

-- The active table of a volume of which no file is in memory: the volume's name, the root of the table, and the block under each VVBN that
-- the volume holds.
pub record ActiveTable : Type 0 where
  pub name : List ℕ
  pub root : Rooted
  pub blocks : Under

abbrev pub active_table : Image → Pool → VolumeState → ActiveTable
active_table i pool x = record { name = x.name; root = x.active; blocks = held_block x.map pool x.slot i }

-- that of the volume of a slot, in a session over what its disk reads
abbrev pub table_of_slot : Image → Session → ℕ → Option ActiveTable
table_of_slot i session slot = option_map (active_table i session.pool) (state_at session.volumes slot)

-- its inode file, and all its trees
abbrev pub inodes_of : ActiveTable → Tree
inodes_of t = stored t.blocks greatest_word t.root.levels t.root.root

abbrev pub trees_of : ActiveTable → Trees
trees_of t = stored_trees t.blocks t.root.levels t.root.root

-- The volume of a name has a file of a name in its active table, and so many unknown pointers lie on the path to the cell of this index.
pub record HasPath (i : Image) (session : Session) (volume file : List ℕ) (index count : ℕ) : Type 0 where
  pub slot : ℕ
  pub table : ActiveTable
  pub there : table_of_slot i session slot ≡ Some table
  pub named : table.name ≡ volume
  pub info : Info
  pub first : IsFirst (inodes_of table) file info
  pub path : count ≡ unknown_over (trees_of table) info.number index

-- The active table of each volume stays, with its name, its root and its blocks.
abbrev pub KeepsTables : Image → Session → Image → Session → Type 0
KeepsTables i old j new = (slot : ℕ) → table_of_slot j new slot ≡ table_of_slot i old slot

-- A session over what its disk reads now has no file in memory, and each path in it is as an image shows it.
pub record HasPathsOf (i now : Image) (session : Session) : Type 0 where
  pub none : HaveNoFiles session.volumes
  pub paths : (volume file : List ℕ) (index count : ℕ) → HasPath now session volume file index count → ShowsPath i volume file index count
