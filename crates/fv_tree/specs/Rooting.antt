-- Taking the places out of the roots of files, in the inode blocks that a later flush writes.
--
-- An example: files 3 and 4 stand in one inode block, and the record of file 3 was changed since the last flush. Then the roots of both have
-- PVBN 0 in the inode block in memory, since the next flush writes the whole block.
use Rattle.std.specs.Prelude.{◌≡◌, ℕ, ◌/◌, Bool, true, false, cond, map, List, Option, Some, None, Result, Err}
use Rattle.std.specs.Option.{option_map}
use Rattle.std.specs.Result.{result_map_both}
use Rattle.std.specs.Ordering.{nat_cmp}
use Rattle.std.specs.BTreeMap as maps
use Rattle.fv_codec.specs.declared.shape.Shape.{Shape}
use Rattle.fv_codec.specs.declared.inode.InodeBlock.{InodeBlock}
use Rattle.fv_codec.specs.Blocks.{inodes_at}
use Rattle.fv_tables.specs.Told.{records_each, file_at}
use Rattle.fv_tables.specs.Alike.{hintless_record}
use Rattle.fv_tree.specs.declared.kept.Tree.{Tree}
use Rattle.fv_tree.specs.declared.kept.KeptCell.{KeptCell}
use Rattle.fv_tree.specs.Spelled.{Under, pointer_at, block_at}
use Rattle.fv_tree.specs.Sources.{Use}
use Rattle.fv_tree.specs.Standing.{standing}
use Rattle.fv_tree.specs.Flushing.{loaded_over, changed_of, placed_of, IsSound}
use Rattle.fv_tree.specs.Stored.{IsStoredWell}
use Rattle.fv_tree.specs.Unknown.{LeadsUnknown}
use Rattle.fv_tree.specs.Leading.{LeadsNoMore}
use Rattle.fv_tree.specs.Readying.{KeepsReady}
use Rattle.fv_tree.specs.Costs.{cells_changed, pending}

-- an inode block whose records don't tell the places of their roots
abbrev pub hintless_inodes : InodeBlock → InodeBlock
hintless_inodes b = record { index = b.index; files = map hintless_record b.files }

-- the same of what a block spells
abbrev pub hintless_spelled : Result InodeBlock Shape → Result InodeBlock Shape
hintless_spelled = result_map_both hintless_inodes (λ fault. fault)

-- Roots have no places in a block that changed, where it is an inode block; any other stays.
pub record BlanksBlock (changed : Bool) (old new : List ℕ) : Type 0 where
  pub same : changed ≡ false → new ≡ old
  pub inodes : changed ≡ true → inodes_at new ≡ hintless_spelled (inodes_at old)
  pub other : (fault : Shape) → inodes_at old ≡ Err fault → new ≡ old

-- so it is of what a place holds, which may be nothing
abbrev pub BlanksPlace : Bool → Option (List ℕ) → Option (List ℕ) → Type 0
BlanksPlace changed None None = Unit {0}
BlanksPlace changed None (Some now) = ⊥
BlanksPlace changed (Some was) None = ⊥
BlanksPlace changed (Some was) (Some now) = BlanksBlock changed was now

-- so it is of a cell in memory
pub record BlanksCell (old new : KeptCell) : Type 0 where
  pub changed : new.changed ≡ old.changed
  pub placed : new.placed ≡ old.placed
  pub block : BlanksBlock old.changed old.block.value new.block.value

-- and of one that may not be there
abbrev pub BlanksKept : Option KeptCell → Option KeptCell → Type 0
BlanksKept None None = Unit {0}
BlanksKept None (Some now) = ⊥
BlanksKept (Some was) None = ⊥
BlanksKept (Some was) (Some now) = BlanksCell was now

-- so it is of each cell of a map
pub record BlanksCells (old new : maps.BTreeMap ℕ KeptCell) : Type 0 where
  pub each : (i : ℕ) → BlanksKept (maps.get nat_cmp old i) (maps.get nat_cmp new i)
  pub count : cells_changed new ≡ cells_changed old
  pub len : maps.btree_map_len new ≡ maps.btree_map_len old

-- The root of each file in an inode block that a later flush writes tells no place any more. Over whatever blocks, each file is as before but for
-- that, and the tree's own pointers stay.
pub record BlanksRoots (old new : Tree) : Type 0 where
  pub owner : new.owner ≡ old.owner
  pub levels : new.levels ≡ old.levels
  pub root : new.root ≡ old.root
  pub nodes : new.nodes ≡ old.nodes
  pub cells : BlanksCells old.cells new.cells
  pub changed : (level place : ℕ) → changed_of new level place ≡ changed_of old level place
  pub placed : (level place : ℕ) → placed_of new level place ≡ placed_of old level place
  pub pending : pending new ≡ pending old
  pub pointers : (held : Under) (level place : ℕ) → pointer_at (standing held new) level place ≡ pointer_at (standing held old) level place
  pub blocks : (held : Under) (i : ℕ) → BlanksPlace (changed_of old 0 i) (block_at (standing held old) i) (block_at (standing held new) i)
  pub files : (held : Under) (n : ℕ)
      → file_at (standing held new) n ≡ cond (changed_of old 0 (n / records_each)) (option_map hintless_record (file_at (standing held old) n)) (file_at (standing held old) n)
  pub sound : (held : Under) (used : ℕ → Option Use) → IsSound used (loaded_over held old) → IsSound used (loaded_over held new)
  pub leads : (held : Under) → LeadsNoMore (loaded_over held old) (loaded_over held new)
  pub keeps : (held : Under) → LeadsNoMore (loaded_over held new) (loaded_over held old)
  pub stored_well : (held : Under) → IsStoredWell (loaded_over held old) → IsStoredWell (loaded_over held new)
  pub leads_unknown : (held : Under) → LeadsUnknown (loaded_over held old) → LeadsUnknown (loaded_over held new)
  pub keeps_ready : KeepsReady old new
