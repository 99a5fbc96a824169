-- Taking the places out of the pointers of an inode file that a later flush writes: its own, and the roots of files.
--
-- An example: files 3 and 4 stand in one inode block, and the record of file 3 was changed since the last flush. Then the roots of both have
-- PVBN 0 in memory, and so have the pointers in the nodes over the block and the root of the inode file.
use Rattle.std.specs.Prelude.{◌≡◌, ℕ, ◌/◌, cond, Option}
use Rattle.std.specs.Option.{option_map}
use Rattle.fv_tables.specs.Alike.{hintless, hintless_record}
use Rattle.fv_tables.specs.Spelled.{Under, pointer_at, stamp_in}
use Rattle.fv_tables.specs.Told.{records_each, file_at}
use Rattle.fv_tree.specs.declared.kept.Tree.{Tree}
use Rattle.fv_tree.specs.Sources.{Use}
use Rattle.fv_tree.specs.Standing.{standing}
use Rattle.fv_tree.specs.Flushing.{loaded_over, changed_of, placed_of, IsSound}
use Rattle.fv_tree.specs.Leading.{LeadsNoMore}
use Rattle.fv_tree.specs.Stored.{IsStoredWell}
use Rattle.fv_tree.specs.Unknown.{LeadsUnknown}
use Rattle.fv_tree.specs.Costs.{pending, Rises}
use Rattle.fv_tree.specs.Blanking.{will_be_written}
use Rattle.fv_inode.specs.Files.{NamesIndexes}
use Rattle.fv_inode.specs.Readying.{HoldsFile}

-- No pointer that a later flush of an inode file writes tells a place any more, and all else is as before: over whatever blocks each file is but
-- for the hint of its root, and the tree stands on them if it did, and leads to the same ones from the same places.
pub record BlanksFiles (old new : Tree) : Type 0 where
  pub owner : new.owner ≡ old.owner
  pub levels : new.levels ≡ old.levels
  pub root : new.root ≡ hintless old.root
  pub changed : (level place : ℕ) → changed_of new level place ≡ changed_of old level place
  pub placed : (level place : ℕ) → placed_of new level place ≡ placed_of old level place
  pub pending : pending new ≡ pending old
  pub rises : Rises old new 0 0
  pub pointers : (held : Under) (level place : ℕ)
      → pointer_at (standing held new) level place
      ≡ cond (will_be_written (loaded_over held old) level place) (hintless (pointer_at (standing held old) level place)) (pointer_at (standing held old) level place)
  pub stamps : (held : Under) (level place : ℕ) → stamp_in (pointer_at (standing held new) level place) ≡ stamp_in (pointer_at (standing held old) level place)
  pub files : (held : Under) (n : ℕ)
      → file_at (standing held new) n ≡ cond (changed_of old 0 (n / records_each)) (option_map hintless_record (file_at (standing held old) n)) (file_at (standing held old) n)
  pub sound : (held : Under) (used : ℕ → Option Use) → IsSound used (loaded_over held old) → IsSound used (loaded_over held new)
  pub leads : (held : Under) → LeadsNoMore (loaded_over held old) (loaded_over held new)
  pub keeps : (held : Under) → LeadsNoMore (loaded_over held new) (loaded_over held old)
  pub stored_well : (held : Under) → IsStoredWell (loaded_over held old) → IsStoredWell (loaded_over held new)
  pub leads_unknown : (held : Under) → LeadsUnknown (loaded_over held old) → LeadsUnknown (loaded_over held new)
  pub indexes : (held : Under) → NamesIndexes (standing held old) → NamesIndexes (standing held new)
  pub ready : (n : ℕ) → HoldsFile old n → HoldsFile new n
