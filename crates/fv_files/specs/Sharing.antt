-- How many of the blocks that a change of a table replaces are shared, so that they stay charged.
--
-- An example: a snapshot has a file of one block, with its inode block and no nodes. A write of that block replaces both, so two
-- stay charged. A second write replaces none of them, since both differ from their blocks in memory then.
use Rattle.std.specs.Prelude.{◌≡◌, ℕ, ◌+◌, Bool, Option, Some, None}
use Rattle.fv_model.specs.Tables.{inode_cell}
use Rattle.fv_model.specs.Places.{Owner, InodeFile, OfFile, placed}
use Rattle.fv_model.specs.Volumes.{Volume}
use Rattle.fv_laws.specs.Settled.{is_settled}
use Rattle.fv_tree.specs.Flushing.{Loaded}
use Rattle.fv_tree.specs.Counting.{is_staying, staying_all, staying_at}
use Rattle.fv_files.specs.Apart.{Trees}

-- those over a cell of a tree, where there is one
abbrev pub staying_in : Option Loaded → (ℕ → Bool) → ℕ → ℕ
staying_in None shared i = 0
staying_in (Some s) shared i = staying_at s shared i

-- by a write of block i of file n: over the file's block, and over its cell of the inode file
abbrev pub staying_by_put : Trees → (ℕ → Bool) → ℕ → ℕ → ℕ
staying_by_put x shared n i = staying_in (x (Some n)) shared i + staying_in (x None) shared (inode_cell n)

-- those of a whole tree, where there is one
abbrev pub staying_of : Option Loaded → (ℕ → Bool) → ℕ
staying_of None shared = 0
staying_of (Some s) shared = staying_all s shared

-- by the removal of file n: all of its tree, and over its cell of the inode file
abbrev pub staying_by_removal : Trees → (ℕ → Bool) → ℕ → ℕ
staying_by_removal x shared n = staying_of (x (Some n)) shared + staying_in (x None) shared (inode_cell n)

-- by a new file under the number n: over its cell of the inode file
abbrev pub staying_by_new : Trees → (ℕ → Bool) → ℕ → ℕ
staying_by_new x shared n = staying_in (x None) shared (inode_cell n)

-- whose tree each of a table's is
abbrev pub owner_in : Option ℕ → Owner
owner_in None = InodeFile
owner_in (Some n) = OfFile n

-- Of a volume the ids that stay charged are those whose blocks are shared: the id at a place of a tree is settled exactly where its block is
-- shared and the place doesn't differ from it. So it is where each place that differs from its block got another stamp. A flush lays a root into
-- an inode block under the stamp that this has, and only where its record has another root; the block had changed then, by the change of the
-- file (`AreLaid` in specs/Altering).
pub record SettlesShared (x : Volume) (trees : Trees) (shared : ℕ → Bool) : Type 0 where
  pub each : (o : Option ℕ) (s : Loaded) → trees o ≡ Some s → (level place : ℕ) → is_settled x (placed (owner_in o) (level, place)) ≡ is_staying s shared level place
