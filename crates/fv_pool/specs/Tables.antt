-- The table of a volume: by its trees in memory, and where there are none by its root.
use Rattle.std.specs.Prelude.{ℕ, Bool, Option, Some, None}
use Rattle.fv_tables.specs.Spelled.{Under}
use Rattle.fv_tables.specs.Told.{Standing, standing_at}
use Rattle.fv_tree.specs.Sources.{Use}
use Rattle.fv_files.specs.declared.files.Files.{Files}
use Rattle.fv_files.specs.Altering.{AreLaid}
use Rattle.fv_files.specs.Apart.{Trees, AreLed, stored_trees}
use Rattle.fv_files.specs.Pending.{pending_in}
use Rattle.fv_files.specs.Tables.{changed, loaded_trees, AreReached, AreSound, IsStoredOn, IsStoredUnder}
use Rattle.fv_files.specs.Trees.{standing_in}
use Rattle.fv_pool.specs.declared.rooted.Rooted.{Rooted}

-- a table by its trees in memory, and where there are none by its root
abbrev pub standing_by : Under → Rooted → Option Files → Standing
standing_by blocks root None = standing_at blocks root.levels root.root
standing_by blocks root (Some files) = standing_in blocks (changed files)

-- the trees of a table: by those in memory, and where there are none by its root
abbrev pub trees_by : Under → Rooted → Option Files → Trees
trees_by blocks root None = stored_trees blocks root.levels root.root
trees_by blocks root (Some files) = loaded_trees blocks files

-- each of its trees stands on its blocks
abbrev pub AreSoundBy : Under → (ℕ → Option Use) → Rooted → Option Files → Type 0
AreSoundBy blocks used root None = AreReached blocks used root.levels root.root
AreSoundBy blocks used root (Some files) = AreSound blocks used files

-- where a tree in memory isn't as the record of its file says, its inode block differs from its block, too
abbrev pub AreLaidBy : Under → Option Files → Type 0
AreLaidBy blocks None = Unit {0}
AreLaidBy blocks (Some files) = AreLaid blocks files

-- how many blocks a flush of a volume places at most
abbrev pub pending_of : Option Files → ℕ
pending_of None = 0
pending_of (Some f) = pending_in f

-- what is in use is led to by a tree of the table, by those in memory or by its root
abbrev pub AreLedBy : Under → (ℕ → Option Use) → Rooted → Option Files → Type 0
AreLedBy blocks uses root None = AreLed uses (stored_trees blocks root.levels root.root)
AreLedBy blocks uses root (Some f) = AreLed uses (loaded_trees blocks f)

-- What the trees of a table lead to is as their pointers say: of those in memory, or of those under its root. `known` says whether every place is
-- known.
abbrev pub AreStoredBy : Bool → Under → Rooted → Option Files → Type 0
AreStoredBy known blocks root None = IsStoredUnder known blocks root.levels root.root
AreStoredBy known blocks root (Some f) = IsStoredOn known blocks f
