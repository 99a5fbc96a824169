-- What a flush of a table leaves.
use Rattle.std.specs.Prelude.{◌≡◌, ◌⊎◌, ℕ, false, List, Option, Some, None, Result, IfOk, IfErr, OnOk}
use Rattle.std.specs.Ordering.{nat_cmp}
use Rattle.std.specs.BTreeMap as maps
use Rattle.std.specs.FinMap as fin
use Rattle.fv_disk.specs.declared.fault.BlockFault.{BlockFault}
use Rattle.fv_codec.specs.declared.inode.InodeRecord.{InodeRecord}
use Rattle.fv_codec.specs.declared.pointer.Pointer.{Pointer}
use Rattle.fv_codec.specs.Blocks.{IsPointer}
use Rattle.fv_tables.specs.Spelled.{stored}
use Rattle.fv_tables.specs.Told.{standing_at}
use Rattle.fv_tables.specs.Kept.{IsPlacedTable}
use Rattle.fv_tree.specs.declared.kept.Tree.{Tree}
use Rattle.fv_tree.specs.Sources.{Shown, Counts, HasCause}
use Rattle.fv_tree.specs.Standing.{standing, under}
use Rattle.fv_tree.specs.Costs.{pending, Fits, IsEnough}
use Rattle.fv_tree.specs.Flushing.{Flushes, IsLeft, IsPlaced, ReachesOnce, Stands, loaded}
use Rattle.fv_tree.specs.Altering.{PlacesAnew}
use Rattle.fv_files.specs.declared.files.Files.{Files}
use Rattle.fv_tree.specs.Stored.{HasPlaces, IsStoredWell, TellsPlaces}
use Rattle.fv_files.specs.Apart.{AreLed, stored_trees}
use Rattle.fv_files.specs.Tables.{table_in, tree_in, AreReached, AreStanding, IsLed}
use Rattle.fv_files.specs.Failing.{FilesFail}
use Rattle.fv_files.specs.Calls.{Becomes, KeepsLed, SparesOthers}
use Rattle.fv_files.specs.Pending.{pending_in, FitsTable}

-- a source that holds other blocks
abbrev pub holding : Shown → fin.FinMap nat_cmp (List ℕ) → Shown
holding source held = record source { held = held }

-- A root couldn't be laid into an inode block. That may load a block, so damage is told of the table as it was in the middle of the flush,
-- over the blocks that were held then. Only places of it differ.
pub record LayFails (told : Type 0) (old new : Shown) (f : Files) (e : BlockFault) : Type 0 where
  pub held : fin.FinMap nat_cmp (List ℕ)
  pub table : Files
  pub placed : told → AreStanding old f → IsPlacedTable (table_in old f) (table_in (holding old held) table)
  pub fails : FilesFail told (table_in (holding old held) table) (holding old held) new e

-- why a flush of a table failed: a block wasn't placed, or a root wasn't laid
abbrev pub FlushFails : Type 0 → Shown → Shown → Files → BlockFault → Type 0
FlushFails told old new f e = HasCause old new e ⊎ LayFails told old new f e

-- Some trees of a table were placed, and their roots laid into inode blocks. The table is told as before in every outcome, and stands on its
-- blocks, so that a later flush goes on where this one ended.
pub record LaysTrees {T : Type 0} (told : Type 0) (old new : Shown) (f g : Files) (result : Result T BlockFault) : Type 0 where
  pub placed : told → AreStanding old f → IsPlacedTable (table_in old f) (table_in new g)
  pub stands : told → AreStanding old f → AreStanding new g
  pub led : told → KeepsLed old new f g
  pub spares : told → AreStanding old f → SparesOthers old new f g
  pub strays : told → AreStanding old f → new.strays ≡ old.strays
  pub fits : told → AreStanding old f → FitsTable old f new g
  -- with room for all that is pending no damage is answered
  pub enough : told → AreStanding old f → IsEnough (pending_in f) old.room result
  pub counts : Counts old new result
  pub cause : IfErr result (FlushFails told old new f)
  -- a table that stands needs no load for the roots
  pub source : told → AreStanding old f → IfErr result (HasCause old new)

-- A table was placed whole. Nothing of it is in memory, and it is the one under the root.
pub record FlushesTable (told : Type 0) (old new : Shown) (f g : Files) (result : Result Pointer BlockFault) : Type 0 where
  pub lays : LaysTrees told old new f g result
  pub root : IfOk result (λ root. root ≡ g.inode.tree.root)
  pub pointer : IfOk result IsPointer
  pub none : OnOk result ((n : ℕ) → tree_in g n ≡ None)
  pub nothing : OnOk result (pending_in g ≡ 0)
  pub levels : told → AreStanding old f → g.inode.tree.levels ≡ f.inode.tree.levels
  pub stored : told → IfOk result (λ root. AreStanding old f → table_in new g ≡ standing_at (under new) g.inode.tree.levels root)
  pub reached : told → IfOk result (λ root. AreStanding old f → AreReached (under new) new.used g.inode.tree.levels root)
  pub stored_led : told → IfOk result (λ root. AreStanding old f → IsLed old f → AreLed new.used (stored_trees (under new) g.inode.tree.levels root))

-- the record of a file has this root, of a tree of so many levels
pub record HasRoot (o : Option InodeRecord) (levels : ℕ) (root : Pointer) : Type 0 where
  pub file : InodeRecord
  pub is : o ≡ Some file
  pub levels_is : file.levels ≡ levels
  pub root_is : file.root ≡ root

-- what it does to the places of that tree; `free` says which VVBNs new blocks got
abbrev pub KeptAnew : (ℕ → Type 0) → Shown → Shown → maps.BTreeMap ℕ Tree → maps.BTreeMap ℕ Tree → ℕ → Type 0
KeptAnew free old new m n number = (t u : Tree) → maps.get nat_cmp m number ≡ Some t → maps.get nat_cmp n number ≡ Some u → Stands old t → PlacesAnew (loaded old t) free (loaded new u)

-- what stays under a VVBN, unless a block of that tree was placed under it
abbrev pub KeptKeeps : (ℕ → Type 0) → Shown → Shown → maps.BTreeMap ℕ Tree → maps.BTreeMap ℕ Tree → ℕ → Type 0
KeptKeeps keep old new m n number = (t u : Tree) → maps.get nat_cmp m number ≡ Some t → maps.get nat_cmp n number ≡ Some u → Stands old t → (v : ℕ) → (IsPlaced (loaded old t) (loaded new u) v → ⊥) → keep v

-- a tree in memory was placed, or a part of it
pub record FlushesKept (told : Type 0) (old new : Shown) (m n : maps.BTreeMap ℕ Tree) (number : ℕ) (result : Result Pointer BlockFault) : Type 0 where
  pub tree : Tree
  pub next : Tree
  pub becomes : Becomes m n number tree next
  pub flushes : told → Stands old tree → Flushes false (loaded old tree) old.used (loaded new next) new.used
  pub stored_well : told → Stands old tree → IsStoredWell (loaded old tree) → IsStoredWell (loaded new next)
  pub tells : told → Stands old tree → tree.owner ≡ number → HasPlaces new.used → TellsPlaces (loaded old tree) → TellsPlaces (loaded new next)
  pub strays : told → Stands old tree → new.strays ≡ old.strays
  pub fits : told → Stands old tree → Fits old tree new next
  pub enough : told → Stands old tree → IsEnough (pending tree) old.room result
  pub nothing : OnOk result (pending next ≡ 0)
  pub left : IsLeft tree next
  pub pointer : IfOk result IsPointer
  pub spelled : IfOk result (λ root. standing (under new) next ≡ stored (under new) tree.owner tree.levels root)
  pub reaches : told → IfOk result (λ root. Stands old tree → ReachesOnce new.used (stored (under new) tree.owner tree.levels root))
  pub counts : Counts old new result
  pub cause : IfErr result (HasCause old new)
