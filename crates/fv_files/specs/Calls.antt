-- What the calls of a table answer and do, by the machine.
use Rattle.std.specs.Prelude.{◌≡◌, ◌≢◌, ◌≤◌, ◌⊎◌, ℕ, ◌+◌, ◌/◌, max, nat_le, Bool, true, List, replicate, Option, Some, None, is_some, Result, OnOk, OnErr, IfOk, IfErr}
use Rattle.std.specs.Ordering.{nat_cmp}
use Rattle.std.specs.BTreeMap as maps
use Rattle.std.specs.FinMap as fin
use Rattle.fv_disk.specs.declared.fault.BlockFault.{BlockFault}
use Rattle.fv_codec.specs.declared.pointer.Pointer.{Pointer}
use Rattle.fv_model.specs.Tables.{File, inode_cell, put, cut, rm}
use Rattle.fv_laws.specs.WellFormed.{IsWellTable}
use Rattle.fv_laws.specs.Positions.{added_by, taken_by_cut, taken_by_rm}
use Rattle.fv_tables.specs.Spelled.{Under, stored}
use Rattle.fv_tables.specs.Told.{Standing, file_in, records_each, table_told}
use Rattle.fv_tree.specs.declared.kept.Tree.{Tree}
use Rattle.fv_tree.specs.Sources.{Shown, Counts, IsUntouched, Use}
use Rattle.fv_tree.specs.Standing.{standing, under, Fails}
use Rattle.fv_tree.specs.Writing.{IsAlike, Writes, Remains}
use Rattle.fv_tree.specs.Flushing.{Loaded, IsSound, ReachesOnce, Stands, loaded, loaded_over}
use Rattle.fv_tree.specs.Altering.{Alters, Leaves}
use Rattle.fv_tree.specs.Leading.{LeadsNoMore}
use Rattle.fv_tree.specs.Stored.{IsStoredWell, TellsPlaces}
use Rattle.fv_tree.specs.Removal.{Removal}
use Rattle.fv_tree.specs.Erasing.{HoldsCells}
use Rattle.fv_tree.specs.Costs.{pending, Rises}
use Rattle.fv_tree.specs.Lookups.{way_cost}
use Rattle.fv_inode.specs.declared.info.Info.{Info}
use Rattle.fv_inode.specs.Files.{rooted, IsInfo}
use Rattle.fv_inode.specs.Readying.{IsReadyFile}
use Rattle.fv_files.specs.declared.files.Files.{Files}
use Rattle.fv_tree.specs.Beside.{Spares}
use Rattle.fv_files.specs.Apart.{LeadsAny, Trees}
use Rattle.fv_files.specs.Tables.{table_in, tree_in, tree_known, loaded_trees, AreStanding, IsInfoOf, IsLed, IsStored, IsStoredUnder, IsTold}
use Rattle.fv_files.specs.Altering.{AreLaid, LeavesTrees}
use Rattle.fv_files.specs.Failing.{Looks}
use Rattle.fv_files.specs.Pending.{pending_trees}

-- ---- reads

-- a block, or zeros where there is none
abbrev pub or_zeros : Option (List ℕ) → List ℕ
or_zeros None = replicate 4096 0
or_zeros (Some block) = block

-- block i of file n
abbrev pub GivesCell : Standing → ℕ → ℕ → List ℕ → Type 0
GivesCell x n i into = (f : File) → file_in x n ≡ Some f → into ≡ or_zeros (fin.get f.blocks i)

-- what the pointers cost that are followed to a cell of a tree, where there is one
abbrev pub way_in : (Pointer → ℕ) → Option Loaded → ℕ → ℕ
way_in cost None i = 0
way_in cost (Some s) i = way_cost cost s i

-- what those cost that are followed from the root of a table to the record of file n, and from there to its cell i
abbrev pub path_cost : (Pointer → ℕ) → Trees → ℕ → ℕ → ℕ
path_cost cost trees n i = way_in cost (trees None) (n / records_each) + way_in cost (trees (Some n)) i

-- ---- writes

-- what is known of a file once cell i was written, but for its tree
abbrev pub longer : Info → ℕ → Info
longer info i = record {
  number = info.number;
  length = max info.length (i + 1);
  reserve = info.reserve;
  levels = info.levels;
  root = info.root;
}

-- cell i of file n was written by a change with the stamp s: the machine's put
abbrev pub WritesCell : Standing → Standing → ℕ → ℕ → ℕ → List ℕ → Type 0
WritesCell x y n i s block = (f : File) → file_in x n ≡ Some f → table_told y ≡ put (table_told x) n f i block s

-- how many positions a write of cell i adds to file n of a well-formed table
abbrev pub AddsCell : Standing → ℕ → ℕ → ℕ → Type 0
AddsCell x n i count = (now : ℕ) (f : File) → IsWellTable now (table_told x) → file_in x n ≡ Some f → count ≡ added_by f.tree i

-- how many a new file under the number n adds to the inode file of a well-formed table
abbrev pub AddsFile : Standing → ℕ → ℕ → Type 0
AddsFile x n count = (now : ℕ) → IsWellTable now (table_told x) → count ≡ added_by (table_told x).inode (inode_cell n)

-- what is known of a file once it was cut to a length, but for its tree
abbrev pub shortened : Info → ℕ → Info
shortened info length = record {
  number = info.number;
  length = length;
  reserve = info.reserve;
  levels = info.levels;
  root = info.root;
}

-- file n was cut to a length by a change with the stamp s: the machine's cut, of a well-formed table
abbrev pub CutsFile : Standing → Standing → ℕ → ℕ → ℕ → Type 0
CutsFile x y n length s = (now : ℕ) (f : File) → IsWellTable now (table_told x) → file_in x n ≡ Some f → table_told y ≡ cut (table_told x) n f length s

-- how many positions a cut of file n to a length takes, by a change with the stamp s
abbrev pub TakesByCut : Standing → ℕ → ℕ → ℕ → ℕ → Type 0
TakesByCut x n length s count = (now : ℕ) (f : File) → now ≤ s → IsWellTable now (table_told x) → file_in x n ≡ Some f → count ≡ taken_by_cut f length

-- file n was taken away by a change with the stamp s: the machine's rm, of a well-formed table
abbrev pub RemovesFile : Standing → Standing → ℕ → ℕ → Type 0
RemovesFile x y n s = (now : ℕ) → IsWellTable now (table_told x) → table_told y ≡ rm (table_told x) n s

-- how many positions the removal of file n takes, by a change with the stamp s
abbrev pub TakesByRemoval : Standing → ℕ → ℕ → ℕ → Type 0
TakesByRemoval x n s count = (now : ℕ) (f : File) → now ≤ s → IsWellTable now (table_told x) → file_in x n ≡ Some f → count ≡ taken_by_rm (table_told x) n f

-- ---- what changes leave

-- What a change of a table leaves, whether it was done or failed. After a fault the table is told as before, and no block was named as
-- gone. `well` is what is asked of the table beside that it stands on its blocks, and `fails` says why the change failed.
pub record Changes {T : Type 0} (told well : Type 0) (old new : Shown) (f g : Files) (fails : BlockFault → Type 0) (result : Result T BlockFault) : Type 0 where
  pub failed : told → OnErr result (IsTold old f new g)
  pub untouched : OnErr result (IsUntouched old new)
  pub stands : told → well → AreStanding old f → AreStanding new g
  pub stored : told → well → AreStanding old f → (known : Bool) → IsStored known old f → IsStored known new g
  pub strays : told → AreStanding old f → new.strays ≡ old.strays
  pub room : old.room ≤ new.room
  pub counts : Counts old new result
  pub cause : IfErr result fails

-- what is in use is led to by one of the table's trees, if it was before
abbrev pub KeepsLed : Shown → Shown → Files → Files → Type 0
KeepsLed old new f g = AreStanding old f → IsLed old f → IsLed new g

-- What isn't the table's stays: a block that is held and to which none of its trees leads. Where they lead afterwards they led before, or
-- no block was held there.
abbrev pub SparesOthers : Shown → Shown → Files → Files → Type 0
SparesOthers old new f g = Spares old new (LeadsAny (loaded_trees (under old) f)) (LeadsAny (loaded_trees (under new) g))

-- What such a table leads to stays as its pointers say, whether every place is known (`known`) or not. Where trees in memory aren't as their
-- records say, their inode blocks have changed.
abbrev pub KeepsStored : Bool → Shown → Shown → Files → Files → Type 0
KeepsStored known old new f g = AreStanding old f → IsLed old f → AreLaid (under old) f → IsStored known old f → IsStored known new g

-- so it is with the table under the root that it has then
abbrev pub StoresUnder : Bool → Shown → Files → Under → ℕ → Pointer → Type 0
StoresUnder known old f blocks levels root = AreStanding old f → IsLed old f → AreLaid (under old) f → IsStored known old f → IsStoredUnder known blocks levels root

-- the tree of file n, which is in memory, failed
abbrev pub KeptFails : Type 0 → Shown → Shown → Files → ℕ → BlockFault → Type 0
KeptFails told old new f n e = (t : Tree) → tree_in f n ≡ Some t → Fails told (standing (under old) t) old new e

-- A file is held ready for a change: what is known of it is so, and its inode block and its tree are in memory.
pub record IsPrepared (told : Type 0) (source : Shown) (f : Files) (info : Info) : Type 0 where
  pub range : IsInfo info
  pub there : told → IsInfoOf (rooted source f.inode) info
  pub ready : IsReadyFile f.inode info.number
  pub kept : is_some (tree_in f info.number) ≡ true

-- A file is held ready for a change, where there is one: its inode block with the nodes over it, and its tree, as it is. The table is told
-- as before, also after a fault.
pub record Prepares (told : Type 0) (old new : Shown) (f g : Files) (info : Info) (result : Result Bool BlockFault) : Type 0 where
  pub same : told → IsTold old f new g
  pub alike : told → IsAlike (rooted old f.inode) (rooted new g.inode)
  pub stands : told → AreStanding old f → AreStanding new g
  pub stored : told → AreStanding old f → (known : Bool) → IsStored known old f → IsStored known new g
  pub led : told → KeepsLed old new f g
  pub leaves : told → AreStanding old f → LeavesTrees (loaded_trees (under old) f) (loaded_trees (under new) g)
  pub laid : told → AreStanding old f → AreLaid (under old) f → AreLaid (under new) g
  pub looks : Looks told (table_in old f) old new result
  pub found : told → IfOk result (λ there. there ≡ true)
  pub known : told → IsInfoOf (rooted new g.inode) info
  pub ready : IfOk result (λ there. there ≡ true → IsReadyFile g.inode info.number)
  pub kept : IfOk result (λ there. there ≡ true → is_some (tree_in g info.number) ≡ true)
  pub tree : (t : Tree) → tree_in g info.number ≡ Some t → standing (under old) t ≡ tree_known (table_in old f) info

-- ---- trees in memory

-- the tree to which the record of a file leads, of which nothing is in memory
pub record IsUnread (t : Tree) (info : Info) : Type 0 where
  pub is : (blocks : Under) → standing blocks t ≡ stored blocks info.number info.levels info.root
  pub stands : (blocks : Under) (used : ℕ → Option Use) → ReachesOnce used (stored blocks info.number info.levels info.root) → IsSound used (loaded_over blocks t)
  pub pending : pending t ≡ 0

-- The tree of a file is in memory: the one that was there, or else that to which its record leads. The others stay.
pub record Holds (m n : maps.BTreeMap ℕ Tree) (info : Info) : Type 0 where
  pub tree : Tree
  pub now : maps.get nat_cmp n info.number ≡ Some tree
  pub others : (k : ℕ) → k ≢ info.number → maps.get nat_cmp n k ≡ maps.get nat_cmp m k
  pub from : (maps.get nat_cmp m info.number ≡ Some tree) ⊎ ((maps.get nat_cmp m info.number ≡ None) × IsUnread tree info)

-- the tree of a number in memory became another; the others stay
pub record Becomes (m n : maps.BTreeMap ℕ Tree) (number : ℕ) (t u : Tree) : Type 0 where
  pub was : maps.get nat_cmp m number ≡ Some t
  pub now : maps.get nat_cmp n number ≡ Some u
  pub others : (k : ℕ) → k ≢ number → maps.get nat_cmp n k ≡ maps.get nat_cmp m k
  -- what all trees cost differs by what the one does
  pub sum : pending_trees n + pending t ≡ pending_trees m + pending u

-- A tree in memory got the cell, or it was left as it was.
pub record PutsKept (told : Type 0) (old new : Shown) (m n : maps.BTreeMap ℕ Tree) (number i s : ℕ) (block : List ℕ) (result : Result Unit BlockFault) : Type 0 where
  pub tree : Tree
  pub next : Tree
  pub becomes : Becomes m n number tree next
  pub owner : next.owner ≡ tree.owner
  pub written : told → OnOk result (Writes (standing (under old) tree) (standing (under new) next) i s block)
  pub stands : told → Stands old tree → Stands new next
  pub leads : told → LeadsNoMore (loaded old tree) (loaded new next)
  pub keeps : told → LeadsNoMore (loaded new next) (loaded old tree)
  pub stored_well : told → IsStoredWell (loaded old tree) → IsStoredWell (loaded new next)
  pub tells : told → TellsPlaces (loaded old tree) → TellsPlaces (loaded new next)
  -- each place got the stamp, or is as before; after a fault nothing changed
  pub alters : told → Alters s (loaded old tree) (loaded new next)
  pub leaves : told → OnErr result (Leaves (loaded old tree) (loaded new next))
  pub rises : Rises tree next 6 1
  pub failed : told → OnErr result (Remains (standing (under old) tree) (standing (under new) next))
  pub untouched : IsUntouched old new
  pub counts : Counts old new result
  pub cause : IfErr result (Fails told (standing (under old) tree) old new)

-- a tree in memory lost its cells from a length on, or it was left as it was
pub record CutsKept (told calls : Type 0) (old new : Shown) (m n : maps.BTreeMap ℕ Tree) (number length start s : ℕ) (result : Result ℕ BlockFault) : Type 0 where
  pub tree : Tree
  pub next : Tree
  pub becomes : Becomes m n number tree next
  pub pending : told → OnOk result (Stands old tree → HoldsCells (standing (under old) tree) → pending next ≤ pending tree + 3)
  pub removal : Removal told calls old new tree next (nat_le length) start s result
