-- What a change of a table, and what a flush, does to the places of its trees.
--
-- An example: a table has two files, each of one block. A write of the block of the first, with the stamp 7, gives the stamp 7 to that block
-- and to its inode block with the nodes over it; these differ from their blocks then. The tree of the second file stays, place by place. A
-- flush places what differs under the stamp 7 and VVBNs that were free, and leaves all else.
use Rattle.std.specs.Prelude.{◌≡◌, ◌⊎◌, ℕ, ◌/◌, true, false, Option, Some, None, Result, OnErr}
use Rattle.fv_disk.specs.declared.fault.BlockFault.{BlockFault}
use Rattle.fv_codec.specs.declared.inode.InodeRecord.{InodeRecord}
use Rattle.fv_tables.specs.Spelled.{Under}
use Rattle.fv_tables.specs.Told.{records_each, file_at}
use Rattle.fv_tree.specs.declared.kept.Tree.{Tree}
use Rattle.fv_tree.specs.Sources.{Shown}
use Rattle.fv_tree.specs.Standing.{standing, under}
use Rattle.fv_tree.specs.Flushing.{Loaded, IsPlaced, changed_of, loaded_over}
use Rattle.fv_tree.specs.Altering.{Alters, IsHole, Leaves, PlacesAnew}
use Rattle.fv_files.specs.declared.files.Files.{Files}
use Rattle.fv_files.specs.Apart.{Trees}
use Rattle.fv_files.specs.Tables.{tree_in, loaded_trees, AreStanding}

-- ---- a change

-- nothing leads to any place of a tree
abbrev pub IsBlankTree : Loaded → Type 0
IsBlankTree s = (level place : ℕ) → IsHole s level place

-- A change with this stamp left a tree. One that wasn't there before has no place.
abbrev pub AltersTo : ℕ → Option Loaded → Loaded → Type 0
AltersTo stamp None new = IsBlankTree new
AltersTo stamp (Some old) new = Alters stamp old new

abbrev pub AltersIn : ℕ → Option Loaded → Option Loaded → Type 0
AltersIn stamp old None = Unit {0}
AltersIn stamp old (Some new) = AltersTo stamp old new

-- Each place of each tree to which a pointer leads has the stamp and differs from its block, or is as before.
abbrev pub AltersTrees : ℕ → Trees → Trees → Type 0
AltersTrees stamp x y = (a : Option ℕ) → AltersIn stamp (x a) (y a)

-- nothing of a tree changed, and where none was there is none
abbrev pub LeavesIn : Option Loaded → Option Loaded → Type 0
LeavesIn None None = Unit {0}
LeavesIn None (Some new) = ⊥
LeavesIn (Some old) None = ⊥
LeavesIn (Some old) (Some new) = Leaves old new

abbrev pub LeavesTrees : Trees → Trees → Type 0
LeavesTrees x y = (a : Option ℕ) → LeavesIn (x a) (y a)

-- ---- a flush

-- `free` says which VVBNs new blocks got
abbrev pub PlacesIn : (ℕ → Type 0) → Option Loaded → Option Loaded → Type 0
PlacesIn free None None = Unit {0}
PlacesIn free None (Some new) = ⊥
PlacesIn free (Some old) None = ⊥
PlacesIn free (Some old) (Some new) = PlacesAnew old free new

-- Each place of each tree to which a pointer leads was placed anew, under the stamp that it had, or is as before.
abbrev pub PlacesTrees : (ℕ → Type 0) → Trees → Trees → Type 0
PlacesTrees free x y = (a : Option ℕ) → PlacesIn free (x a) (y a)

-- a block of one of the trees was placed under this VVBN
pub record IsPlacedIn (x y : Trees) (v : ℕ) : Type 0 where
  pub tree : Option ℕ
  pub old : Loaded
  pub new : Loaded
  pub was : x tree ≡ Some old
  pub now : y tree ≡ Some new
  pub placed : IsPlaced old new v

-- `keep` holds of each VVBN under which no block was placed
abbrev pub KeepsUnplaced : (ℕ → Type 0) → Trees → Trees → Type 0
KeepsUnplaced keep x y = (v : ℕ) → (IsPlacedIn x y v → ⊥) → keep v

-- ---- trees in memory and their records

-- A tree is as the record of its file says: it has that root and those levels, and no place of it to which a pointer leads differs from its
-- block.
pub record MatchesRecord (s : Loaded) (r : InodeRecord) : Type 0 where
  pub levels : s.tree.levels ≡ r.levels
  pub root : s.tree.root ≡ r.root
  pub still : (level place : ℕ) → IsHole s level place ⊎ (s.changed level place ≡ false)

-- Where a tree in memory isn't as its record says, its inode block differs from its block. So where a flush lays a root into an inode
-- block, that has changed already.
abbrev pub AreLaid : Under → Files → Type 0
AreLaid blocks f = (n : ℕ) (t : Tree) (r : InodeRecord) → tree_in f n ≡ Some t → file_at (standing blocks f.inode.tree) n ≡ Some r
    → (changed_of f.inode.tree 0 (n / records_each) ≡ true) ⊎ MatchesRecord (loaded_over blocks t) r

-- ---- calls

-- What a change with this stamp does to the trees of a table, whether it was done or failed. `well` is what is asked of the table beside
-- that it stands on its blocks, and `told` says whether content is told.
pub record AltersPlaces {T : Type 0} (told well : Type 0) (old new : Shown) (f g : Files) (stamp : ℕ) (result : Result T BlockFault) : Type 0 where
  pub alters : told → well → AreStanding old f → AltersTrees stamp (loaded_trees (under old) f) (loaded_trees (under new) g)
  -- after a fault nothing changed
  pub leaves : told → OnErr result (AreStanding old f → LeavesTrees (loaded_trees (under old) f) (loaded_trees (under new) g))
  pub laid : told → well → AreStanding old f → AreLaid (under old) f → AreLaid (under new) g

-- What a flush does to them, or a part of one, in every outcome.
pub record FlushesPlaces (told : Type 0) (free : ℕ → Type 0) (old new : Shown) (f g : Files) : Type 0 where
  pub anew : told → AreStanding old f → AreLaid (under old) f → PlacesTrees free (loaded_trees (under old) f) (loaded_trees (under new) g)
  pub laid : told → AreStanding old f → AreLaid (under old) f → AreLaid (under new) g

-- What a flush leaves under a VVBN, or a part of one, in every outcome: `keep` says what stays, and so it does where no block was placed.
abbrev pub FlushesKeep : Type 0 → (ℕ → Type 0) → Shown → Shown → Files → Files → Type 0
FlushesKeep told keep old new f g = told → AreStanding old f → AreLaid (under old) f → KeepsUnplaced keep (loaded_trees (under old) f) (loaded_trees (under new) g)
