-- What a change does to the places of a tree.
--
-- An example: a file has the blocks 0 and 1 under one node. A write of block 0 with the stamp 7 gives the stamp 7 to block 0 and to the node,
-- and both differ from their blocks then. Block 1 leads where it did, and differs from its block only if it did.
use Rattle.std.specs.Prelude.{◌≡◌, ◌⊎◌, ℕ, true, false, Option}
use Rattle.fv_tree.specs.declared.kept.Tree.{Tree}
use Rattle.fv_tree.specs.Spelled.{Under, pointer_at}
use Rattle.fv_tree.specs.Sources.{Use}
use Rattle.fv_tree.specs.Flushing.{Loaded, loaded_over, IsSound}
use Rattle.fv_tree.specs.Leading.{LeadsNoMore}
use Rattle.fv_tree.specs.Stored.{IsStoredWell, TellsPlaces}
use Rattle.fv_tree.specs.Readying.{KeepsReady}

-- nothing leads to a place
abbrev pub IsHole : Loaded → ℕ → ℕ → Type 0
IsHole s level place = (pointer_at s.tree level place).stamp ≡ 0

-- a place has the stamp of a change, and differs from its block
pub record IsChanged (stamp : ℕ) (new : Loaded) (level place : ℕ) : Type 0 where
  pub stamped : (pointer_at new.tree level place).stamp ≡ stamp
  pub changed : new.changed level place ≡ true

-- a place has the pointer that it had, and differs from its block only if it did
pub record IsAsBefore (old new : Loaded) (level place : ℕ) : Type 0 where
  pub pointer : pointer_at new.tree level place ≡ pointer_at old.tree level place
  pub changed : new.changed level place ≡ old.changed level place

-- Nothing changed: the levels and the root are as before, and so is each place to which a pointer leads.
pub record Leaves (old new : Loaded) : Type 0 where
  pub levels : new.tree.levels ≡ old.tree.levels
  pub root : new.tree.root ≡ old.tree.root
  pub places : (level place : ℕ) → IsHole new level place ⊎ IsAsBefore old new level place

-- A change with this stamp: each place to which a pointer leads has the stamp and differs from its block, or is as before.
abbrev pub Alters : ℕ → Loaded → Loaded → Type 0
Alters stamp old new = (level place : ℕ) → IsHole new level place ⊎ (IsChanged stamp new level place ⊎ IsAsBefore old new level place)

-- A change with this stamp in memory alone. Over whatever blocks, a tree that stands on them still does, and leads to the same ones.
pub record AltersHeld (old new : Tree) (stamp : ℕ) : Type 0 where
  pub owner : new.owner ≡ old.owner
  pub levels : new.levels ≡ old.levels
  pub sound : (held : Under) (used : ℕ → Option Use) → IsSound used (loaded_over held old) → IsSound used (loaded_over held new)
  pub leads : (held : Under) → LeadsNoMore (loaded_over held old) (loaded_over held new)
  pub keeps : (held : Under) → LeadsNoMore (loaded_over held new) (loaded_over held old)
  pub stored_well : (held : Under) → IsStoredWell (loaded_over held old) → IsStoredWell (loaded_over held new)
  pub tells : (held : Under) → TellsPlaces (loaded_over held old) → TellsPlaces (loaded_over held new)
  pub keeps_ready : KeepsReady old new
  pub alters : (held : Under) → Alters stamp (loaded_over held old) (loaded_over held new)

-- a place that differed from its block was placed, under the stamp that it has and a VVBN that was free
pub record IsPlacedAnew (old : Loaded) (free : ℕ → Type 0) (new : Loaded) (level place : ℕ) : Type 0 where
  pub stamp : (pointer_at new.tree level place).stamp ≡ (pointer_at old.tree level place).stamp
  pub was : old.changed level place ≡ true
  pub done : new.changed level place ≡ false
  pub fresh : free (pointer_at new.tree level place).vvbn

-- A flush: each place to which a pointer leads was placed anew, or is as before. `free` says which VVBNs new blocks got.
abbrev pub PlacesAnew : Loaded → (ℕ → Type 0) → Loaded → Type 0
PlacesAnew old free new = (level place : ℕ) → IsHole new level place ⊎ (IsPlacedAnew old free new level place ⊎ IsAsBefore old new level place)
