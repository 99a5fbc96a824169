-- Which pointers a tree may be read by: those that tell no wrong place.
--
-- An example: the pointer to a node tells the place 40, and the node's block lies there. Then the node is read at 40. If the block lay at 41,
-- the source would give what lies at 40, which may be anything.
use Rattle.std.specs.Prelude.{◌≡◌, ◌≢◌, ◌≤◌, ◌<◌, ◌-◌, ◌^◌, ℕ, Bool, true, false, List, Some}
use Rattle.fv_codec.specs.declared.pointer.Pointer.{Pointer}
use Rattle.fv_model.specs.Trees.{fan}
use Rattle.fv_tree.specs.declared.kept.Tree.{Tree}
use Rattle.fv_tree.specs.Spelled.{pointer_at, pointers_in}
use Rattle.fv_tree.specs.Sources.{Shown}
use Rattle.fv_tree.specs.Standing.{standing, under}
use Rattle.fv_tree.specs.Flushing.{Leads, Loaded, loaded}

-- Each pointer of a tree that leads to a block is right.
abbrev pub AreRight : (ℕ → ℕ → Type 0) → Loaded → Type 0
AreRight right s = (level place v : ℕ) → Leads s level place v → right v (pointer_at s.tree level place).pvbn

-- So it is of a tree over what a source shows.
abbrev pub HasRightPlaces : Shown → Tree → Type 0
HasRightPlaces source t = AreRight source.right (loaded source t)

-- Where a tree didn't change it may be read by its pointers alone: each that leads to a block is right, and what is in memory and didn't
-- change stands in the block to which its pointer leads.
pub record MayRead (right : ℕ → ℕ → Type 0) (s : Loaded) : Type 0 where
  pub pointers : AreRight right s
  pub same : (level place : ℕ) (xs : List Pointer) → 1 ≤ level → s.tree.nodes level place ≡ Some xs → s.changed level place ≡ false → (pointer_at s.tree level place).stamp ≢ 0
      → (pointers_in (s.tree.under (pointer_at s.tree level place).vvbn) ≡ xs) × (s.placed level place ≡ true)
  pub cells : (index : ℕ) (block : List ℕ) → s.tree.cells index ≡ Some block → s.changed 0 index ≡ false → (pointer_at s.tree 0 index).stamp ≢ 0
      → (s.tree.under (pointer_at s.tree 0 index).vvbn ≡ Some block) × (s.placed 0 index ≡ true)

-- So it is with a tree over what a source shows.
abbrev pub IsReadable : Shown → Tree → Type 0
IsReadable source t = MayRead source.right (loaded source t)

-- A pointer is right, unless nothing is loaded by it: it is a hole, or what it leads to is taken from memory.
abbrev pub MayLoad : Shown → Bool → Pointer → Type 0
MayLoad source taken p = taken ≡ false → p.stamp ≢ 0 → source.right p.vvbn p.pvbn

-- A range of a level of the tree, with the pointer to it. The tree's pointers are right.
pub record IsPlaceOf (told : Type 0) (source : Shown) (t : Tree) (level place : ℕ) (p : Pointer) : Type 0 where
  pub high : level ≤ t.levels
  pub range : place < fan ^ (3 - level)
  pub pointer : told → p ≡ pointer_at (standing (under source) t) level place
  pub right : told → HasRightPlaces source t

-- A source is read by any pointer: it gives what a pointer's VVBN leads to whatever place the pointer tells, or nothing. It is said of all states
-- of a source, so a caller that places blocks between its loads needn't tell it again.
abbrev pub TrustsAll : {B : Type 0} → (B → Shown) → Type 0
TrustsAll {B} shown = (blocks : B) (v pvbn : ℕ) → (shown blocks).right v pvbn
