-- What a write does to the nodes in memory.
use Rattle.std.specs.Prelude.{◌≡◌, ◌≢◌, ◌≤◌, ◌<◌, ◌⊎◌, ℕ, ◌+◌, ◌-◌, ◌/◌, ◌%◌, ◌^◌, List, Some, get_or, length, replicate, slice_set}
use Rattle.std.specs.Option.{option_map}
use Rattle.std.specs.Ordering.{nat_cmp}
use Rattle.std.specs.FinMap as fin
use Rattle.fv_codec.specs.declared.pointer.Pointer.{Pointer}
use Rattle.fv_model.specs.Trees as trees
use Rattle.fv_model.specs.Trees.{fan, levels_with, written}
use Rattle.fv_tree.specs.Spelled.{Rooted, hole, pointer_at, stamp_in, block_at}
use Rattle.fv_tree.specs.declared.kept.Tree.{Tree}
use Rattle.fv_tree.specs.Standing.{node_in, Shows}

-- a pointer with another stamp
abbrev pub stamped : Pointer → ℕ → Pointer
stamped p s = record { vvbn = p.vvbn; pvbn = p.pvbn; stamp = s }

-- pointers, one of which has another stamp
abbrev pub stamped_in : ℕ → ℕ → List Pointer → List Pointer
stamped_in slot s xs = slice_set xs slot (stamped (get_or xs slot hole) s)

-- the pointer of a node over a cell that leads to the cell, by the node's level
abbrev pub slot_of : ℕ → ℕ → ℕ
slot_of i level = i / fan ^ (level - 1) % fan

-- the root and each pointer on the way to a cell have this stamp, where their nodes are in memory
pub record Stamps (old new : Tree) (i s : ℕ) : Type 0 where
  pub owner : new.owner ≡ old.owner
  pub levels : new.levels ≡ old.levels
  pub cells : new.cells ≡ old.cells
  pub root : new.root ≡ stamped old.root s
  pub way : (level : ℕ) → 1 ≤ level → level ≤ old.levels → node_in new level (i / fan ^ level) ≡ option_map (stamped_in (slot_of i level) s) (node_in old level (i / fan ^ level))
  pub others : (level place : ℕ) → place ≢ i / fan ^ level → node_in new level place ≡ node_in old level place

-- a pointer to what has no block yet
abbrev pub new_child : ℕ → Pointer
new_child s = record { vvbn = 0; pvbn = 0; stamp = s }

-- the node of range 0 of a level that a growth made: it leads to what the tree held, on the lowest new level to its root
pub record IsGrownNode (old new : Tree) (s level : ℕ) : Type 0 where
  pub pointers : List Pointer
  pub node : node_in new level 0 ≡ Some pointers
  pub long : length pointers ≡ 128
  pub lowest : level ≡ old.levels + 1 → get_or pointers 0 hole ≡ old.root
  pub higher : level ≢ old.levels + 1 → get_or pointers 0 hole ≡ new_child s
  pub others : (slot : ℕ) → slot ≢ 0 → get_or pointers slot hole ≡ hole

-- the nodes of the old levels are in memory as they were, but for those over a cell past these levels
abbrev pub HasOldNodes : Tree → Tree → ℕ → Type 0
HasOldNodes old new i = (level place : ℕ) → level ≤ old.levels → place ≢ i / fan ^ level → node_in new level place ≡ node_in old level place

-- the nodes over a new cell are in memory, and where the tree holds cells, those of the new levels over them, too
pub record HasNewLevels (old new : Tree) (levels i s : ℕ) : Type 0 where
  pub old_nodes : HasOldNodes old new i
  pub way : (level : ℕ) → 1 ≤ level → level ≤ levels → (level < levels) ⊎ (old.root.stamp ≡ 0) → node_in new level (i / fan ^ level) ≡ Some (replicate 128 hole)
  pub grown : old.root.stamp ≢ 0 → (level : ℕ) → old.levels < level → level ≤ levels → IsGrownNode old new s level

-- a tree that has the same levels, cells and marks
pub record IsAlike (old new : Rooted) : Type 0 where
  pub levels : new.levels ≡ old.levels
  pub stamps : (level place : ℕ) → stamp_in (pointer_at new level place) ≡ stamp_in (pointer_at old level place)
  pub blocks : (index : ℕ) → block_at new index ≡ block_at old index

-- a change with the stamp s wrote cell i
pub record IsWritten (old new : Rooted) (i s : ℕ) (block : List ℕ) : Type 0 where
  pub levels : new.levels ≡ levels_with old.levels i
  pub more : old.levels ≤ new.levels
  -- the cell and the marks over it
  pub way : (level : ℕ) → level ≤ new.levels → stamp_in (pointer_at new level (i / fan ^ level)) ≡ Some s
  -- the marks that a growth makes over the cells that were there
  pub grown : old.root.stamp ≢ 0 → (level : ℕ) → old.levels < level → level ≤ new.levels → stamp_in (pointer_at new level 0) ≡ Some s
  -- all others
  pub others : (level place : ℕ) → place ≢ i / fan ^ level → (level ≤ old.levels) ⊎ ((place ≢ 0) ⊎ (old.root.stamp ≡ 0)) → stamp_in (pointer_at new level place) ≡ stamp_in (pointer_at old level place)
  pub cell : block_at new i ≡ Some block
  pub blocks : (index : ℕ) → index ≢ i → block_at new index ≡ block_at old index

-- What a tree is seen as once a change with the stamp s wrote cell i: the machine's write.
abbrev pub Writes : Rooted → Rooted → ℕ → ℕ → List ℕ → Type 0
Writes old new i s block =
    (seen : trees.Tree) (contents : fin.FinMap nat_cmp (List ℕ)) → Shows old seen contents → Shows new (written s i seen) (fin.insert contents i block)

-- a tree is seen as what it was
abbrev pub Remains : Rooted → Rooted → Type 0
Remains old new = (seen : trees.Tree) (contents : fin.FinMap nat_cmp (List ℕ)) → Shows old seen contents → Shows new seen contents
