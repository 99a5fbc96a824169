-- What the removal of a cell does to the nodes in memory.
use Rattle.std.specs.Prelude.{◌≡◌, ◌≢◌, ◌≤◌, ◌<◌, ◌⊎◌, ℕ, ◌+◌, ◌/◌, ◌^◌, true, cond, nat_eq, List, Option, Some, None, is_some, get_or, slice_set}
use Rattle.std.specs.Option.{option_map}
use Rattle.std.specs.BTreeMap as maps
use Rattle.fv_codec.specs.declared.pointer.Pointer.{Pointer}
use Rattle.fv_model.specs.Trees.{fan, spot_cmp}
use Rattle.fv_tree.specs.declared.kept.Tree.{Tree}
use Rattle.fv_tree.specs.Spelled.{Under, hole, pointer_at, stamp_in}
use Rattle.fv_tree.specs.Sources.{Use}
use Rattle.fv_tree.specs.Standing.{standing, node_in, cell_in}
use Rattle.fv_tree.specs.Writing.{stamped, stamped_in, slot_of}
use Rattle.fv_tree.specs.Erasing.{StandsAt, HoldsCells, IsErased}
use Rattle.fv_tree.specs.Releasing.{KeepsBlocks}
use Rattle.fv_tree.specs.Altering.{Alters}
use Rattle.fv_tree.specs.Costs.{cells_changed, cells_held}
use Rattle.fv_tree.specs.Flushing.{IsSound, loaded_over, placed_of, changed_in, changed_of, pointer_in}

-- the nodes over a cell are in memory
abbrev pub HasWay : Tree → ℕ → Type 0
HasWay t i = (level : ℕ) → 1 ≤ level → level ≤ t.levels → (xs : List Pointer) × (node_in t level (i / fan ^ level) ≡ Some xs)

-- a node leads to nothing but by one pointer, or it does
abbrev pub HasNoOther : List Pointer → ℕ → Type 0
HasNoOther xs slot = (other : ℕ) → other ≢ slot → (get_or xs other hole).stamp ≡ 0

abbrev pub HasOther : List Pointer → ℕ → Type 0
HasOther xs slot = (other : ℕ) × (other ≢ slot) × ((get_or xs other hole).stamp ≢ 0)

-- so many nodes over a cell, the lowest, lead to nothing but the cell, and the next one does
pub record AreBare (t : Tree) (i lost : ℕ) : Type 0 where
  pub few : lost ≤ t.levels
  pub bare : (level : ℕ) → 1 ≤ level → level ≤ lost → (xs : List Pointer) → node_in t level (i / fan ^ level) ≡ Some xs → HasNoOther xs (slot_of i level)
  pub other : lost < t.levels → (xs : List Pointer) → node_in t (lost + 1) (i / fan ^ (lost + 1)) ≡ Some xs → HasOther xs (slot_of i (lost + 1))

-- a pointer of a node is made a hole
abbrev pub cleared_in : ℕ → List Pointer → List Pointer
cleared_in slot xs = slice_set xs slot hole

-- the root and each pointer on the way to a cell, from a level up, have this stamp, where their nodes are in memory
pub record StampsAbove (old new : Tree) (i lowest s : ℕ) : Type 0 where
  pub owner : new.owner ≡ old.owner
  pub levels : new.levels ≡ old.levels
  pub cells : new.cells ≡ old.cells
  pub root : new.root ≡ stamped old.root s
  pub way : (level : ℕ) → lowest < level → level ≤ old.levels → node_in new level (i / fan ^ level) ≡ option_map (stamped_in (slot_of i level) s) (node_in old level (i / fan ^ level))
  pub others : (level place : ℕ) → (level ≤ lowest) ⊎ (place ≢ i / fan ^ level) → node_in new level place ≡ node_in old level place

-- nothing leads to so many nodes over a cell any more, the lowest, and what is above them has this stamp
pub record CutsWay (old new : Tree) (i lost s : ℕ) : Type 0 where
  pub owner : new.owner ≡ old.owner
  pub levels : new.levels ≡ old.levels
  pub root : new.root ≡ stamped old.root s
  pub lowest : node_in new (lost + 1) (i / fan ^ (lost + 1)) ≡ option_map (cleared_in (slot_of i (lost + 1))) (node_in old (lost + 1) (i / fan ^ (lost + 1)))
  pub above : (level : ℕ) → lost + 1 < level → level ≤ old.levels → node_in new level (i / fan ^ level) ≡ option_map (stamped_in (slot_of i level) s) (node_in old level (i / fan ^ level))
  pub others : (level place : ℕ) → place ≢ i / fan ^ level → node_in new level place ≡ node_in old level place

-- the cell and that many nodes over it are no longer led to, and the marks above them are stamped; where no mark is above them, the
-- tree is empty
pub record Unlinks (old new : Tree) (i lost start s : ℕ) : Type 0 where
  pub owner : new.owner ≡ old.owner
  pub levels : new.levels ≡ cond (nat_eq lost old.levels) start old.levels
  pub root : new.root ≡ cond (nat_eq lost old.levels) hole (stamped old.root s)
  pub lowest : lost < old.levels → node_in new (lost + 1) (i / fan ^ (lost + 1)) ≡ option_map (cleared_in (slot_of i (lost + 1))) (node_in old (lost + 1) (i / fan ^ (lost + 1)))
  pub above : (level : ℕ) → lost + 1 < level → level ≤ old.levels → node_in new level (i / fan ^ level) ≡ option_map (stamped_in (slot_of i level) s) (node_in old level (i / fan ^ level))
  pub others : lost < old.levels → (level place : ℕ) → place ≢ i / fan ^ level → node_in new level place ≡ node_in old level place
  -- what changed: those nodes above, and nothing else
  pub marked : (level : ℕ) → lost < level → level ≤ old.levels → changed_in new.nodes level (i / fan ^ level) ≡ true
  pub unmarked : lost < old.levels → (level place : ℕ) → place ≢ i / fan ^ level → changed_of new level place ≡ changed_of old level place
  -- the nodes that go are no longer in memory, nor is any where all go
  pub forgotten : (level : ℕ) → 1 ≤ level → level ≤ lost → node_in new level (i / fan ^ level) ≡ None
  pub emptied : lost ≡ old.levels → (level place : ℕ) → node_in new level place ≡ None
  pub cells : lost < old.levels → (index : ℕ) → index ≢ i → cell_in new index ≡ cell_in old index
  pub blocks : lost < old.levels → (level place : ℕ) → (lost < level) ⊎ (place ≢ i / fan ^ level) → placed_of new level place ≡ placed_of old level place

-- the VVBN of the block of a range over a cell
pub record IsNamed (t : Tree) (level i vvbn : ℕ) : Type 0 where
  pub block : placed_of t level (i / fan ^ level) ≡ true
  pub number : (pointer_in t level (i / fan ^ level)).vvbn ≡ vvbn

-- the VVBNs of the blocks of the cell and of the lowest nodes over it
pub record IsOnWay (t : Tree) (i lost vvbn : ℕ) : Type 0 where
  pub level : ℕ
  pub low : level < lost
  pub named : IsNamed t level i vvbn

-- those blocks are in use, each under a VVBN of its own
pub record NamesOnce (used : ℕ → Option Use) (t : Tree) (i lost : ℕ) : Type 0 where
  pub in_use : (level v : ℕ) → level < lost → IsNamed t level i v → is_some (used v) ≡ true
  pub once : (k l v : ℕ) → k < lost → l < lost → IsNamed t k i v → IsNamed t l i v → k ≡ l

-- a place lies over a cell
pub record IsOver (i level place : ℕ) : Type 0 where
  pub low : 1 ≤ level
  pub high : level ≤ 3
  pub over : place ≡ i / fan ^ level

-- Of what is in memory no more differs from its blocks, but for the nodes over a cell. No cell came into memory. The nodes stand in their order.
pub record MarksOnly (old new : Tree) (i : ℕ) : Type 0 where
  pub marks : (level place : ℕ) → changed_in new.nodes level place ≡ true → (changed_in old.nodes level place ≡ true) ⊎ IsOver i level place
  pub cells : cells_changed new.cells ≤ cells_changed old.cells
  pub held : cells_held new ≤ cells_held old
  pub ordered : maps.IsOrdered spot_cmp new.nodes

-- a cell that stood, and over which all nodes are in memory, was removed by a change with the stamp s
pub record CellGoes (blocks : Under) (old new : Tree) (i start s : ℕ) : Type 0 where
  pub erased : HoldsCells (standing blocks old) → IsErased (standing blocks old) (standing blocks new) (nat_eq i) start s
  pub cells : (k : ℕ) → stamp_in (pointer_at (standing blocks new) 0 k) ≡ cond (nat_eq i k) None (stamp_in (pointer_at (standing blocks old) 0 k))
  pub keeps : KeepsBlocks blocks old new
  pub sound : (used : ℕ → Option Use) → IsSound used (loaded_over blocks old) → IsSound used (loaded_over blocks new)
  -- the nodes over the other cells stay in memory
  pub ways : (k : ℕ) → StandsAt (standing blocks new) 0 k → HasWay old k → HasWay new k
  pub alters : Alters s (loaded_over blocks old) (loaded_over blocks new)
