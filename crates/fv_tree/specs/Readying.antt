-- A cell that is in memory with all nodes over it.
use Rattle.std.specs.Prelude.{◌≡◌, ◌≢◌, ◌≤◌, ◌<◌, ◌⊎◌, ℕ, ◌-◌, ◌/◌, ◌^◌, Bool, true, false, List, Option, Some, None, is_some}
use Rattle.std.specs.Ordering.{nat_cmp}
use Rattle.std.specs.BTreeMap as maps
use Rattle.fv_codec.specs.declared.pointer.Pointer.{Pointer}
use Rattle.fv_model.specs.Trees.{fan}
use Rattle.fv_tree.specs.declared.kept.Tree.{Tree}
use Rattle.fv_tree.specs.declared.kept.KeptCell.{KeptCell}
use Rattle.fv_tree.specs.Standing.{cell_in, IsSameButCells}
use Rattle.fv_tree.specs.Flushing.{pointer_in}

-- each pointer on the way to a cell leads somewhere, as the root and the nodes in memory have it
abbrev pub HoldsWay : Tree → ℕ → Type 0
HoldsWay t i = (level : ℕ) → level ≤ t.levels → (pointer_in t level (i / fan ^ level)).stamp ≢ 0

-- Cell i and the nodes over it are in memory, and each pointer on the way to it leads somewhere. Nothing is said of blocks.
pub record IsReady (t : Tree) (i : ℕ) : Type 0 where
  pub covers : i < fan ^ t.levels
  pub cell : is_some (cell_in t i) ≡ true
  pub way : HoldsWay t i

-- A cell is in memory with this content; it differs from its block, or not, and replaces one, or not.
pub record HasCell (held : Option KeptCell) (content : List ℕ) (differs replaces : Bool) : Type 0 where
  pub cell : KeptCell
  pub is : held ≡ Some cell
  pub block : cell.block.value ≡ content
  pub changed : cell.changed ≡ differs
  pub placed : cell.placed ≡ replaces

-- The content of cell i came into memory as its block has it, where it wasn't there.
pub record HoldsCell (old new : Tree) (i : ℕ) (block : List ℕ) : Type 0 where
  pub fields : IsSameButCells old new
  pub own : ((is_some (cell_in old i) ≡ true) × (maps.get nat_cmp new.cells i ≡ maps.get nat_cmp old.cells i))
      ⊎ ((maps.get nat_cmp old.cells i ≡ None) × HasCell (maps.get nat_cmp new.cells i) block false true)
  pub others : (j : ℕ) → j ≢ i → maps.get nat_cmp new.cells j ≡ maps.get nat_cmp old.cells j

-- The pointer over a cell from one level to the next, as the root and the nodes in memory have it. It leads somewhere only if the pointer
-- `over` it does.
pub record IsChildOver (t : Tree) (level i : ℕ) (over p : Pointer) : Type 0 where
  pub is : pointer_in t (level - 1) (i / fan ^ (level - 1)) ≡ p
  pub leads : p.stamp ≢ 0 → over.stamp ≢ 0

-- each cell that is ready stays so
abbrev pub KeepsReady : Tree → Tree → Type 0
KeepsReady old new = (i : ℕ) → IsReady old i → IsReady new i

-- so does each but one
abbrev pub KeepsOthersReady : Tree → Tree → ℕ → Type 0
KeepsOthersReady old new k = (i : ℕ) → i ≢ k → IsReady old i → IsReady new i
