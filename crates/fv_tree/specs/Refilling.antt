-- What another content for a cell does to a tree.
use Rattle.std.specs.Prelude.{◌≡◌, ◌≢◌, ◌≤◌, ℕ, ◌/◌, ◌^◌, Bool, false, cond, List, Some, None, is_some}
use Rattle.std.specs.Ordering.{nat_cmp}
use Rattle.std.specs.FinMap as fin
use Rattle.fv_codec.specs.declared.pointer.Pointer.{Pointer}
use Rattle.fv_codec.specs.Blocks.{all_holes}
use Rattle.fv_model.specs.Trees as trees
use Rattle.fv_model.specs.Trees.{fan}
use Rattle.fv_tree.specs.declared.kept.Tree.{Tree}
use Rattle.fv_tree.specs.Spelled.{Rooted, pointer_at, stamp_in, block_at}
use Rattle.fv_tree.specs.Standing.{node_in, Shows}

-- The content of cell i was replaced, where the cell stands. Every stamp and every other cell stays.
pub record IsRefilled (old new : Rooted) (i : ℕ) (block : List ℕ) (there : Bool) : Type 0 where
  pub stands : is_some (stamp_in (pointer_at old 0 i)) ≡ there
  pub levels : new.levels ≡ old.levels
  pub stamps : (level place : ℕ) → stamp_in (pointer_at new level place) ≡ stamp_in (pointer_at old level place)
  pub cell : block_at new i ≡ cond there (Some block) None
  pub blocks : (index : ℕ) → index ≢ i → block_at new index ≡ block_at old index

-- What a tree is seen as then: the same levels and stamps, and the cell's block.
abbrev pub Refills : Rooted → Rooted → ℕ → List ℕ → Bool → Type 0
Refills old new i block there =
    (seen : trees.Tree) (contents : fin.FinMap nat_cmp (List ℕ)) → Shows old seen contents → Shows new seen (cond there (fin.insert contents i block) contents)

-- a node leads somewhere, where it is in memory
abbrev pub IsFilled : Tree → ℕ → ℕ → Type 0
IsFilled t level place = (xs : List Pointer) → node_in t level place ≡ Some xs → all_holes xs ≡ false

-- so do the nodes over a cell
abbrev pub IsFilledWay : Tree → ℕ → Type 0
IsFilledWay t i = (level : ℕ) → 1 ≤ level → level ≤ t.levels → IsFilled t level (i / fan ^ level)
