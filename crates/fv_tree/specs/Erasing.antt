-- What a removal of cells does to a tree.
use Rattle.std.specs.Prelude.{◌≡◌, ◌≢◌, ◌≤◌, ℕ, ◌/◌, ◌^◌, Bool, true, false, cond, ◌&&◌, not, nat_eq, List, None, Some, is_some}
use Rattle.std.specs.List.{list_any}
use Rattle.std.specs.Ordering.{nat_cmp}
use Rattle.std.specs.FinMap as fin
use Rattle.fv_model.specs.Trees as trees
use Rattle.fv_model.specs.Trees.{fan, erased}
use Rattle.fv_tree.specs.Spelled.{Rooted, pointer_at, stamp_in, block_at}
use Rattle.fv_tree.specs.Standing.{Shows}

-- a cell or a mark stands
abbrev pub StandsAt : Rooted → ℕ → ℕ → Type 0
StandsAt t level place = (pointer_at t level place).stamp ≢ 0

-- no mark lies over holes alone
abbrev pub HoldsCells : Rooted → Type 0
HoldsCells t = (level place : ℕ) → StandsAt t level place → ((i : ℕ) → i / fan ^ level ≡ place → (pointer_at t 0 i).stamp ≡ 0) → ⊥

-- a change with the stamp s removed cells, those for which `gone` is true
pub record IsErased (old new : Rooted) (gone : ℕ → Bool) (start s : ℕ) : Type 0 where
  pub cells : (i : ℕ) → stamp_in (pointer_at new 0 i) ≡ cond (gone i) None (stamp_in (pointer_at old 0 i))
  pub blocks : (i : ℕ) → block_at new i ≡ cond (gone i) None (block_at old i)
  -- a mark goes with its last cell
  pub bare : (level place : ℕ) → ((i : ℕ) → i / fan ^ level ≡ place → StandsAt old 0 i → gone i ≡ true) → stamp_in (pointer_at new level place) ≡ None
  -- the other marks over a removed cell
  pub over : (level i j : ℕ) → level ≤ old.levels → StandsAt old 0 i → gone i ≡ false → StandsAt old 0 j → gone j ≡ true → j / fan ^ level ≡ i / fan ^ level
      → stamp_in (pointer_at new level (i / fan ^ level)) ≡ Some s
  -- all other marks
  pub others : (level place : ℕ) → ((i : ℕ) → i / fan ^ level ≡ place → StandsAt old 0 i → gone i ≡ false) → stamp_in (pointer_at new level place) ≡ stamp_in (pointer_at old level place)
  -- the levels stay where a cell is left or none went, and else go back to their start
  pub some : (i : ℕ) → StandsAt old 0 i → gone i ≡ false → new.levels ≡ old.levels
  pub none : ((i : ℕ) → StandsAt old 0 i → gone i ≡ false) → new.levels ≡ old.levels
  pub back : ((i : ℕ) → StandsAt old 0 i → gone i ≡ true) → (j : ℕ) → StandsAt old 0 j → new.levels ≡ start

-- ---- the machine's tree

-- each mark stands over a cell, and a tree without a cell has its start of levels
pub record IsGrownFrom (start : ℕ) (seen : trees.Tree) : Type 0 where
  pub marks : (level place : ℕ) → fin.get seen.stamps (level, place) ≢ None → (i : ℕ) × (i / fan ^ level ≡ place) × (fin.get seen.stamps (0, i) ≢ None)
  pub empty : ((i : ℕ) → fin.get seen.stamps (0, i) ≡ None) → seen.levels ≡ start

-- the cells of a tree that go, and those that are left, in any order
pub record IsSplit (seen : trees.Tree) (goes : ℕ → Bool) (gone left : List ℕ) : Type 0 where
  pub those : (i : ℕ) → list_any (nat_eq i) gone ≡ (is_some (fin.get seen.stamps (0, i)) && goes i)
  pub rest : (i : ℕ) → list_any (nat_eq i) left ≡ (is_some (fin.get seen.stamps (0, i)) && not (goes i))

-- What a tree is seen as once a change with the stamp s removed those cells: the machine's removal.
abbrev pub Erases : Rooted → Rooted → (ℕ → Bool) → ℕ → ℕ → Type 0
Erases old new goes start s =
    (seen : trees.Tree) (contents rest : fin.FinMap nat_cmp (List ℕ)) (gone left : List ℕ) → Shows old seen contents → IsGrownFrom start seen → IsSplit seen goes gone left
    → ((i : ℕ) → fin.get rest i ≡ cond (goes i) None (fin.get contents i)) → Shows new (erased s start gone left seen) rest
