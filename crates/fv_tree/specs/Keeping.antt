-- What a tree holds in memory, where that changes and the tree stays.
use Rattle.std.specs.Prelude.{◌≡◌, ◌≢◌, ◌⊎◌, ℕ, List, Some, None, get_or, length}
use Rattle.fv_codec.specs.declared.pointer.Pointer.{Pointer}
use Rattle.fv_tree.specs.Spelled.{Rooted, hole, pointers_at, pointer_at}

-- the same tree, with other nodes in memory, among them all those to which a pointer leads that were there
pub record IsSame (old new : Rooted) : Type 0 where
  pub under : new.under ≡ old.under
  pub owner : new.owner ≡ old.owner
  pub levels : new.levels ≡ old.levels
  pub root : new.root ≡ old.root
  pub cells : new.cells ≡ old.cells
  pub pointers : (level place : ℕ) → pointer_at new level place ≡ pointer_at old level place
  pub nodes : (level place : ℕ) → (pointer_at old level place).stamp ≢ 0 → new.nodes level place ≡ None → old.nodes level place ≡ None

-- a node is in memory; where nothing leads to it, it holds nothing
pub record IsKept (t : Rooted) (level place : ℕ) : Type 0 where
  pub pointers : List Pointer
  pub node : t.nodes level place ≡ Some pointers
  pub long : length pointers ≡ 128
  pub empty : (pointer_at t level place).stamp ≡ 0 → (slot : ℕ) → get_or pointers slot hole ≡ hole

-- The node of a position is in memory; where the source tells its blocks, it has the pointers of the node to which p leads.
pub record Spells (told : Type 0) (old new : Rooted) (level place : ℕ) (p : Pointer) : Type 0 where
  pub pointers : List Pointer
  pub node : new.nodes level place ≡ Some pointers
  pub long : length pointers ≡ 128
  pub children : told → (slot : ℕ) → get_or pointers slot hole ≡ get_or (pointers_at old level place p) slot hole

-- the nodes of all other levels are in memory as they were
abbrev pub KeepsBelow : Rooted → Rooted → ℕ → Type 0
KeepsBelow old new level = (k place : ℕ) → k ≢ level → new.nodes k place ≡ old.nodes k place

-- the node of a position comes into memory as its block spells it, or stays as it is
pub record Keeps (old new : Rooted) (level place : ℕ) (p : Pointer) : Type 0 where
  pub under : new.under ≡ old.under
  pub owner : new.owner ≡ old.owner
  pub levels : new.levels ≡ old.levels
  pub root : new.root ≡ old.root
  pub cells : new.cells ≡ old.cells
  pub others : (k q : ℕ) → (k ≢ level) ⊎ (q ≢ place) → new.nodes k q ≡ old.nodes k q
  pub own : (new.nodes level place ≡ old.nodes level place)
      ⊎ ((xs : List Pointer) × (new.nodes level place ≡ Some xs) × (length xs ≡ 128) × ((slot : ℕ) → get_or xs slot hole ≡ get_or (pointers_at old level place p) slot hole))
