-- Unknown pointers of a tree that is partly in memory: where they may stand, and which ones the next flush leaves or writes.
--
-- An example: a mark with an unknown pointer is changed in memory. The next flush places it, and leads to it by an unknown pointer, as that
-- is what the mark holds; so it goes on up to the root.
use Rattle.std.specs.Prelude.{◌≡◌, ◌≢◌, ◌<◌, ℕ, zero, suc, ◌+◌, ◌*◌, ◌/◌, Bool, true, false, not, ◌&&◌, ◌==◌, if◌then◌else◌, List, Option, Some, None, count_by}
use Rattle.std.specs.List.{list_any, range_with_len}
use Rattle.fv_model.specs.Trees.{fan, Spot}
use Rattle.fv_tables.specs.Told.{spots}
use Rattle.fv_tree.specs.Spelled.{Rooted, block_at, pointer_at}
use Rattle.fv_tree.specs.Flushing.{Loaded, has_unknown_root, is_unknown}

-- Under what didn't change an unknown pointer stands only where the pointer to it is unknown, too.
pub record LeadsUnknown (s : Loaded) : Type 0 where
  -- in a node, to what lies one level below
  pub nodes : (level place : ℕ) → (pointer_at s.tree level place).stamp ≢ 0 → (pointer_at s.tree level place).pvbn ≡ 0 → level < s.tree.levels → s.changed (level + 1) (place / fan) ≡ false
      → (pointer_at s.tree (level + 1) (place / fan)).pvbn ≡ 0
  -- in an inode block, to the root of a file
  pub roots : (place : ℕ) (block : List ℕ) → (pointer_at s.tree 0 place).stamp ≢ 0 → s.changed 0 place ≡ false → block_at s.tree place ≡ Some block → has_unknown_root s.tree.owner block ≡ true
      → (pointer_at s.tree 0 place).pvbn ≡ 0

-- No root of a file is unknown in an inode block that differs from its block on the disk.
abbrev pub KnowsRoots : Loaded → Type 0
KnowsRoots s = (place : ℕ) (block : List ℕ) → s.changed 0 place ≡ true → block_at s.tree place ≡ Some block → has_unknown_root s.tree.owner block ≡ false

-- The block of each cell that doesn't differ from its block on the disk is as before.
abbrev pub KeepsContents : Loaded → Loaded → Type 0
KeepsContents old new = (place : ℕ) (block : List ℕ) → (pointer_at new.tree 0 place).stamp ≢ 0 → new.changed 0 place ≡ false → block_at new.tree place ≡ Some block → block_at old.tree place ≡ Some block

-- ---- which unknown pointers there are after a flush

-- whether some root is unknown in an inode block, where there is one
abbrev pub unknown_root_in : ℕ → Option (List ℕ) → Bool
unknown_root_in owner None = false
unknown_root_in owner (Some block) = has_unknown_root owner block

-- whether some root is unknown in the block of a cell; to such a cell that changed the next flush writes an unknown pointer
abbrev pub asks_unknown : Rooted → ℕ → Bool
asks_unknown t place = unknown_root_in t.owner (block_at t place)

-- Whether the next flush leaves or writes an unknown pointer to a position. `asks` says to which of the cells that changed it writes one.
unfoldable pub will_be_unknown : Loaded → (ℕ → Bool) → ℕ → ℕ → Bool
will_be_unknown s asks zero place = if s.changed 0 place then asks place else is_unknown (pointer_at s.tree 0 place)
will_be_unknown s asks (suc level) place = if s.changed (suc level) place
    then list_any (λ slot. not ((pointer_at s.tree level (fan * place + slot)).stamp == 0) && will_be_unknown s asks level (fan * place + slot)) (range_with_len 0 fan)
    else is_unknown (pointer_at s.tree (suc level) place)

-- how many unknown pointers the tree has after the next flush, the one to its root among them
abbrev pub unknown_in : Loaded → (ℕ → Bool) → ℕ
unknown_in s asks = count_by (λ (p : Spot). not ((pointer_at s.tree p.0 p.1).stamp == 0) && will_be_unknown s asks p.0 p.1) (spots s.tree.levels)
