-- Where a pointer of a view comes from in which one block moved. It stands as it stood, or it stands in the block that moved: an inode
-- block that wasn't touched has the roots that it had, and a pointer in a node that was written anew may have another hint.
use Rattle.std.specs.Prelude.{◌≡◌, ◌≢◌, ◌⊎◌, ◌≤◌, ℕ, Option, Some, List, [], ◌∷◌, get_or}
use Rattle.fv_codec.specs.declared.pointer.Pointer.{Pointer}
use Rattle.fv_codec.specs.declared.inode.InodeRecord.{InodeRecord}
use Rattle.fv_tables.specs.Spelled.{Under, Rooted, stored, hole, pointers_in, pointer_at}
use Rattle.fv_tables.specs.Told.{standing_at, records_in, free_record, file_at}
use Rattle.fv_tables.specs.Reached.{Item}
use Rattle.fv_tables.specs.Alike.{hintless_item}

-- Pointer q stands where p stood, and the holder leads to that block. Either q is p, and its block isn't the one under v; or its block is
-- the one under v, and `Inside` says that q stands in it.
abbrev pub ComesFrom : (Pointer → Type 0) → ℕ → Pointer → Pointer → Pointer → Type 0
ComesFrom Inside v p q holder = ((q ≡ p) × ((holder.stamp ≡ 0) ⊎ (holder.vvbn ≢ v)))
    ⊎ ((holder.vvbn ≡ v) × ((holder.stamp ≢ 0) × Inside q))

-- an item and what it was
pub record IsPair (Inside : Pointer → Type 0) (v : ℕ) (e f : Item) : Type 0 where
  pub same : hintless_item f ≡ hintless_item e
  pub stands : f.pointer.stamp ≢ 0
  pub pointer : ComesFrom Inside v e.pointer f.pointer e.holder
  pub holder : (f.holder ≡ e.holder) ⊎ Inside f.holder

-- two lists, pair by pair
abbrev pub Beside : {X : Type 0} → (X → X → Type 0) → List X → List X → Type 0
Beside R [] [] = Unit {0}
Beside R [] (y ∷ ys) = ⊥
Beside R (x ∷ xs) [] = ⊥
Beside R (x ∷ xs) (y ∷ ys) = R x y × Beside R xs ys

-- where a node of a tree lies under v, what stands in that block now is inside
abbrev pub HasInside : Rooted → (Pointer → Type 0) → ℕ → Option (List ℕ) → Type 0
HasInside t Inside v block = (level place : ℕ) → 1 ≤ level → (pointer_at t level place).stamp ≢ 0 → (pointer_at t level place).vvbn ≡ v
    → (i : ℕ) → Inside (get_or (pointers_in block) i hole)

-- The same of a table, whose inode blocks hold the roots of files.
pub record SpellsInside (m : Under) (levels : ℕ) (root : Pointer) (Inside : Pointer → Type 0) (v : ℕ)
    (block : Option (List ℕ)) : Type 0 where
  pub nodes : HasInside (standing_at m levels root).inode Inside v block
  pub inodes : (place : ℕ) → (pointer_at (standing_at m levels root).inode 0 place).stamp ≢ 0
      → (pointer_at (standing_at m levels root).inode 0 place).vvbn ≡ v
      → (i : ℕ) → Inside (get_or (records_in block) i free_record).root
  pub file_nodes : (k : ℕ) (f : InodeRecord) → file_at (standing_at m levels root).inode k ≡ Some f
      → HasInside (stored m k f.levels f.root) Inside v block
