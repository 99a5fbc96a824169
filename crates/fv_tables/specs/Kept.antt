-- When tables are told alike: where the same blocks stand under what is reached, and where blocks were only placed anew.
use Rattle.std.specs.Prelude.{◌≡◌, ◌≢◌, ℕ, Option, Some, None}
use Rattle.fv_codec.specs.declared.pointer.Pointer.{Pointer}
use Rattle.fv_codec.specs.declared.inode.InodeRecord.{InodeRecord}
use Rattle.fv_tables.specs.Spelled.{Under, Rooted, stored, pointer_at, stamp_in}
use Rattle.fv_tables.specs.Told.{Standing, standing_at, file_at, tree_of, AreTold}

-- the tree over other blocks
abbrev pub over : Under → Rooted → Rooted
over n t = record t { under = n }

-- other blocks agree with those of a tree wherever its pointers lead
abbrev pub AgreeOnTree : Rooted → Under → Type 0
AgreeOnTree t n = (level place : ℕ) → (pointer_at t level place).stamp ≢ 0 → n (pointer_at t level place).vvbn ≡ t.under (pointer_at t level place).vvbn

-- blocks agree wherever the pointers of a table lead that stands in the first
pub record AgreeOnTable (m n : Under) (levels : ℕ) (root : Pointer) : Type 0 where
  pub inode : AgreeOnTree (standing_at m levels root).inode n
  pub files : (number : ℕ) (r : InodeRecord) → file_at (standing_at m levels root).inode number ≡ Some r → AgreeOnTree (stored m number r.levels r.root) n

-- records that say the same of a file but for where its root lies
pub record SaysSame (r q : InodeRecord) : Type 0 where
  pub name_length : q.name_length ≡ r.name_length
  pub name : q.name ≡ r.name
  pub length : q.length ≡ r.length
  pub reserve : q.reserve ≡ r.reserve

-- a file of one table and that of another under the same number: none, or the same but for places
abbrev pub IsPlacedFile : Standing → Standing → ℕ → Option InodeRecord → Option InodeRecord → Type 0
IsPlacedFile x y n None None = Unit {0}
IsPlacedFile x y n (Some r) None = ⊥
IsPlacedFile x y n None (Some q) = ⊥
IsPlacedFile x y n (Some r) (Some q) = SaysSame r q × AreTold (tree_of x n r) (tree_of y n q)

-- The table y is x with blocks placed anew: its inode blocks may differ in what they say of places.
pub record IsPlacedTable (x y : Standing) : Type 0 where
  pub levels : y.inode.levels ≡ x.inode.levels
  pub stamps : (level place : ℕ) → stamp_in (pointer_at y.inode level place) ≡ stamp_in (pointer_at x.inode level place)
  pub files : (n : ℕ) → IsPlacedFile x y n (file_at x.inode n) (file_at y.inode n)
