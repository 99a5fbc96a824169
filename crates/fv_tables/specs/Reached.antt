-- What a table reaches: each pointer of it that isn't a hole, with its position and with the pointer to the block in which it stands.
use Rattle.std.specs.Prelude.{ℕ, ◌+◌, ◌/◌, Bool, nat_lt, List, [], ◌∷◌, ◌++◌, flat_map, Option, Some, None, ◌==◌, if◌then◌else◌}
use Rattle.std.specs.List.{list_any}
use Rattle.fv_codec.specs.declared.pointer.Pointer.{Pointer}
use Rattle.fv_codec.specs.declared.inode.InodeRecord.{InodeRecord}
use Rattle.fv_model.specs.Trees.{fan, Spot}
use Rattle.fv_tables.specs.Spelled.{Rooted, hole, pointer_at}
use Rattle.fv_tables.specs.Told.{Standing, records_each, spots, file_at, tree_of, numbers}

-- a pointer at a position of a tree
pub record Item : Type 0 where
  pub owner : ℕ
  -- of its tree
  pub levels : ℕ
  pub level : ℕ
  pub place : ℕ
  pub pointer : Pointer
  -- to the block in which it stands; a hole where it stands in a label
  pub holder : Pointer

-- the pointer to the block in which the pointer of a position stands: the node over it, or for the root what leads to the root's holder
abbrev pub holder_of : Pointer → Rooted → ℕ → ℕ → Pointer
holder_of top t level place = if nat_lt level t.levels then pointer_at t (level + 1) (place / fan) else top

abbrev pub item_of : Pointer → Rooted → ℕ → ℕ → Item
item_of top t level place = record {
  owner = t.owner;
  levels = t.levels;
  level = level;
  place = place;
  pointer = pointer_at t level place;
  holder = holder_of top t level place;
}

-- an item where something is reached
abbrev pub reached_one : Item → List Item
reached_one e = if e.pointer.stamp == 0 then [] else e ∷ []

-- what a tree reaches, where `top` leads to the block in which its root stands
unfoldable pub tree_items : Pointer → Rooted → List Item
tree_items top t = flat_map (λ (spot : Spot). reached_one (item_of top t spot.0 spot.1)) (spots t.levels)

-- what the tree of file n reaches
abbrev pub file_items : Standing → ℕ → Option InodeRecord → List Item
file_items x n None = []
file_items x n (Some r) = tree_items (pointer_at x.inode 0 (n / records_each)) (tree_of x n r)

-- what a table reaches: its inode file first, then its files by number
unfoldable pub items : Standing → List Item
items x = tree_items hole x.inode ++ flat_map (λ n. file_items x n (file_at x.inode n)) (numbers x)

-- whether a VVBN is reached
abbrev pub is_listed : List Item → ℕ → Bool
is_listed es v = list_any (λ e. e.pointer.vvbn == v) es
