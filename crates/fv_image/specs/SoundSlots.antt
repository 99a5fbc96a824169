-- What the rules on blocks and on maps ask of one slot by itself. With held blocks that are spaced they are all that those rules ask.
use Rattle.std.specs.Prelude.{◌≡◌, ◌≢◌, ◌<◌, ◌≤◌, ℕ, Bool, true, Some, Ok, ◌==◌}
use Rattle.std.specs.List.{list_all}
use Rattle.fv_disk.specs.Shown.{Image}
use Rattle.fv_codec.specs.declared.label.Label.{Label}
use Rattle.fv_codec.specs.Blocks.{label_at}
use Rattle.fv_image.specs.NewerRoot.{Taken}
use Rattle.fv_image.specs.Containers.{level_width, height_of, node_verdict, has_none_past, HasNonePast, IsWholeTree}
use Rattle.fv_image.specs.Views.{Head, View, head_of, kind_at, entry_count}
use Rattle.fv_image.specs.Held.{Lying, Layout, label_place, view_at}
use Rattle.fv_image.specs.BlockRules.{is_place}
use Rattle.fv_image.specs.Seen.{own_blocks}
use Rattle.fv_image.specs.Whole.{is_held_by}
use Rattle.fv_image.specs.Reclaimed.{IsNodeOf, IsEntryPlace, IsHeldPlace, IsAllocatable, entry_at}

-- whether the blocks that a volume has beside what its roots reach are there, with their kinds
abbrev pub has_maps_there : View → ℕ → Head → Bool
has_maps_there w s h = list_all (λ (b : ℕ × ℕ). kind_at (w.entry s b.0) == b.1) (own_blocks w.version h)

-- of a volume whose label says this: its container has a root and the height of its entries, each node that isn't absent is the one of its
-- position and has nothing past the entries, and its maps are there
pub record IsSoundVolume (y : Layout) (s : ℕ) (l : Label) : Type 0 where
  pub root : l.container ≢ 0
  pub height : l.height ≡ height_of (entry_count l.span)
  pub nodes : (level number : ℕ) (x : Lying) → level ≤ l.height → number < level_width (entry_count l.span) level → y.node s level number ≡ Some x → node_verdict level number x.block ≡ Ok tt
  pub ends : (level number : ℕ) (x : Lying) → level ≤ l.height → number < level_width (entry_count l.span) level → y.node s level number ≡ Some x → has_none_past (entry_count l.span) level number x.block ≡ true
  pub maps : has_maps_there y.view s (head_of l) ≡ true

-- of a slot: its label, where there is one, has its shape and names such a volume, and each block that it holds lies where a block of a
-- volume can
pub record IsSoundSlot (y : Layout) (s : ℕ) : Type 0 where
  pub volume : (x : Lying) → y.label s ≡ Some x → (l : Label) × (label_at x.block ≡ Ok l) × IsSoundVolume y s l
  pub places : (b : ℕ) → is_held_by y s b ≡ true → is_place y b ≡ true

-- a slot of one layout has what it has in another
pub record HasSameSlot (y z : Layout) (s : ℕ) : Type 0 where
  pub blocks : z.view.blocks ≡ y.view.blocks
  pub label : z.label s ≡ y.label s
  pub node : (level number : ℕ) → z.node s level number ≡ y.node s level number
  pub entry : (v : ℕ) → z.view.entry s v ≡ y.view.entry s v

-- ---- of an image

-- The label of a slot says this, its container has a root and the height of its entries, the tree is whole and has nothing past them, the
-- maps are there, and each block lies where a block of a volume can.
pub record IsStoredSlot (t : Taken) (i : Image) (s : ℕ) (l : Label) : Type 0 where
  pub some : label_place t s ≢ 0
  pub label : label_at (i (label_place t s)) ≡ Ok l
  pub root : l.container ≢ 0
  pub height : l.height ≡ height_of (entry_count l.span)
  pub tree : IsWholeTree i l.container l.height (entry_count l.span)
  pub ends : HasNonePast i l.container l.height (entry_count l.span)
  pub maps : has_maps_there (view_at t i) s (head_of l) ≡ true
  pub places : (b : ℕ) → IsHeldPlace t i s l b → IsAllocatable t.blocks b

-- Its label, the nodes and the blocks of entries are different blocks, and no two entries hold one block.
pub record AreDifferent (t : Taken) (i : Image) (s : ℕ) (l : Label) : Type 0 where
  pub label_node : IsNodeOf i l (label_place t s) → ⊥
  pub label_entry : IsEntryPlace i l (label_place t s) → ⊥
  pub node_entry : (b : ℕ) → IsNodeOf i l b → IsEntryPlace i l b → ⊥
  pub entries : (v w : ℕ) → v < w → w < entry_count l.span → (entry_at i l v).1 ≢ 0 → (entry_at i l w).1 ≢ 0 → (entry_at i l v).0 ≢ (entry_at i l w).0
