-- When an image is sound: a field for each rule of the check that an image of empty volumes can break. Each is a test of
-- all slots, nodes, entries or blocks. A check has a line for a rule only where its test fails, and looks at a rule only where
-- those before it are clean.
use Rattle.std.specs.Prelude.{◌≡◌, ℕ, ◌+◌, ◌*◌, Bool, true, not, ◌&&◌, ◌||◌, List, ◌∷◌, map, nat_le, ◌==◌}
use Rattle.std.specs.List.{list_all, range_with_len}
use Rattle.std.specs.Option.{option_map_or}
use Rattle.fv_codec.specs.declared.pointer.Pointer.{Pointer}
use Rattle.fv_model.specs.Machines.{capacity}
use Rattle.fv_model.specs.Space.{map_blocks, use_of, commit}
use Rattle.fv_image.specs.Layout.{block_bits}
use Rattle.fv_image.specs.Containers.{height_of}
use Rattle.fv_image.specs.Views.{Head, View, slots, kind_at, map_kind, entry_count, map_vvbn, volume_bit, sum_of_heads, leaves_room}
use Rattle.fv_image.specs.Volumes.{empty_volume_of}
use Rattle.fv_image.specs.Held.{Layout, held}
use Rattle.fv_image.specs.BlockRules.{is_place, all_labels, has_shapes, has_entries_within, is_in_position, is_held_once, has_true_map}
use Rattle.fv_image.specs.VolumeRules.{has_distinct_names}
use Rattle.fv_image.specs.HintRules.{is_unknown}

-- ---- what is asked of each slot in use

-- of each volume
abbrev pub all_heads : Layout → (ℕ → Head → Bool) → Bool
all_heads y test = list_all (λ s. option_map_or (test s) (y.view.head s) true) slots

-- ---- the rules

-- Ranges: each held block lies where a block of a volume can, each container has a root and the least height that covers
-- its entries, and each span has room for `most` and 256 more.
unfoldable pub is_in_range : Layout → Bool
is_in_range y = list_all (is_place y) (held y) && all_labels y (λ s l.
    not (l.container == 0) && ((l.height == height_of (entry_count l.span)) && nat_le (l.most + 256) l.span))

-- Volume maps against reach: a root that is a hole reaches no VVBN, so the active map of an empty volume is clear.
unfoldable pub has_true_maps : Layout → Bool
has_true_maps y = all_heads y (λ s h. list_all (λ v. not (volume_bit y.view s h.span 0 v)) (range_with_len 0 (block_bits * map_blocks h.span)))

-- Kinds: the blocks of the active map are there, as map blocks.
unfoldable pub has_true_kinds : Layout → Bool
has_true_kinds y = all_heads y (λ s h. list_all (λ k. kind_at (y.view.entry s (map_vvbn h.span 0 k)) == map_kind) (range_with_len 0 (map_blocks h.span)))

-- Levels: an inode file without cells has none.
unfoldable pub has_true_levels : Layout → Bool
has_true_levels y = all_heads y (λ s h. not (h.active.root.stamp == 0) || (h.active.levels == 0))

-- the pointers that stand in a label
abbrev pub pointers_of : Head → List Pointer
pointers_of h = h.active.root ∷ map (λ p. p.table.root) h.snapshots

-- A label's truth: where it says that all places are known, no pointer in it is unknown.
unfoldable pub has_true_labels : Layout → Bool
has_true_labels y = all_heads y (λ s h. not h.known || list_all (λ p. not (is_unknown p)) (pointers_of h))

-- Use: no volume uses more than its size.
unfoldable pub is_in_size : Layout → Bool
is_in_size y = all_heads y (λ s h. nat_le (use_of (empty_volume_of h)) h.size)

-- what all volumes commit together
unfoldable pub committed : View → ℕ
committed w = sum_of_heads w (λ s h. commit (empty_volume_of h))

-- Commits: they fit the capacity.
unfoldable pub is_in_capacity : Layout → Bool
is_in_capacity y = nat_le (committed y.view) (capacity y.view.blocks)

-- Room: the space rule holds when no event asks for more.
unfoldable pub has_room : Layout → Bool
has_room y = leaves_room y.view 0

-- an image is sound where all of these hold of its layout
pub record IsEmptySound (y : Layout) : Type 0 where
  pub shapes : has_shapes y ≡ true
  pub ranges : is_in_range y ≡ true
  pub entries : has_entries_within y ≡ true
  pub names : has_distinct_names y ≡ true
  pub positions : is_in_position y ≡ true
  pub maps : has_true_maps y ≡ true
  pub once : is_held_once y ≡ true
  pub map : has_true_map y ≡ true
  pub kinds : has_true_kinds y ≡ true
  pub levels : has_true_levels y ≡ true
  pub labels : has_true_labels y ≡ true
  pub sizes : is_in_size y ≡ true
  pub commits : is_in_capacity y ≡ true
  pub room : has_room y ≡ true
