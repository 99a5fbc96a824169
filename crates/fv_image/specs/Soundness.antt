-- When an image is sound: each rule of the check as a test of every element of one list. A check has a line for a rule only where a
-- test of it fails, and looks at a rule only where the passes before it are clean.
--
-- | Rule | Tests |
-- |---|---|
-- | 1 shapes | `has_shapes` (BlockRules), `has_reached_shapes` (ReachRules) |
-- | 2 ranges | `are_in_range`, `has_entries_within` (BlockRules), `has_map_blocks`, `has_pointers_in_range` (ReachRules), `has_wide_spans` (VolumeRules) |
-- | 3 bases | `has_bases` (VolumeRules) |
-- | 4 names and positions | `has_distinct_names`, `has_distinct_snapshots` (VolumeRules), `is_in_position` (BlockRules), `has_distinct_files`, `has_reached_positions` (ReachRules) |
-- | 5 reach | `reaches_once` (ReachRules) |
-- | 6 volume maps | `has_maps_of_reach` (ReachRules) |
-- | 7 held once | `is_held_once` (BlockRules) |
-- | 8 aggregate map | `has_true_map` (BlockRules) |
-- | 9 kinds | `has_map_kinds`, `has_reached_kinds` (ReachRules) |
-- | 10 tables | `has_one_to_one`, `has_stamps_past`, `has_marks_over`, `has_cells_within`, `has_levels` (TableRules) |
-- | 11 hints | `has_true_hints` (HintRules) |
-- | 12 unknown pointers | `leads_unknown` (HintRules) |
-- | 13 labels and bases | `has_known_places`, `has_split_places`, `leaves_base`, `rests_on_base` (HintRules) |
-- | 14 space | `has_use_in_size`, `has_commits_in_capacity` (VolumeRules), `leaves_room` (Views) |
use Rattle.std.specs.Prelude.{◌≡◌, Bool, true, ◌&&◌}
use Rattle.fv_image.specs.Views.{View, leaves_room}
use Rattle.fv_image.specs.Held.{Layout}
use Rattle.fv_image.specs.Seen.{Seen, seen}
use Rattle.fv_image.specs.BlockRules.{has_shapes, are_in_range, has_entries_within, is_in_position, is_held_once, has_true_map}
use Rattle.fv_image.specs.ReachRules.{has_reached_shapes, has_pointers_in_range, has_reached_positions, has_distinct_files, reaches_once, has_maps_of_reach, has_map_blocks, has_map_kinds, has_reached_kinds}
use Rattle.fv_image.specs.TableRules.{has_one_to_one, has_stamps_past, has_marks_over, has_cells_within, has_levels}
use Rattle.fv_image.specs.HintRules.{has_true_hints, leads_unknown, has_known_places, has_split_places, leaves_base, rests_on_base}
use Rattle.fv_image.specs.VolumeRules.{has_wide_spans, has_bases, has_distinct_names, has_distinct_snapshots, has_use_in_size, has_commits_in_capacity}

-- what is asked of labels, containers and the aggregate map
pub record AreBlocks (y : Layout) : Type 0 where
  pub shapes : has_shapes y ≡ true
  pub ranges : are_in_range y ≡ true
  pub entries : has_entries_within y ≡ true
  pub positions : is_in_position y ≡ true
  pub once : is_held_once y ≡ true
  pub map : has_true_map y ≡ true

-- what is asked of the tables of all volumes, in an image or in a session whose trees are written
pub record AreTables (w : Seen) : Type 0 where
  pub shapes : has_reached_shapes w ≡ true
  pub ranges : has_pointers_in_range w ≡ true
  pub spans : has_wide_spans w ≡ true
  pub bases : has_bases w ≡ true
  pub snapshots : has_distinct_snapshots w ≡ true
  pub files : has_distinct_files w ≡ true
  pub positions : has_reached_positions w ≡ true
  pub once : reaches_once w ≡ true
  pub kinds : has_reached_kinds w ≡ true
  pub ids : has_one_to_one w ≡ true
  pub stamps : has_stamps_past w ≡ true
  pub marks : has_marks_over w ≡ true
  pub cells : has_cells_within w ≡ true
  pub levels : has_levels w ≡ true
  pub hints : has_true_hints w ≡ true
  pub unknown : leads_unknown w ≡ true
  pub known : has_known_places w ≡ true
  pub split : has_split_places w ≡ true
  pub leaves : leaves_base w ≡ true
  pub rests : rests_on_base w ≡ true
  pub sizes : has_use_in_size w ≡ true
  pub commits : has_commits_in_capacity w ≡ true

-- what is asked of volume maps
pub record AreMaps (w : View) : Type 0 where
  pub there : has_map_blocks w ≡ true
  pub reach : has_maps_of_reach w ≡ true
  pub kinds : has_map_kinds w ≡ true

-- an image is sound where all of these hold of its layout
pub record IsSound (y : Layout) : Type 0 where
  pub blocks : AreBlocks y
  pub tables : AreTables (seen y.view)
  pub maps : AreMaps y.view
  pub names : has_distinct_names y ≡ true
  pub room : leaves_room y.view 0 ≡ true

-- ---- the same, as tests

unfoldable pub are_blocks : Layout → Bool
are_blocks y = has_shapes y && (are_in_range y && (has_entries_within y && (is_in_position y && (is_held_once y && has_true_map y))))

unfoldable pub are_tables : Seen → Bool
are_tables w =
    has_reached_shapes w && (has_pointers_in_range w && (has_wide_spans w && (has_bases w && (has_distinct_snapshots w && (has_distinct_files w
    && (has_reached_positions w && (reaches_once w && (has_reached_kinds w && (has_one_to_one w && (has_stamps_past w && (has_marks_over w
    && (has_cells_within w && (has_levels w && (has_true_hints w && (leads_unknown w && (has_known_places w && (has_split_places w
    && (leaves_base w && (rests_on_base w && (has_use_in_size w && has_commits_in_capacity w))))))))))))))))))))

unfoldable pub are_maps : View → Bool
are_maps w = has_map_blocks w && (has_maps_of_reach w && has_map_kinds w)

unfoldable pub is_sound : Layout → Bool
is_sound y = are_blocks y && (are_tables (seen y.view) && (are_maps y.view && (has_distinct_names y && leaves_room y.view 0)))
