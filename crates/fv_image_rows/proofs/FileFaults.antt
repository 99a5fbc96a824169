-- Changes of one field of a sound image, each with the rule that refuses it and no rule of an earlier pass, as far as those compute (all but
-- the maps, spans, use and commits).
use Rattle.std.specs.Prelude.{◌≡◌, ◌++◌, ℕ, Bool, true, not, ◌&&◌, ◌==◌, if◌then◌else◌, List, ◌∷◌}
use Rattle.std.proofs.Common.{refl}
use Rattle.fv_disk.specs.Shown.{Image}
use Rattle.fv_codec.specs.Bytes.{zeros}
use Rattle.fv_image.specs.Held.{Layout, view_at, layout_at}
use Rattle.fv_image.specs.Seen.{Seen, seen}
use Rattle.fv_image.specs.ReachRules.{has_reached_shapes, has_pointers_in_range, has_reached_positions, has_distinct_files, reaches_once, has_maps_of_reach, has_map_blocks, has_map_kinds, has_reached_kinds}
use Rattle.fv_image.specs.BlockRules.{has_shapes, are_in_range, has_entries_within, is_in_position, is_held_once}
use Rattle.fv_image.specs.TableRules.{has_one_to_one, has_stamps_past, has_marks_over, has_cells_within, has_levels}
use Rattle.fv_image.specs.HintRules.{has_true_hints, leads_unknown, has_known_places, has_split_places, leaves_base, rests_on_base}
use Rattle.fv_image.specs.VolumeRules.{has_bases, has_distinct_names, has_distinct_snapshots}
use Rattle.fv_image_rows.proofs.Computing.{views_compute, bits_compute, layouts_compute, rules_compute}
use Rattle.fv_image_rows.proofs.FileVectors.{one_file, one_file_root, snapshot, snapshot_root, clone, clone_root, splitting, splitting_root, mirror, mirror_root}

-- an image with another block
abbrev pub with_block : ℕ → List ℕ → Image → Image
with_block at block i b = if b == at then block else i b

-- The rules of each pass, as far as they are computed: of the first on blocks and on what tables look at, and of the others on tables.
abbrev pub first_blocks : Layout → Bool
first_blocks y = has_shapes y && (are_in_range y && (has_entries_within y && (is_in_position y && (has_distinct_names y && has_map_blocks y.view))))

abbrev pub first_pass : Seen → Bool
first_pass w = has_bases w && has_distinct_snapshots w

abbrev pub second_pass : Seen → Bool
second_pass w = first_pass w && (has_reached_shapes w && (has_pointers_in_range w && (has_reached_positions w && (has_distinct_files w && reaches_once w))))

abbrev pub third_pass : Seen → Bool
third_pass w = second_pass w && (has_reached_kinds w && (has_one_to_one w && (has_stamps_past w && (has_marks_over w && (has_cells_within w && has_levels w)))))

abbrev pub last_pass : Seen → Bool
last_pass w = has_true_hints w && (leads_unknown w && (has_known_places w && (has_split_places w && (leaves_base w && rests_on_base w))))

-- whether an image passes the first, the first two and the first three
abbrev pub after_one : Layout → Bool
after_one y = first_blocks y && first_pass (seen y.view)

abbrev pub after_two : Layout → Bool
after_two y = first_blocks y && second_pass (seen y.view)

abbrev pub after_three : Layout → Bool
after_three y = first_blocks y && (third_pass (seen y.view) && (is_held_once y && has_map_kinds y.view))

-- Rule 1: an inode block with another mark.
abbrev pub no_inode_block : Layout
no_inode_block = layout_at one_file_root (with_block 7 (71 ∷ 86 ∷ 73 ∷ 78 ∷ 79 ∷ 68 ∷ 69 ∷ 83 ∷ (zeros 248 ++ (1 ∷ 102 ∷ (zeros 77 ++ (1 ∷ (zeros 23 ++ (1 ∷ (zeros 7 ++ (8 ∷ (zeros 7 ++ (2 ∷ zeros 3720))))))))))) one_file)

no_inode_block_refused : (after_one no_inode_block && not (has_reached_shapes (seen no_inode_block.view))) ≡ true
unfolding layouts_compute rules_compute
no_inode_block_refused = refl

-- Rule 1: a record with a byte in its name that no name has.
abbrev pub no_name : Layout
no_name = layout_at one_file_root (with_block 7 (70 ∷ 86 ∷ 73 ∷ 78 ∷ 79 ∷ 68 ∷ 69 ∷ 83 ∷ (zeros 248 ++ (1 ∷ 70 ∷ (zeros 77 ++ (1 ∷ (zeros 23 ++ (1 ∷ (zeros 7 ++ (8 ∷ (zeros 7 ++ (2 ∷ zeros 3720))))))))))) one_file)

no_name_refused : (after_one no_name && not (has_reached_shapes (seen no_name.view))) ≡ true
unfolding layouts_compute rules_compute
no_name_refused = refl

-- Rule 2: a VVBN that is the span.
abbrev pub past_span : Layout
past_span = layout_at one_file_root (with_block 7 (70 ∷ 86 ∷ 73 ∷ 78 ∷ 79 ∷ 68 ∷ 69 ∷ 83 ∷ (zeros 248 ++ (1 ∷ 102 ∷ (zeros 77 ++ (1 ∷ (zeros 22 ++ (16 ∷ (zeros 8 ++ (8 ∷ (zeros 7 ++ (2 ∷ zeros 3720))))))))))) one_file)

past_span_refused : (after_one past_span && not (has_pointers_in_range (seen past_span.view))) ≡ true
unfolding layouts_compute rules_compute
past_span_refused = refl

-- Rule 2: a PVBN that is the number of blocks.
abbrev pub past_blocks : Layout
past_blocks = layout_at one_file_root (with_block 7 (70 ∷ 86 ∷ 73 ∷ 78 ∷ 79 ∷ 68 ∷ 69 ∷ 83 ∷ (zeros 248 ++ (1 ∷ 102 ∷ (zeros 77 ++ (1 ∷ (zeros 23 ++ (1 ∷ (zeros 6 ++ (4 ∷ (zeros 8 ++ (2 ∷ zeros 3720))))))))))) one_file)

past_blocks_refused : (after_one past_blocks && not (has_pointers_in_range (seen past_blocks.view))) ≡ true
unfolding layouts_compute rules_compute
past_blocks_refused = refl

-- Rule 3: a parent whose places aren't known.
abbrev pub unknown_parent : Layout
unknown_parent = layout_at clone_root (with_block 18 (70 ∷ 86 ∷ 76 ∷ 65 ∷ 66 ∷ 69 ∷ 76 ∷ 48 ∷ (zeros 7 ++ (1 ∷ 97 ∷ (zeros 78 ++ (100 ∷ (zeros 7 ++ (200 ∷ (zeros 6 ++ (16 ∷ (zeros 8 ++ (3 ∷ (zeros 39 ++ (17 ∷ (zeros 7 ++ (1 ∷ (zeros 15 ++ (1 ∷ (zeros 7 ++ (8 ∷ (zeros 7 ++ (3 ∷ (zeros 63 ++ (1 ∷ 115 ∷ (zeros 86 ++ (7 ∷ (zeros 7 ++ (2 ∷ zeros 3736))))))))))))))))))))))))))) clone)

unknown_parent_refused : not (has_bases (seen unknown_parent.view)) ≡ true
unfolding layouts_compute rules_compute
unknown_parent_refused = refl

-- Rule 3: a base snapshot in a slot that is free.
abbrev pub no_snapshot : Layout
no_snapshot = layout_at clone_root (with_block 23 (70 ∷ 86 ∷ 76 ∷ 65 ∷ 66 ∷ 69 ∷ 76 ∷ 48 ∷ (zeros 7 ++ (1 ∷ 99 ∷ (zeros 70 ++ (2 ∷ (zeros 7 ++ (100 ∷ (zeros 7 ++ (200 ∷ (zeros 6 ++ (16 ∷ (zeros 8 ++ (4 ∷ (zeros 7 ++ (1 ∷ (zeros 7 ++ (2 ∷ (zeros 15 ++ (1 ∷ (zeros 7 ++ (22 ∷ (zeros 7 ++ (1 ∷ (zeros 15 ++ (1 ∷ (zeros 7 ++ (11 ∷ (zeros 7 ++ (4 ∷ zeros 3896))))))))))))))))))))))))))))) clone)

no_snapshot_refused : not (has_bases (seen no_snapshot.view)) ≡ true
unfolding layouts_compute rules_compute
no_snapshot_refused = refl

-- Rule 4: an inode block with another index.
abbrev pub other_index : Layout
other_index = layout_at one_file_root (with_block 7 (70 ∷ 86 ∷ 73 ∷ 78 ∷ 79 ∷ 68 ∷ 69 ∷ 83 ∷ (zeros 7 ++ (1 ∷ (zeros 240 ++ (1 ∷ 102 ∷ (zeros 77 ++ (1 ∷ (zeros 23 ++ (1 ∷ (zeros 7 ++ (8 ∷ (zeros 7 ++ (2 ∷ zeros 3720))))))))))))) one_file)

other_index_refused : (after_one other_index && not (has_reached_positions (seen other_index.view))) ≡ true
unfolding layouts_compute rules_compute
other_index_refused = refl

-- Rule 4: two files of one name.
abbrev pub two_names : Layout
two_names = layout_at one_file_root (with_block 7 (70 ∷ 86 ∷ 73 ∷ 78 ∷ 79 ∷ 68 ∷ 69 ∷ 83 ∷ (zeros 248 ++ (1 ∷ 102 ∷ (zeros 77 ++ (1 ∷ (zeros 23 ++ (1 ∷ (zeros 7 ++ (8 ∷ (zeros 7 ++ (2 ∷ (zeros 120 ++ (1 ∷ 102 ∷ zeros 3598))))))))))))) one_file)

two_names_refused : (after_one two_names && not (has_distinct_files (seen two_names.view))) ≡ true
unfolding layouts_compute rules_compute
two_names_refused = refl

-- Rule 5: a file whose cell is its own inode block.
abbrev pub reached_twice : Layout
reached_twice = layout_at one_file_root (with_block 7 (70 ∷ 86 ∷ 73 ∷ 78 ∷ 79 ∷ 68 ∷ 69 ∷ 83 ∷ (zeros 248 ++ (1 ∷ 102 ∷ (zeros 77 ++ (1 ∷ (zeros 31 ++ (8 ∷ (zeros 7 ++ (2 ∷ zeros 3720))))))))) one_file)

reached_twice_refused : (after_one reached_twice && not (reaches_once (seen reached_twice.view))) ≡ true
unfolding layouts_compute rules_compute
reached_twice_refused = refl

-- Rule 5: a pointer to a hole.
abbrev pub reached_hole : Layout
reached_hole = layout_at one_file_root (with_block 7 (70 ∷ 86 ∷ 73 ∷ 78 ∷ 79 ∷ 68 ∷ 69 ∷ 83 ∷ (zeros 248 ++ (1 ∷ 102 ∷ (zeros 77 ++ (1 ∷ (zeros 23 ++ (2 ∷ (zeros 7 ++ (8 ∷ (zeros 7 ++ (2 ∷ zeros 3720))))))))))) one_file)

reached_hole_refused : (after_one reached_hole && not (reaches_once (seen reached_hole.view))) ≡ true
unfolding layouts_compute rules_compute
reached_hole_refused = refl

-- Rule 9: an inode block under an entry for data.
abbrev pub inode_as_data : Layout
inode_as_data = layout_at one_file_root (with_block 10 (70 ∷ 86 ∷ 67 ∷ 76 ∷ 69 ∷ 65 ∷ 70 ∷ 48 ∷ (zeros 1023 ++ (7 ∷ 0 ∷ 0 ∷ 0 ∷ 1 ∷ (zeros 7 ++ (8 ∷ 0 ∷ 0 ∷ 0 ∷ 1 ∷ zeros 3048))))) one_file)

inode_as_data_refused : (after_two inode_as_data && not (has_reached_kinds (seen inode_as_data.view))) ≡ true
unfolding layouts_compute rules_compute
inode_as_data_refused = refl

-- Rule 9: data under an entry for a node.
abbrev pub data_as_node : Layout
data_as_node = layout_at one_file_root (with_block 10 (70 ∷ 86 ∷ 67 ∷ 76 ∷ 69 ∷ 65 ∷ 70 ∷ 48 ∷ (zeros 1023 ++ (7 ∷ 0 ∷ 0 ∷ 0 ∷ 5 ∷ (zeros 7 ++ (8 ∷ 0 ∷ 0 ∷ 0 ∷ 2 ∷ zeros 3048))))) one_file)

data_as_node_refused : (after_two data_as_node && not (has_reached_kinds (seen data_as_node.view))) ≡ true
unfolding layouts_compute rules_compute
data_as_node_refused = refl

-- Rule 10: a cell at the length.
abbrev pub at_length : Layout
at_length = layout_at one_file_root (with_block 7 (70 ∷ 86 ∷ 73 ∷ 78 ∷ 79 ∷ 68 ∷ 69 ∷ 83 ∷ (zeros 248 ++ (1 ∷ 102 ∷ (zeros 101 ++ (1 ∷ (zeros 7 ++ (8 ∷ (zeros 7 ++ (2 ∷ zeros 3720))))))))) one_file)

at_length_refused : (after_two at_length && not (has_cells_within (seen at_length.view))) ≡ true
unfolding layouts_compute rules_compute
at_length_refused = refl

-- Rule 10: a stamp above the last.
abbrev pub past_now : Layout
past_now = layout_at one_file_root (with_block 13 (70 ∷ 86 ∷ 76 ∷ 65 ∷ 66 ∷ 69 ∷ 76 ∷ 48 ∷ (zeros 7 ++ (1 ∷ 97 ∷ (zeros 78 ++ (100 ∷ (zeros 7 ++ (200 ∷ (zeros 6 ++ (16 ∷ (zeros 8 ++ (1 ∷ (zeros 31 ++ (1 ∷ (zeros 7 ++ (12 ∷ (zeros 7 ++ (1 ∷ (zeros 23 ++ (7 ∷ (zeros 7 ++ (2 ∷ zeros 3896))))))))))))))))))))) one_file)

past_now_refused : (after_two past_now && not (has_stamps_past (seen past_now.view))) ≡ true
unfolding layouts_compute rules_compute
past_now_refused = refl

-- Rule 10: levels below those of the reserve.
abbrev pub below_start : Layout
below_start = layout_at one_file_root (with_block 7 (70 ∷ 86 ∷ 73 ∷ 78 ∷ 79 ∷ 68 ∷ 69 ∷ 83 ∷ (zeros 248 ++ (1 ∷ 102 ∷ (zeros 77 ++ (1 ∷ (zeros 7 ++ (200 ∷ (zeros 15 ++ (1 ∷ (zeros 7 ++ (8 ∷ (zeros 7 ++ (2 ∷ zeros 3720))))))))))))) one_file)

below_start_refused : (after_two below_start && not (has_levels (seen below_start.view))) ≡ true
unfolding layouts_compute rules_compute
below_start_refused = refl

-- Rule 10: a file with levels and without cells.
abbrev pub no_cells : Layout
no_cells = layout_at one_file_root (with_block 7 (70 ∷ 86 ∷ 73 ∷ 78 ∷ 79 ∷ 68 ∷ 69 ∷ 83 ∷ (zeros 248 ++ (1 ∷ 102 ∷ (zeros 77 ++ (1 ∷ (zeros 15 ++ (1 ∷ zeros 3744))))))) one_file)

no_cells_refused : (after_two no_cells && not (has_levels (seen no_cells.view))) ≡ true
unfolding layouts_compute rules_compute
no_cells_refused = refl

-- Rule 10: one id under two VVBNs, in the active table and in a snapshot.
abbrev pub one_id : Layout
one_id = layout_at snapshot_root (with_block 8 (70 ∷ 86 ∷ 73 ∷ 78 ∷ 79 ∷ 68 ∷ 69 ∷ 83 ∷ (zeros 248 ++ (1 ∷ 102 ∷ (zeros 77 ++ (1 ∷ (zeros 23 ++ (3 ∷ (zeros 7 ++ (10 ∷ (zeros 7 ++ (2 ∷ zeros 3720))))))))))) snapshot)

one_id_refused : (after_two one_id && not (has_one_to_one (seen one_id.view))) ≡ true
unfolding layouts_compute rules_compute
one_id_refused = refl

-- Rule 10: two ids under one VVBN, in the active table and in a snapshot.
abbrev pub two_ids : Layout
two_ids = layout_at mirror_root (with_block 16 (70 ∷ 86 ∷ 76 ∷ 65 ∷ 66 ∷ 69 ∷ 76 ∷ 48 ∷ (zeros 7 ++ (1 ∷ 97 ∷ (zeros 78 ++ (100 ∷ (zeros 7 ++ (200 ∷ (zeros 6 ++ (16 ∷ (zeros 8 ++ (2 ∷ (zeros 31 ++ (1 ∷ (zeros 7 ++ (15 ∷ (zeros 7 ++ (1 ∷ (zeros 23 ++ (7 ∷ (zeros 7 ++ (2 ∷ (zeros 63 ++ (1 ∷ 115 ∷ (zeros 86 ++ (7 ∷ (zeros 7 ++ (1 ∷ zeros 3736))))))))))))))))))))))))))) mirror)

two_ids_refused : (after_two two_ids && not (has_one_to_one (seen two_ids.view))) ≡ true
unfolding layouts_compute rules_compute
two_ids_refused = refl

-- Rule 11: a hint to another block.
abbrev pub other_place : Layout
other_place = layout_at one_file_root (with_block 7 (70 ∷ 86 ∷ 73 ∷ 78 ∷ 79 ∷ 68 ∷ 69 ∷ 83 ∷ (zeros 248 ++ (1 ∷ 102 ∷ (zeros 77 ++ (1 ∷ (zeros 23 ++ (1 ∷ (zeros 7 ++ (9 ∷ (zeros 7 ++ (2 ∷ zeros 3720))))))))))) one_file)

other_place_refused : (after_three other_place && not (has_true_hints (seen other_place.view))) ≡ true
unfolding layouts_compute rules_compute
other_place_refused = refl

-- Rule 11: a root with a hint to another block.
abbrev pub other_root : Layout
other_root = layout_at one_file_root (with_block 13 (70 ∷ 86 ∷ 76 ∷ 65 ∷ 66 ∷ 69 ∷ 76 ∷ 48 ∷ (zeros 7 ++ (1 ∷ 97 ∷ (zeros 78 ++ (100 ∷ (zeros 7 ++ (200 ∷ (zeros 6 ++ (16 ∷ (zeros 8 ++ (2 ∷ (zeros 31 ++ (1 ∷ (zeros 7 ++ (12 ∷ (zeros 7 ++ (1 ∷ (zeros 23 ++ (8 ∷ (zeros 7 ++ (2 ∷ zeros 3896))))))))))))))))))))) one_file)

other_root_refused : (after_three other_root && not (has_true_hints (seen other_root.view))) ≡ true
unfolding layouts_compute rules_compute
other_root_refused = refl

-- Rule 12: a known root of an inode block with an unknown pointer.
abbrev pub over_unknown : Layout
over_unknown = layout_at one_file_root (with_block 7 (70 ∷ 86 ∷ 73 ∷ 78 ∷ 79 ∷ 68 ∷ 69 ∷ 83 ∷ (zeros 248 ++ (1 ∷ 102 ∷ (zeros 77 ++ (1 ∷ (zeros 23 ++ (1 ∷ (zeros 15 ++ (2 ∷ zeros 3720))))))))) one_file)

over_unknown_refused : (after_three over_unknown && not (leads_unknown (seen over_unknown.view))) ≡ true
unfolding layouts_compute rules_compute
over_unknown_refused = refl

-- Rule 12: the same, in a mirror.
abbrev pub known_root : Layout
known_root = layout_at mirror_root (with_block 21 (70 ∷ 86 ∷ 76 ∷ 65 ∷ 66 ∷ 69 ∷ 76 ∷ 48 ∷ (zeros 7 ++ (1 ∷ 119 ∷ (zeros 70 ++ (2 ∷ (zeros 7 ++ (100 ∷ (zeros 7 ++ (200 ∷ (zeros 6 ++ (16 ∷ (zeros 8 ++ (2 ∷ (zeros 39 ++ (20 ∷ (zeros 7 ++ (1 ∷ (zeros 23 ++ (9 ∷ (zeros 7 ++ (2 ∷ zeros 3896))))))))))))))))))))) mirror)

known_root_refused : (after_three known_root && not (leads_unknown (seen known_root.view))) ≡ true
unfolding layouts_compute rules_compute
known_root_refused = refl

-- Rule 13: an unknown pointer where all places are said to be known.
abbrev pub not_known : Layout
not_known = layout_at one_file_root (with_block 7 (70 ∷ 86 ∷ 73 ∷ 78 ∷ 79 ∷ 68 ∷ 69 ∷ 83 ∷ (zeros 248 ++ (1 ∷ 102 ∷ (zeros 77 ++ (1 ∷ (zeros 23 ++ (1 ∷ (zeros 15 ++ (2 ∷ zeros 3720))))))))) one_file)

not_known_refused : (after_three not_known && not (has_known_places (seen not_known.view))) ≡ true
unfolding layouts_compute rules_compute
not_known_refused = refl

-- Rule 13: a known pointer in the label of a volume that is being split.
abbrev pub split_label : Layout
split_label = layout_at splitting_root (with_block 20 (70 ∷ 86 ∷ 76 ∷ 65 ∷ 66 ∷ 69 ∷ 76 ∷ 48 ∷ (zeros 7 ++ (1 ∷ 99 ∷ (zeros 70 ++ (2 ∷ (zeros 7 ++ (100 ∷ (zeros 7 ++ (200 ∷ (zeros 6 ++ (16 ∷ (zeros 8 ++ (3 ∷ (zeros 7 ++ (1 ∷ (zeros 7 ++ (1 ∷ (zeros 7 ++ (1 ∷ (zeros 15 ++ (19 ∷ (zeros 7 ++ (1 ∷ (zeros 23 ++ (7 ∷ (zeros 7 ++ (2 ∷ zeros 3896))))))))))))))))))))))))))) splitting)

split_label_refused : (after_three split_label && not (has_split_places (seen split_label.view))) ≡ true
unfolding layouts_compute rules_compute
split_label_refused = refl

-- Rule 13: a clone with an entry under what its base reaches. (That block has no bit in the aggregate map, of which this row says nothing.)
abbrev pub own_under_base : Layout
own_under_base = layout_at clone_root (with_block 20 (70 ∷ 86 ∷ 67 ∷ 76 ∷ 69 ∷ 65 ∷ 70 ∷ 48 ∷ (zeros 1023 ++ (24 ∷ 0 ∷ 0 ∷ 0 ∷ 5 ∷ (zeros 7 ++ (11 ∷ 0 ∷ 0 ∷ 0 ∷ 5 ∷ (zeros 19 ++ (12 ∷ 0 ∷ 0 ∷ 0 ∷ 1 ∷ zeros 3024))))))) clone)

own_under_base_refused : (after_three own_under_base && not (leaves_base (seen own_under_base.view))) ≡ true
unfolding layouts_compute rules_compute
own_under_base_refused = refl

-- Rule 13: a clone on a block that only its parent's active table holds. (Its own entry went, and the bits of both maps stay.)
abbrev pub on_active : Layout
on_active = layout_at clone_root (with_block 20 (70 ∷ 86 ∷ 67 ∷ 76 ∷ 69 ∷ 65 ∷ 70 ∷ 48 ∷ (zeros 1035 ++ (11 ∷ 0 ∷ 0 ∷ 0 ∷ 5 ∷ zeros 3048))) (with_block 11 (70 ∷ 86 ∷ 73 ∷ 78 ∷ 79 ∷ 68 ∷ 69 ∷ 83 ∷ (zeros 248 ++ (1 ∷ 102 ∷ (zeros 77 ++ (1 ∷ (zeros 23 ++ (3 ∷ (zeros 7 ++ (10 ∷ (zeros 7 ++ (4 ∷ zeros 3720))))))))))) clone))

on_active_refused : (after_three on_active && not (rests_on_base (seen on_active.view))) ≡ true
unfolding layouts_compute rules_compute
on_active_refused = refl

-- ---- volume maps

-- Rule 6: a bit of a VVBN that isn't reached.
abbrev pub bit_too_many : Layout
bit_too_many = layout_at one_file_root (with_block 9 (7 ∷ zeros 4095) one_file)

bit_too_many_refused : (after_two bit_too_many && not (has_maps_of_reach bit_too_many.view)) ≡ true
unfolding bits_compute layouts_compute rules_compute has_maps_of_reach
bit_too_many_refused = refl

-- Rule 6: no bit of a VVBN that is.
abbrev pub bit_too_few : Layout
bit_too_few = layout_at one_file_root (with_block 9 (1 ∷ zeros 4095) one_file)

bit_too_few_refused : (after_two bit_too_few && not (has_maps_of_reach bit_too_few.view)) ≡ true
unfolding bits_compute layouts_compute rules_compute has_maps_of_reach
bit_too_few_refused = refl

-- Rule 6: the map of a snapshot in place of the active one.
abbrev pub other_map : Layout
other_map = layout_at snapshot_root (with_block 11 (5 ∷ zeros 4095) snapshot)

other_map_refused : (after_two other_map && not (has_maps_of_reach other_map.view)) ≡ true
unfolding bits_compute layouts_compute rules_compute has_maps_of_reach
other_map_refused = refl

-- Rule 2: no block of the active map.
no_map : not (has_map_blocks (view_at one_file_root (with_block 11 (70 ∷ 86 ∷ 67 ∷ 76 ∷ 69 ∷ 65 ∷ 70 ∷ 48 ∷ (zeros 7 ++ (16 ∷ zeros 4080))) one_file))) ≡ true
unfolding views_compute has_map_blocks
no_map = refl

-- Rule 9: the active map's block under an entry for data.
map_as_data : (has_map_blocks (view_at one_file_root (with_block 11 (70 ∷ 86 ∷ 67 ∷ 76 ∷ 69 ∷ 65 ∷ 70 ∷ 48 ∷ (zeros 7 ++ (16 ∷ (zeros 1015 ++ (9 ∷ 0 ∷ 0 ∷ 0 ∷ 1 ∷ zeros 3060))))) one_file)) && not (has_map_kinds (view_at one_file_root (with_block 11 (70 ∷ 86 ∷ 67 ∷ 76 ∷ 69 ∷ 65 ∷ 70 ∷ 48 ∷ (zeros 7 ++ (16 ∷ (zeros 1015 ++ (9 ∷ 0 ∷ 0 ∷ 0 ∷ 1 ∷ zeros 3060))))) one_file)))) ≡ true
unfolding layouts_compute
map_as_data = refl

-- Rule 2: an entry past the last one of its container.
entry_past : not (has_entries_within (layout_at one_file_root (with_block 11 (70 ∷ 86 ∷ 67 ∷ 76 ∷ 69 ∷ 65 ∷ 70 ∷ 48 ∷ (zeros 7 ++ (16 ∷ (zeros 1015 ++ (9 ∷ 0 ∷ 0 ∷ 0 ∷ 8 ∷ (zeros 295 ++ (24 ∷ 0 ∷ 0 ∷ 0 ∷ 1 ∷ zeros 2760))))))) one_file))) ≡ true
unfolding layouts_compute
entry_past = refl

-- Rule 2: a node past the last one of its container.
abbrev pub child_past : Layout
child_past = layout_at one_file_root (with_block 12 (70 ∷ 86 ∷ 67 ∷ 73 ∷ 78 ∷ 78 ∷ 69 ∷ 82 ∷ (zeros 7 ++ (1 ∷ (zeros 1015 ++ (10 ∷ (zeros 127 ++ (11 ∷ (zeros 7 ++ (24 ∷ zeros 2928))))))))) one_file)

child_past_refused : (has_shapes child_past && (are_in_range child_past && not (has_entries_within child_past))) ≡ true
unfolding layouts_compute
child_past_refused = refl
