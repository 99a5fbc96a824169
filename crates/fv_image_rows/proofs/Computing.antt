-- What rows compute with: to compute a row, the check opens each definition that stands on its way. These are the lists, each said once; a
-- row names the one that it needs.
use Rattle.fv_bits.specs.Bits.{bit_of_area, bit_of_bytes, bit_of_number}
use Rattle.fv_codec.specs.Bytes.{word_at, half_at, byte_at, word, half, zeros}
use Rattle.fv_codec.specs.Fields.{all_zero, each, items, none_filled, all_name, name_filled}
use Rattle.fv_codec.specs.Blocks.{super_at, gate_open, open_gate, root_at, label_at, asks_snap, snap_of, asks_pointer, pointer_of, leaf_in, asks_entry, inner_at, inodes_at, asks_file, file_of, node_at}
use Rattle.fv_model.specs.Trees.{least_levels}
use Rattle.fv_model.specs.Space.{overhead, nodes_above}
use Rattle.fv_tables.specs.Spelled.{pointers_at, pointer_below, pointer_at, block_at}
use Rattle.fv_tables.specs.Told.{listed, spots, tree_told, cells_told, records_in, file_at, file_told, file_in, records, table_told}
use Rattle.fv_tables.specs.Reached.{tree_items, items as table_items}
use Rattle.fv_image.specs.NewerRoot.{root_of}
use Rattle.fv_image.specs.Containers.{node_below, container_entry, leaf_for, inner_for}
use Rattle.fv_image.specs.Views.{volume_bit, is_held_in, own, delayed, vvbns, head_at_slot, snaps_told, head_of, snaps_from, slots}
use Rattle.fv_image.specs.Held.{view_at, layout_at, node_from, at_positions, label_place, label_in, entry_from, held_by_container, held_by, held}
use Rattle.fv_image.specs.Chains.{along, place, under}
use Rattle.fv_image.specs.Volumes.{snap_at, volume_with, volumes_with, told_with}
use Rattle.fv_image.specs.Seen.{root_seen, base_seen, volume_seen, seen}
use Rattle.fv_image.specs.Views.{overheads}
use Rattle.fv_image.specs.BlockRules.{has_shapes, are_in_range, has_entries_within, is_in_position, is_held_once}
use Rattle.fv_image.specs.ReachRules.{has_reached_shapes, has_pointers_in_range, has_reached_positions, has_distinct_files, reaches_once, has_map_blocks, has_map_kinds, has_reached_kinds}
use Rattle.fv_image.specs.TableRules.{has_one_to_one, has_stamps_past, has_marks_over, has_cells_within, has_levels}
use Rattle.fv_image.specs.HintRules.{has_true_hints, leads_unknown, has_known_places, has_split_places, leaves_base, rests_on_base}
use Rattle.fv_image.specs.VolumeRules.{comes_to_end, has_bases, has_distinct_names, has_distinct_snapshots}
use Rattle.fv_image.specs.Soundness.{are_blocks, are_maps, is_sound}

-- what blocks spell
unfoldable pub blocks_compute : Unit {0}
unfolding word_at half_at byte_at word half zeros all_zero each items none_filled all_name name_filled super_at gate_open open_gate root_at label_at asks_snap snap_of asks_pointer pointer_of leaf_in asks_entry inner_at inodes_at asks_file file_of node_at
blocks_compute = tt

-- which root counts
unfoldable pub roots_compute : Unit {0}
unfolding blocks_compute root_of
roots_compute = tt

-- the heads of a view
unfoldable pub heads_compute : Unit {0}
unfolding blocks_compute view_at label_place label_in head_at_slot snaps_told head_of snaps_from slots
heads_compute = tt

-- the volumes that rules look at, by their heads
unfoldable pub volumes_compute : Unit {0}
unfolding heads_compute seen volume_seen
volumes_compute = tt

-- its entries and places, and pointers and records at positions
unfoldable pub pointers_compute : Unit {0}
unfolding heads_compute entry_from container_entry node_below along place under records_in file_at pointers_at pointer_below pointer_at block_at
pointers_compute = tt

-- what tables list and reach
unfoldable pub views_compute : Unit {0}
unfolding pointers_compute snap_at listed spots records tree_items table_items
views_compute = tt

-- the machine that is told
unfoldable pub tables_compute : Unit {0}
unfolding views_compute tree_told cells_told file_told file_in table_told volume_with volumes_with told_with
tables_compute = tt

-- the bits of a block, and of maps
unfoldable pub bytes_compute : Unit {0}
unfolding bit_of_bytes bit_of_number
bytes_compute = tt

unfoldable pub bits_compute : Unit {0}
unfolding bytes_compute bit_of_area volume_bit is_held_in
bits_compute = tt

-- labels and containers, and the rules on them but for the aggregate map
unfoldable pub layouts_compute : Unit {0}
unfolding views_compute layout_at node_from at_positions leaf_for inner_for vvbns held_by_container held_by held has_shapes are_in_range has_entries_within is_in_position is_held_once has_map_blocks has_map_kinds has_distinct_names
layouts_compute = tt

-- the rules on what roots reach but for maps and numbers of ids
unfoldable pub rules_compute : Unit {0}
unfolding views_compute root_seen base_seen volume_seen seen least_levels has_reached_shapes has_pointers_in_range has_bases comes_to_end has_distinct_snapshots has_distinct_files has_reached_positions reaches_once has_reached_kinds has_one_to_one has_stamps_past has_marks_over has_cells_within has_levels has_true_hints leads_unknown has_known_places has_split_places leaves_base rests_on_base
rules_compute = tt

-- the space rule
unfoldable pub space_compute : Unit {0}
unfolding views_compute bits_compute vvbns overheads overhead nodes_above own delayed
space_compute = tt

-- soundness but for the rules on tables, the aggregate map and volume maps
unfoldable pub soundness_computes : Unit {0}
unfolding layouts_compute space_compute are_blocks are_maps is_sound
soundness_computes = tt
