-- One change at a time that a rule refuses, and the bounds that the rules keep: rows that the checker computes.
use Rattle.std.specs.Prelude.{◌≡◌, ◌++◌, ℕ, true, false, List, [], ◌∷◌, replicate, Option, Some, None, ◌==◌, if◌then◌else◌, map}
use Rattle.std.proofs.Common.{refl}
use Rattle.fv_disk.specs.Shown.{Image}
use Rattle.fv_bits.specs.Bits.{bit_of_area, bit_of_bytes, bit_of_number}
use Rattle.fv_codec.specs.Bytes.{word_at, half_at, word, half, zeros}
use Rattle.fv_codec.specs.Fields.{all_zero, each, items, all_name, name_filled}
use Rattle.fv_codec.specs.Blocks.{label_at, asks_snap, snap_of, asks_pointer, pointer_of, leaf_in, asks_entry, inner_at}
use Rattle.fv_model.specs.Space.{overhead, nodes_above}
use Rattle.fv_image.specs.NewerRoot.{Taken}
use Rattle.fv_image.specs.Containers.{node_below, leaf_for, inner_for}
use Rattle.fv_image.specs.Views.{Placed, Head, View, slots, vvbns, volume_bit, is_held_in, own, delayed}
use Rattle.fv_image.specs.Volumes.{empty_volume_of}
use Rattle.fv_image.specs.Held.{Layout, layout_at, label_place, label_in, node_from, at_positions, held_by_container, held_by, held}
use Rattle.fv_image.specs.BlockRules.{has_shapes, is_in_position, is_held_once}
use Rattle.fv_image_rows.specs.EmptySound.{is_in_range, has_true_kinds, has_true_levels, has_true_labels, is_in_capacity, committed}
use Rattle.fv_image.specs.VolumeRules.{has_distinct_names}
use Rattle.fv_image.specs.Views.{leaves_room, overheads}
use Rattle.fv_image_rows.proofs.LoneVolumes.{meant}
use Rattle.fv_image_rows.proofs.Vectors.{root_of_slot, leaf_16, inner_over, label_of, image_of, name_a, head_a}
use Rattle.fv_image_rows.proofs.Samples.{says}

abbrev pub root_one : Taken
root_one = root_of_slot 1024 1 2 10 0 0

-- ---- labels and nodes, in the image of one volume with another leaf and another label

abbrev pub with_blocks : List ℕ → List ℕ → Image
with_blocks leaf label = image_of ([] ∷ [] ∷ [] ∷ [] ∷ [] ∷ [] ∷ [] ∷ zeros 4096 ∷ leaf ∷ inner_over 8 ∷ label ∷ [])

label_of_zeros : has_shapes (layout_at root_one (with_blocks (leaf_16 7) (zeros 4096))) ≡ false
unfolding has_shapes slots layout_at label_place label_in label_at word_at zeros all_zero each items all_name name_filled asks_snap snap_of asks_pointer pointer_of
label_of_zeros = refl

-- a leaf where a label should be
leaf_as_label : has_shapes (layout_at root_one (with_blocks (leaf_16 7) (leaf_16 7))) ≡ false
unfolding has_shapes slots layout_at label_place label_in label_at word_at half_at word half zeros all_zero each items all_name name_filled asks_snap snap_of asks_pointer pointer_of
leaf_as_label = refl

-- leaf 15 where leaf 16 should be
other_leaf : is_in_position (layout_at root_one (with_blocks (word 0x4656434c45414630 ++ (word 15 ++ zeros 4080)) (label_of name_a 0 100 200 9))) ≡ false
unfolding is_in_position slots layout_at label_place label_in label_at at_positions node_from node_below leaf_for inner_for leaf_in inner_at asks_entry word_at half_at word half zeros all_zero each items all_name name_filled asks_snap snap_of asks_pointer pointer_of
other_leaf = refl

-- ---- places and spans

abbrev placed_at : ℕ → ℕ → ℕ → ℕ → Layout
placed_at label leaf map most = meant root_one
    (λ b. if b == label then label_of name_a 0 100 most 9 else zeros 4096)
    (λ s. if s == 0 then Some (record { label = label; leaf = leaf; map = map; says = says 1 (97 ∷ replicate 63 0) 0 100 most 9 }) else None)
    (λ b. false)

-- a span that fits and one that is too small; the last of the aggregate's own blocks; the last place of a block of a volume, and one past it
ranges : map is_in_range (placed_at 10 8 7 3840 ∷ placed_at 10 8 7 3841 ∷ placed_at 10 6 7 200 ∷ placed_at 10 8 1023 200 ∷ placed_at 10 8 1024 200 ∷ []) ≡ true ∷ false ∷ false ∷ true ∷ false ∷ []
unfolding is_in_range held held_by held_by_container at_positions slots vvbns label_in label_at word_at word zeros all_zero each items all_name name_filled asks_snap snap_of asks_pointer pointer_of
ranges = refl

-- the map block is the leaf, too
held_twice : is_held_once (placed_at 10 8 8 200) ≡ false
unfolding is_held_once held held_by held_by_container at_positions slots vvbns label_in label_at word_at word zeros all_zero each items all_name name_filled asks_snap snap_of asks_pointer pointer_of
held_twice = refl

-- ---- heads and entries

-- one volume with this head and these entries
abbrev pub view_of : Head → (ℕ → Option Placed) → View
view_of h entry = record { blocks = 1024; version = 1; head = λ s. if s == 0 then Some h else None; entry = λ s v. entry v }

abbrev layout_of : View → Layout
layout_of w = record { view = w; label = λ s. None; node = λ s level number. None; bit = λ b. false }

abbrev map_block : ℕ → ℕ → Option Placed
map_block kind v = if v == 4096 then Some (record { pvbn = 7; kind = kind; block = zeros 4096 }) else None

two_of_one_name : has_distinct_names (layout_of (record { blocks = 1024; version = 1; head = λ s. if s == 63 then Some head_a else (if s == 5 then Some head_a else None); entry = λ s v. None })) ≡ false
unfolding has_distinct_names slots
two_of_one_name = refl

data_in_the_map : has_true_kinds (layout_of (view_of head_a (map_block 1))) ≡ false
unfolding has_true_kinds slots
data_in_the_map = refl

no_map : has_true_kinds (layout_of (view_of head_a (λ v. None))) ≡ false
unfolding has_true_kinds slots
no_map = refl

-- an inode file without cells that has a level
level_without_cells : has_true_levels (layout_of (view_of (record head_a { active = record { levels = 1; root = record { vvbn = 0; pvbn = 0; stamp = 0 } } }) (map_block 8))) ≡ false
unfolding has_true_levels slots
level_without_cells = refl

-- a label that says that all places are known, with a pointer whose place isn't
unknown_place : has_true_labels (layout_of (view_of (record head_a { active = record { levels = 0; root = record { vvbn = 3; pvbn = 0; stamp = 1 } } }) (map_block 8))) ≡ false
unfolding has_true_labels slots
unknown_place = refl

-- an aggregate of 1024 blocks has 761 for its volumes, and the volume's overhead counts 40 of them
commits_fit : is_in_capacity (layout_of (view_of (record head_a { size = 721 }) (map_block 8))) ≡ true
unfolding is_in_capacity committed empty_volume_of overhead nodes_above slots
commits_fit = refl

commits_pass : is_in_capacity (layout_of (view_of (record head_a { size = 722 }) (map_block 8))) ≡ false
unfolding is_in_capacity committed empty_volume_of overhead nodes_above slots
commits_pass = refl

-- ---- own and delayed entries

-- VVBN 5 is in the active map and 6 isn't; no snapshot has slot 1, whose map block has VVBN 4097
abbrev some_entries : ℕ → Option Placed
some_entries v = if v == 4096 then Some (record { pvbn = 7; kind = 8; block = 32 ∷ replicate 4095 0 })
    else (if v == 5 then Some (record { pvbn = 11; kind = 1; block = [] })
    else (if v == 6 then Some (record { pvbn = 12; kind = 1; block = [] })
    else (if v == 4097 then Some (record { pvbn = 13; kind = 8; block = [] }) else None)))

own_entries : own (view_of head_a some_entries) ≡ 1
unfolding own is_held_in volume_bit bit_of_area bit_of_bytes bit_of_number slots vvbns
own_entries = refl

delayed_entries : delayed (view_of head_a some_entries) ≡ 2
unfolding delayed is_held_in volume_bit bit_of_area bit_of_bytes bit_of_number slots vvbns
delayed_entries = refl

-- of 1017 blocks 3 are taken by these entries and 40 are kept for the overhead
room_left : leaves_room (view_of head_a some_entries) 974 ≡ true
unfolding overheads overhead nodes_above own delayed is_held_in volume_bit bit_of_area bit_of_bytes bit_of_number slots vvbns
room_left = refl

no_room_left : leaves_room (view_of head_a some_entries) 975 ≡ false
unfolding overheads overhead nodes_above own delayed is_held_in volume_bit bit_of_area bit_of_bytes bit_of_number slots vvbns
no_room_left = refl
