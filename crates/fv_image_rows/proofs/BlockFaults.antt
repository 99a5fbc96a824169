-- Changes of one field or one bit of an image in its labels, containers, aggregate map and space, each with the rule that refuses it and
-- no rule of an earlier pass.
use Rattle.std.specs.Prelude.{◌≡◌, ◌<◌, ◌+◌, ◌++◌, ℕ, Bool, true, false, not, ◌&&◌, List, [], ◌∷◌, Some, None, nat_lt, ◌==◌, if◌then◌else◌}
use Rattle.std.specs.List.{list_all, range_with_len}
use Rattle.std.proofs.Common.{refl, arith}
use Rattle.std.proofs.lemmas.Bool.{both_ways}
use Rattle.fv_codec.specs.Bytes.{zeros}
use Rattle.fv_codec.specs.Blocks.{open_gate}
use Rattle.fv_image.specs.Maps.{map_bit, area_bits}
use Rattle.fv_image.specs.Views.{View, leaves_room}
use Rattle.fv_image.specs.Held.{Layout, view_at, layout_at, is_held}
use Rattle.fv_image.specs.Seen.{seen}
use Rattle.fv_image.specs.BlockRules.{agree, has_shapes, are_in_range, is_in_position, is_held_once, has_true_map}
use Rattle.fv_image.specs.VolumeRules.{commits_seen, has_commits_in_capacity, has_wide_spans, has_distinct_names}
use Rattle.fv_image_rows.proofs.Computing.{bits_compute, tables_compute, layouts_compute, rules_compute, space_compute}
use Rattle.fv_image_rows.proofs.Vectors.{super_of, root_with, leaf_16, inner_over, label_of, image_of, name_a, head_a}
use Rattle.fv_image.proofs.Kept.{at_number}
use Rattle.fv_image_rows.proofs.FileVectors.{one_file, one_file_root, clone, clone_root}
use Rattle.fv_image_rows.proofs.Faults.{root_one, view_of}
use Rattle.fv_image_rows.proofs.FileFaults.{with_block, first_blocks, second_pass, third_pass}

-- an image of one file with another block
abbrev pub changed : ℕ → List ℕ → Layout
changed at block = layout_at one_file_root (with_block at block one_file)

-- Rule 1: a label with another mark.
abbrev pub no_label : Layout
no_label = changed 13 (71 ∷ 86 ∷ 76 ∷ 65 ∷ 66 ∷ 69 ∷ 76 ∷ 48 ∷ (zeros 7 ++ (1 ∷ 97 ∷ (zeros 78 ++ (100 ∷ (zeros 7 ++ (200 ∷ (zeros 6 ++ (16 ∷ (zeros 8 ++ (2 ∷ (zeros 31 ++ (1 ∷ (zeros 7 ++ (12 ∷ (zeros 7 ++ (1 ∷ (zeros 23 ++ (7 ∷ (zeros 7 ++ (2 ∷ zeros 3896)))))))))))))))))))))

no_label_refused : not (has_shapes no_label) ≡ true
unfolding bits_compute layouts_compute rules_compute has_wide_spans map_bit
no_label_refused = refl

-- Rule 1: a leaf with a kind that there isn't.
abbrev pub no_kind : Layout
no_kind = changed 10 (70 ∷ 86 ∷ 67 ∷ 76 ∷ 69 ∷ 65 ∷ 70 ∷ 48 ∷ (zeros 1023 ++ (7 ∷ 0 ∷ 0 ∷ 0 ∷ 5 ∷ (zeros 7 ++ (8 ∷ 0 ∷ 0 ∷ 0 ∷ 9 ∷ zeros 3048)))))

no_kind_refused : not (has_shapes no_kind) ≡ true
unfolding bits_compute layouts_compute rules_compute has_wide_spans map_bit
no_kind_refused = refl

-- Rule 1: a container's root with another mark.
abbrev pub no_inner : Layout
no_inner = changed 12 (70 ∷ 86 ∷ 67 ∷ 73 ∷ 78 ∷ 78 ∷ 69 ∷ 83 ∷ (zeros 7 ++ (1 ∷ (zeros 1015 ++ (10 ∷ (zeros 127 ++ (11 ∷ zeros 2936)))))))

no_inner_refused : not (has_shapes no_inner) ≡ true
unfolding bits_compute layouts_compute rules_compute has_wide_spans map_bit
no_inner_refused = refl

-- Rule 2: an entry in the last of the aggregate's own blocks.
abbrev pub before_first : Layout
before_first = changed 10 (70 ∷ 86 ∷ 67 ∷ 76 ∷ 69 ∷ 65 ∷ 70 ∷ 48 ∷ (zeros 1023 ++ (7 ∷ 0 ∷ 0 ∷ 0 ∷ 5 ∷ (zeros 7 ++ (6 ∷ 0 ∷ 0 ∷ 0 ∷ 1 ∷ zeros 3048)))))

before_first_refused : (has_shapes before_first && not (are_in_range before_first)) ≡ true
unfolding bits_compute layouts_compute rules_compute has_wide_spans map_bit
before_first_refused = refl

-- Rule 2: an entry past the last block.
abbrev pub past_last : Layout
past_last = changed 10 (70 ∷ 86 ∷ 67 ∷ 76 ∷ 69 ∷ 65 ∷ 70 ∷ 48 ∷ (zeros 1023 ++ (7 ∷ 0 ∷ 0 ∷ 0 ∷ 5 ∷ (zeros 6 ++ (4 ∷ 8 ∷ 0 ∷ 0 ∷ 0 ∷ 1 ∷ zeros 3048)))))

past_last_refused : (has_shapes past_last && not (are_in_range past_last)) ≡ true
unfolding bits_compute layouts_compute rules_compute has_wide_spans map_bit
past_last_refused = refl

-- Rule 4: leaf 1 where leaf 0 should be.
abbrev pub other_leaf : Layout
other_leaf = changed 10 (70 ∷ 86 ∷ 67 ∷ 76 ∷ 69 ∷ 65 ∷ 70 ∷ 48 ∷ (zeros 7 ++ (1 ∷ (zeros 1015 ++ (7 ∷ 0 ∷ 0 ∷ 0 ∷ 5 ∷ (zeros 7 ++ (8 ∷ 0 ∷ 0 ∷ 0 ∷ 1 ∷ zeros 3048)))))))

other_leaf_refused : (has_shapes other_leaf && (are_in_range other_leaf && not (is_in_position other_leaf))) ≡ true
unfolding bits_compute layouts_compute rules_compute has_wide_spans map_bit
other_leaf_refused = refl

-- Rule 4: a node of level 2 where the one of level 1 should be.
abbrev pub other_level : Layout
other_level = changed 12 (70 ∷ 86 ∷ 67 ∷ 73 ∷ 78 ∷ 78 ∷ 69 ∷ 82 ∷ (zeros 7 ++ (2 ∷ (zeros 1015 ++ (10 ∷ (zeros 127 ++ (11 ∷ zeros 2936)))))))

other_level_refused : (has_shapes other_level && (are_in_range other_level && not (is_in_position other_level))) ≡ true
unfolding bits_compute layouts_compute rules_compute has_wide_spans map_bit
other_level_refused = refl

-- Rule 4: two volumes of one name.
abbrev pub one_name : Layout
one_name = layout_at clone_root (with_block 23 (70 ∷ 86 ∷ 76 ∷ 65 ∷ 66 ∷ 69 ∷ 76 ∷ 48 ∷ (zeros 7 ++ (1 ∷ 97 ∷ (zeros 70 ++ (2 ∷ (zeros 7 ++ (100 ∷ (zeros 7 ++ (200 ∷ (zeros 6 ++ (16 ∷ (zeros 8 ++ (4 ∷ (zeros 7 ++ (1 ∷ (zeros 7 ++ (1 ∷ (zeros 15 ++ (1 ∷ (zeros 7 ++ (22 ∷ (zeros 7 ++ (1 ∷ (zeros 15 ++ (1 ∷ (zeros 7 ++ (11 ∷ (zeros 7 ++ (4 ∷ zeros 3896))))))))))))))))))))))))))))) clone)

one_name_refused : (has_shapes one_name && (are_in_range one_name && (is_in_position one_name && not (has_distinct_names one_name)))) ≡ true
unfolding bits_compute layouts_compute rules_compute has_wide_spans map_bit
one_name_refused = refl

-- Rule 7: two VVBNs of one block.
abbrev pub one_block : Layout
one_block = changed 10 (70 ∷ 86 ∷ 67 ∷ 76 ∷ 69 ∷ 65 ∷ 70 ∷ 48 ∷ (zeros 1023 ++ (7 ∷ 0 ∷ 0 ∷ 0 ∷ 5 ∷ (zeros 7 ++ (7 ∷ 0 ∷ 0 ∷ 0 ∷ 1 ∷ zeros 3048)))))

one_block_refused : (second_pass (seen one_block.view) && (first_blocks one_block && not (is_held_once one_block))) ≡ true
unfolding bits_compute layouts_compute rules_compute has_wide_spans map_bit
one_block_refused = refl

-- Rule 7: a delayed entry of a block that is held.
abbrev pub held_and_delayed : Layout
held_and_delayed = changed 10 (70 ∷ 86 ∷ 67 ∷ 76 ∷ 69 ∷ 65 ∷ 70 ∷ 48 ∷ (zeros 1023 ++ (7 ∷ 0 ∷ 0 ∷ 0 ∷ 5 ∷ (zeros 7 ++ (8 ∷ 0 ∷ 0 ∷ 0 ∷ 1 ∷ (zeros 7 ++ (8 ∷ 0 ∷ 0 ∷ 0 ∷ 1 ∷ zeros 3036)))))))

held_and_delayed_refused : (second_pass (seen held_and_delayed.view) && (first_blocks held_and_delayed && not (is_held_once held_and_delayed))) ≡ true
unfolding bits_compute layouts_compute rules_compute has_wide_spans map_bit
held_and_delayed_refused = refl

-- Rule 8: no bit of a block that is held.
abbrev pub bit_too_few : Layout
bit_too_few = changed 6 (128 ∷ 62 ∷ zeros 4094)

bit_too_few_refused : (second_pass (seen bit_too_few.view) && (first_blocks bit_too_few && not (agree (bit_too_few.bit 8) (is_held bit_too_few 8)))) ≡ true
unfolding bits_compute layouts_compute rules_compute has_wide_spans map_bit
bit_too_few_refused = refl

-- Rule 8: a bit of a block that isn't.
abbrev pub bit_too_many : Layout
bit_too_many = changed 6 (128 ∷ 127 ∷ zeros 4094)

bit_too_many_refused : (second_pass (seen bit_too_many.view) && (first_blocks bit_too_many && not (agree (bit_too_many.bit 14) (is_held bit_too_many 14)))) ≡ true
unfolding bits_compute layouts_compute rules_compute has_wide_spans map_bit
bit_too_many_refused = refl

-- a map that isn't true of one block isn't true
not_true : (y : Layout) (b : ℕ) → b < area_bits y.view.blocks → agree (y.bit b) (is_held y b) ≡ false → has_true_map y ≡ false
unfolding has_true_map
not_true y b inside wrong = so (list_all (λ b. agree (y.bit b) (is_held y b)) (range_with_len 0 (area_bits y.view.blocks))) refl
  where
    so : (t : Bool) → list_all (λ b. agree (y.bit b) (is_held y b)) (range_with_len 0 (area_bits y.view.blocks)) ≡ t → t ≡ false
    so false e = refl
    so true e = absurd (both_ways (agree (y.bit b) (is_held y b)) wrong (at_number (λ b. agree (y.bit b) (is_held y b)) 0 (area_bits y.view.blocks) b e (omega arith) (omega (arith, inside))))

of_not : (a b c : Bool) → (a && (b && not c)) ≡ true → c ≡ false
of_not true true false e = refl
of_not true true true e = absurd cc
of_not true false c e = absurd cc
of_not false b c e = absurd cc

few_refused : has_true_map bit_too_few ≡ false
unfolding layout_at view_at
few_refused = not_true bit_too_few 8 (omega arith) (of_not (second_pass (seen bit_too_few.view)) (first_blocks bit_too_few) (agree (bit_too_few.bit 8) (is_held bit_too_few 8)) bit_too_few_refused)

many_refused : has_true_map bit_too_many ≡ false
unfolding layout_at view_at
many_refused = not_true bit_too_many 14 (omega arith) (of_not (second_pass (seen bit_too_many.view)) (first_blocks bit_too_many) (agree (bit_too_many.bit 14) (is_held bit_too_many 14)) bit_too_many_refused)

-- ---- space

-- an aggregate of 1024 blocks has 761 for its volumes, and a volume's overhead counts 40 of them
abbrev pub of_size : ℕ → Layout
of_size size = layout_at root_one (image_of (super_of 1024 ∷ open_gate ∷ open_gate ∷ root_with 1 0 0 0 ∷ root_with 2 10 0 0 ∷ zeros 4096 ∷ (128 ∷ 7 ∷ zeros 4094) ∷ zeros 4096 ∷ leaf_16 7 ∷ inner_over 8 ∷ label_of name_a 0 size 1000 9 ∷ []))

commits_fit : (third_pass (seen (of_size 721).view) && has_commits_in_capacity (seen (of_size 721).view)) ≡ true
unfolding tables_compute rules_compute layouts_compute space_compute commits_seen has_commits_in_capacity
commits_fit = refl

-- Rule 14: commits that pass the capacity.
commits_pass : (third_pass (seen (of_size 722).view) && not (has_commits_in_capacity (seen (of_size 722).view))) ≡ true
unfolding tables_compute rules_compute layouts_compute space_compute commits_seen has_commits_in_capacity
commits_pass = refl

-- so many delayed entries; of 1017 blocks 40 are kept for the overheads and 256 beside them
abbrev pub with_delayed : ℕ → View
with_delayed count = view_of head_a (λ v. if v == 4096
    then Some (record { pvbn = 7; kind = 8; block = zeros 4096 })
    else (if nat_lt v count then Some (record { pvbn = 11 + v; kind = 1; block = [] }) else None))

room_left : leaves_room (with_delayed 721) 0 ≡ true
unfolding space_compute
room_left = refl

-- Rule 14: one delayed entry more than there is room for.
no_room_left : leaves_room (with_delayed 722) 0 ≡ false
unfolding space_compute
no_room_left = refl
