-- Images with one field changed, and the lines that the first two passes find: the whole list of each. Places: of one file, 4 is the root, 7 the
-- inode block, 8 its cell, 9 the active map, 10 and 11 the leaves, 12 the inner node and 13 the label; a clone's label is 23.
use Rattle.std.specs.Prelude.{◌≡◌, ℕ, List, [], ◌∷◌, ◌++◌}
use Rattle.std.proofs.Common.{refl}
use Rattle.fv_codec.specs.Bytes.{zeros}
use Rattle.fv_image.specs.Held.{Layout}
use Rattle.fv_image_rows.proofs.FileFaults.{no_inode_block, no_name, past_span, past_blocks, unknown_parent, no_snapshot, other_index, two_names, reached_twice, reached_hole, child_past}
use Rattle.fv_image_rows.proofs.BlockFaults.{changed, no_label, no_kind, no_inner, before_first, past_last, other_leaf, other_level, one_name}
use Rattle.fv_faults.specs.Lines.{line}
use Rattle.fv_faults.specs.Faults.{faults_at}
use Rattle.fv_faults_rows.proofs.Computing.{faults_compute}

-- ---- rule 1: the block, the wanted mark or bound, and what stands there

label_mark : faults_at 4 no_label ≡ line 1 13 0x46564c4142454c30 0x47564c4142454c30 ∷ []
unfolding faults_compute
label_mark = refl

entry_kind : faults_at 4 no_kind ≡ line 1 10 8 9 ∷ []
unfolding faults_compute
entry_kind = refl

inner_mark : faults_at 4 no_inner ≡ line 1 12 0x465643494e4e4552 0x465643494e4e4553 ∷ []
unfolding faults_compute
inner_mark = refl

inode_mark : faults_at 4 no_inode_block ≡ line 1 7 0x4656494e4f444553 0x4756494e4f444553 ∷ []
unfolding faults_compute
inode_mark = refl

name_byte : faults_at 4 no_name ≡ line 1 7 97 70 ∷ []
unfolding faults_compute
name_byte = refl

-- ---- rule 2: the block that holds the number, the bound, and the number

entry_low : faults_at 4 before_first ≡ line 2 10 7 6 ∷ []
unfolding faults_compute
entry_low = refl

entry_high : faults_at 4 past_last ≡ line 2 10 1023 1032 ∷ []
unfolding faults_compute
entry_high = refl

vvbn_high : faults_at 4 past_span ≡ line 2 7 4095 4096 ∷ []
unfolding faults_compute
vvbn_high = refl

hint_high : faults_at 4 past_blocks ≡ line 2 7 1023 1024 ∷ []
unfolding faults_compute
hint_high = refl

-- Of 4121 entries the last is 4120; leaf 17 would begin with 4352.
leaf_past : faults_at 4 child_past ≡ line 2 12 4120 4352 ∷ []
unfolding faults_compute
leaf_past = refl

entry_past : faults_at 4 (changed 11 (70 ∷ 86 ∷ 67 ∷ 76 ∷ 69 ∷ 65 ∷ 70 ∷ 48 ∷ (zeros 7 ++ (16 ∷ (zeros 1015 ++ (9 ∷ 0 ∷ 0 ∷ 0 ∷ 8 ∷ (zeros 295 ++ (24 ∷ 0 ∷ 0 ∷ 0 ∷ 1 ∷ zeros 2760)))))))) ≡ line 2 11 4120 4121 ∷ []
unfolding faults_compute
entry_past = refl

-- no block of the active map
map_gone : faults_at 4 (changed 11 (70 ∷ 86 ∷ 67 ∷ 76 ∷ 69 ∷ 65 ∷ 70 ∷ 48 ∷ (zeros 7 ++ (16 ∷ zeros 4080)))) ≡ line 2 11 7 0 ∷ []
unfolding faults_compute
map_gone = refl

-- ---- rule 3: the clone's label, 1 and 0

parent_unknown : faults_at 4 unknown_parent ≡ line 3 23 1 0 ∷ []
unfolding faults_compute
parent_unknown = refl

snapshot_free : faults_at 4 no_snapshot ≡ line 3 23 1 0 ∷ []
unfolding faults_compute
snapshot_free = refl

-- ---- rule 4: the later label or block, and both numbers

leaf_index : faults_at 4 other_leaf ≡ line 4 10 0 1 ∷ []
unfolding faults_compute
leaf_index = refl

inner_level : faults_at 4 other_level ≡ line 4 12 1 2 ∷ []
unfolding faults_compute
inner_level = refl

volume_name : faults_at 4 one_name ≡ line 4 23 0 1 ∷ []
unfolding faults_compute
volume_name = refl

inode_index : faults_at 4 other_index ≡ line 4 7 0 1 ∷ []
unfolding faults_compute
inode_index = refl

file_name : faults_at 4 two_names ≡ line 4 7 0 1 ∷ []
unfolding faults_compute
file_name = refl

-- ---- rule 5: the block that holds the pointer, 1, and 2 or 0

cell_twice : faults_at 4 reached_twice ≡ line 5 7 1 2 ∷ []
unfolding faults_compute
cell_twice = refl

cell_hole : faults_at 4 reached_hole ≡ line 5 7 1 0 ∷ []
unfolding faults_compute
cell_hole = refl
