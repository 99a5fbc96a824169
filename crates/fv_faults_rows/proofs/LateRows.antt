-- Images with one field changed that pass the first two passes, and the lines that the third and the fourth find by the rules that compute: all but
-- spans, whole maps and use.
use Rattle.std.specs.Prelude.{◌≡◌, ◌<◌, ℕ, List, [], ◌∷◌, ◌++◌, flat_map}
use Rattle.std.specs.List.{range_with_len}
use Rattle.std.proofs.Common.{refl, inl, arith, subst}
use Rattle.fv_codec.specs.Bytes.{zeros}
use Rattle.fv_codec.specs.Blocks.{greatest_word}
use Rattle.fv_laws.proofs.Lists.{In, in_range, in_flat_map}
use Rattle.fv_image.specs.Maps.{map_bit, area_bits}
use Rattle.fv_image.specs.Views.{Rooted, Head, View}
use Rattle.fv_image.specs.Held.{Layout, is_held}
use Rattle.fv_image.specs.Seen.{roots_of, seen}
use Rattle.fv_image.specs.VolumeRules.{commits_seen}
use Rattle.fv_image_rows.proofs.Computing.{tables_compute, rules_compute, layouts_compute, space_compute}
use Rattle.fv_image_rows.proofs.FileFaults.{inode_as_data, data_as_node, at_length, past_now, below_start, no_cells, other_place, other_root, over_unknown, known_root, own_under_base, on_active}
use Rattle.fv_image_rows.proofs.BlockFaults.{changed, one_block, bit_too_few, bit_too_many, of_size, with_delayed}
use Rattle.fv_faults.specs.declared.fault.Fault.{Fault}
use Rattle.fv_faults.specs.Lines.{line, ordered}
use Rattle.fv_faults.specs.Walks.{Step, steps, met_in}
use Rattle.fv_faults.specs.FirstPass.{first_pass}
use Rattle.fv_faults.specs.SecondPass.{in_volumes, ground, root_steps, second_pass}
use Rattle.fv_faults.specs.ThirdPass.{twice_held, bit_lines, map_lines, kind_lines, map_kind_lines, mark_lines, length_lines, level_lines, file_level_lines, base_steps, one_to_one_lines, stamp_lines}
use Rattle.fv_faults.specs.FourthPass.{hint_lines, unknown_lines, place_lines, commit_lines, room_lines}
use Rattle.fv_faults_rows.proofs.Computing.{faults_compute, thirds_compute, fourths_compute}

-- what the first two passes find
abbrev early : Layout → List Fault
early y = first_pass 4 y ++ second_pass y

-- of a root, rules 9 and 10
abbrev table_says : View → ℕ → ℕ → Head → ℕ × Rooted → List Fault
table_says w s label h r = flat_map kind_lines (steps (ground w s h) label r.1) ++ (flat_map mark_lines (steps (ground w s h) label r.1)
    ++ (flat_map (length_lines (flat_map met_in (steps (ground w s h) label r.1))) (steps (ground w s h) label r.1)
    ++ (level_lines label 0 r.1.levels r.1.root ++ flat_map file_level_lines (steps (ground w s h) label r.1))))

-- rules 9 and 10
abbrev third : Layout → List Fault
third y = ordered (in_volumes y (λ s label h. map_kind_lines y.view s label h ++ (flat_map (table_says y.view s label h) (roots_of h)
    ++ (one_to_one_lines (root_steps y.view s label h ++ base_steps y h.base) ++ flat_map (stamp_lines h.now) (root_steps y.view s label h ++ base_steps y h.base)))))

-- rules 11 to 13
abbrev fourth : Layout → List Fault
fourth y = ordered (in_volumes y (λ s label h. flat_map hint_lines (root_steps y.view s label h) ++ (flat_map unknown_lines (root_steps y.view s label h) ++ place_lines y.view s label h)))

-- ---- rule 7: the block, 1, and how often it is held

held_twice : ordered (twice_held one_block) ≡ line 7 7 1 2 ∷ []
unfolding thirds_compute
held_twice = refl

held_early : early one_block ≡ []
unfolding faults_compute
held_early = refl

-- ---- rule 8: the block, the wanted and the found bit

bit_line : (y : Layout) (b : ℕ) (f : Fault) → b < area_bits y.view.blocks → In f (bit_lines 8 b (is_held y b) (y.bit b)) → In f (map_lines y)
unfolding map_lines
bit_line y b f low there = in_flat_map (λ b. bit_lines 8 b (is_held y b) (y.bit b)) b f (range_with_len 0 (area_bits y.view.blocks)) (in_range 0 (area_bits y.view.blocks) b (omega arith) (omega (arith, low))) there

clear_bit : bit_lines 8 8 (is_held bit_too_few 8) (bit_too_few.bit 8) ≡ line 8 8 1 0 ∷ []
unfolding thirds_compute map_bit
clear_bit = refl

set_bit : bit_lines 8 14 (is_held bit_too_many 14) (bit_too_many.bit 14) ≡ line 8 14 0 1 ∷ []
unfolding thirds_compute map_bit
set_bit = refl

-- ---- rule 9: the block that holds the pointer, or the label for a map block, and both kinds

inode_kind : third inode_as_data ≡ line 9 13 5 1 ∷ []
unfolding thirds_compute
inode_kind = refl

data_kind : third data_as_node ≡ line 9 7 1 2 ∷ []
unfolding thirds_compute
data_kind = refl

map_kind : third (changed 11 (70 ∷ 86 ∷ 67 ∷ 76 ∷ 69 ∷ 65 ∷ 70 ∷ 48 ∷ (zeros 7 ++ (16 ∷ (zeros 1015 ++ (9 ∷ 0 ∷ 0 ∷ 0 ∷ 1 ∷ zeros 3060)))))) ≡ line 9 13 8 1 ∷ []
unfolding thirds_compute
map_kind = refl

-- ---- rule 10

-- a cell at the length 0, whose bound wraps
cell_at_length : third at_length ≡ line 10 7 greatest_word 0 ∷ []
unfolding thirds_compute
cell_at_length = refl

-- the stamps of the root and of the cell are 2, and the volume's last is 1
stamps_past : third past_now ≡ line 10 7 1 2 ∷ line 10 13 1 2 ∷ []
unfolding thirds_compute
stamps_past = refl

-- a reserve of 200 starts with two levels
levels_below : third below_start ≡ line 10 7 2 0 ∷ []
unfolding thirds_compute
levels_below = refl

levels_without_cells : third no_cells ≡ line 10 7 0 1 ∷ []
unfolding thirds_compute
levels_without_cells = refl

early_table : early at_length ++ (early past_now ++ (early below_start ++ early no_cells)) ≡ []
unfolding faults_compute
early_table = refl

-- ---- rule 11: the block that holds the pointer, the right place, and the one that is said

cell_hint : fourth other_place ≡ line 11 7 8 9 ∷ []
unfolding fourths_compute
cell_hint = refl

root_hint : fourth other_root ≡ line 11 13 7 8 ∷ []
unfolding fourths_compute
root_hint = refl

-- ---- rules 12 and 13: a known root over an unknown pointer, in a volume that says that all places are known; and in a mirror, which doesn't

unknown_cell : fourth over_unknown ≡ line 12 13 0 1 ∷ line 13 13 0 1 ∷ []
unfolding fourths_compute
unknown_cell = refl

mirror_root : fourth known_root ≡ line 12 21 0 1 ∷ []
unfolding fourths_compute
mirror_root = refl

-- rule 13: a clone's entry under what its base reaches, and a clone on a block of its parent's active table alone
over_base : fourth own_under_base ≡ line 13 23 0 1 ∷ []
unfolding fourths_compute
over_base = refl

on_parent : fourth on_active ≡ line 13 23 0 1 ∷ []
unfolding fourths_compute
on_parent = refl

-- ---- rule 14: the root, and both numbers

-- the capacity of 1024 blocks is 761; a volume of 722 commits 40 beside its size
commits : commit_lines 4 (of_size 722).view ≡ line 14 4 761 762 ∷ []
unfolding tables_compute rules_compute layouts_compute space_compute commits_seen commit_lines seen
commits = refl

-- 296 are kept, and of 1017 blocks 722 are delayed
room : room_lines 4 (with_delayed 722) ≡ line 14 4 296 295 ∷ []
unfolding fourths_compute
room = refl
