-- One image whole, by all four passes: the place in the file's root pointer is that of the label.
use Rattle.std.specs.Prelude.{◌≡◌, ◌≤◌, ◌*◌, ◌/◌, ◌==◌, ℕ, Bool, true, List, [], ◌∷◌, ◌++◌, replicate, flat_map, Some, None, nat_le, sum_by}
use Rattle.std.specs.List.{range_with_len, list_all, list_any}
use Rattle.std.specs.FinMap as fin
use Rattle.std.specs.FinSet as set
use Rattle.std.proofs.Common.{refl, ap, sym, ◌∙◌, arith}
use Rattle.std.proofs.lemmas.Bool.{and_from, and_parts}
use Rattle.std.proofs.lemmas.Bool.Decides.{nat_tests}
use Rattle.fv_model.specs.Volumes.{Volume}
use Rattle.fv_model.specs.Space.{overhead, nodes_above, base_ids, use_of, commit, map_blocks}
use Rattle.fv_image.specs.Layout.{block_bits}
use Rattle.fv_image.specs.NewerRoot.{Taken, root_of}
use Rattle.fv_image.specs.Views.{Head, View, map_vvbn, volume_bit}
use Rattle.fv_image.specs.Held.{Layout, layout_at, view_at}
use Rattle.fv_image.specs.BlockRules.{agree}
use Rattle.fv_image.specs.Seen.{seen}
use Rattle.fv_image.specs.BlockRules.{has_true_map}
use Rattle.fv_image.specs.ReachRules.{is_reach}
use Rattle.fv_image.specs.VolumeRules.{has_commits_in_capacity}
use Rattle.fv_image.specs.Volumes.{volume_told, standing_of}
use Rattle.fv_tables.specs.Reached.{items, is_listed}
use Rattle.fv_image.proofs.Empty.{all_of_range}
use Rattle.fv_image.proofs.SoundFacts.{agree_itself}
use Rattle.fv_faults.specs.declared.fault.Fault.{Fault}
use Rattle.fv_faults.specs.Lines.{line, ordered, or_next, unless}
use Rattle.fv_faults.specs.Walks.{Step, steps, met_in}
use Rattle.fv_faults.specs.FirstPass.{first_pass}
use Rattle.fv_faults.specs.SecondPass.{ground, root_steps, second_pass, in_volumes}
use Rattle.fv_faults.specs.ThirdPass.{twice_held, table_lines, length_lines, level_lines, file_level_lines, base_steps, map_kind_lines, kind_lines, one_to_one_lines, stamp_lines, mark_lines, map_lines, span_lines, reach_lines, bit_lines, pvbn_at, volume_lines, third_pass}
use Rattle.fv_faults.specs.FourthPass.{hint_lines, unknown_lines, place_lines, room_lines, use_lines, commit_lines, fourth_pass}
use Rattle.fv_faults.specs.Faults.{passes, faults}
use Rattle.fv_faults.proofs.Clean.{nil_parts, none_from, clean_from}
use Rattle.fv_faults.proofs.BlockLines.{no_bits, no_commits}
use Rattle.fv_image_rows.proofs.Computing.{roots_compute, heads_compute, volumes_compute, views_compute, tables_compute, layouts_compute, bytes_compute}
use Rattle.fv_faults_rows.proofs.Computing.{faults_compute, thirds_compute, fourths_compute}
use Rattle.fv_image_rows.proofs.SmallImages.{map_is_true, volume_bit_is, few_ids, no_base, span_is_wide, use_alone, use_fits, commit_fits}
use Rattle.fv_image_rows.proofs.FileVectors.{one_file, hi, one_file_head, one_volume, one_file_root, rooted}
use Rattle.fv_image_rows.proofs.FileFaults.{with_block}
use Rattle.fv_codec.specs.Bytes.{zeros}
use Rattle.fv_disk.specs.Shown.{Image}

abbrev wrong_place : Image
wrong_place = with_block 7 (70 ∷ 86 ∷ 73 ∷ 78 ∷ 79 ∷ 68 ∷ 69 ∷ 83 ∷ (zeros 248 ++ (1 ∷ 102 ∷ (zeros 77 ++ (1 ∷ (zeros 23 ++ (1 ∷ (zeros 7 ++ (13 ∷ (zeros 7 ++ (2 ∷ zeros 3720))))))))))) one_file

abbrev y : Layout
y = layout_at one_file_root wrong_place

abbrev w : View
w = view_at one_file_root wrong_place

pass_one : first_pass 4 y ≡ []
unfolding faults_compute
pass_one = refl

pass_two : second_pass y ≡ []
unfolding faults_compute
pass_two = refl

-- ---- the rules that don't compute

true_map : has_true_map y ≡ true
unfolding layouts_compute bytes_compute
true_map = map_is_true one_file_root wrong_place 128 63 0 (13 ∷ 10 ∷ 11 ∷ 12 ∷ 7 ∷ 8 ∷ 9 ∷ []) refl refl refl refl

no_reach_from : (w : View) (s : ℕ) (h : Head) (slot : ℕ) (ss : List Step) → ((v : ℕ) → volume_bit w s h.span slot v ≡ list_any (λ (st : Step). st.item.pointer.vvbn == v) ss) → reach_lines w s h slot ss ≡ []
unfolding reach_lines
no_reach_from w s h slot ss same =
    clean_from (λ v. bit_lines 6 (pvbn_at (w.entry s (map_vvbn h.span slot (v / block_bits)))) (list_any (λ (st : Step). st.item.pointer.vvbn == v) ss) (volume_bit w s h.span slot v)) (λ v. agree (volume_bit w s h.span slot v) (list_any (λ (st : Step). st.item.pointer.vvbn == v) ss))
    (λ v. none_from (agree (volume_bit w s h.span slot v) (list_any (λ (st : Step). st.item.pointer.vvbn == v) ss)) _) (range_with_len 0 (block_bits * map_blocks h.span))
    (all_of_range (λ v. agree (volume_bit w s h.span slot v) (list_any (λ (st : Step). st.item.pointer.vvbn == v) ss)) (λ v. rw (same v) (agree_itself (list_any (λ (st : Step). st.item.pointer.vvbn == v) ss))) 0 (block_bits * map_blocks h.span))

abbrev ss : List Step
ss = steps (ground w 0 one_file_head) 13 (rooted 0 7 2)

met : (v : ℕ) → list_any (λ m. m == v) (0 ∷ 1 ∷ []) ≡ list_any (λ (st : Step). st.item.pointer.vvbn == v) ss
unfolding thirds_compute
met v = refl

bits : (v : ℕ) → volume_bit w 0 4096 0 v ≡ list_any (λ m. m == v) (0 ∷ 1 ∷ [])
unfolding views_compute bytes_compute
bits = volume_bit_is w 0 one_file_head 0 3 0 0 (0 ∷ 1 ∷ []) refl refl refl

no_reach : reach_lines w 0 one_file_head 0 ss ≡ []
no_reach = no_reach_from w 0 one_file_head 0 ss (λ v. bits v ∙ met v)

first : volume_told w 0 one_file_head ≡ one_volume
unfolding tables_compute
first = refl

no_span : span_lines w 0 13 one_file_head ≡ []
unfolding span_lines
no_span = none_from _ _ (span_is_wide 200 4096 0 (volume_told w 0 one_file_head) one_volume first no_base (omega arith))

one_uses : use_of one_volume ≤ 2
one_uses = use_alone one_volume 2 refl (few_ids 2 hi) refl

no_use : use_lines w 0 13 one_file_head ≡ []
unfolding use_lines
no_use = none_from _ _ (use_fits (volume_told w 0 one_file_head) one_volume 2 100 first one_uses (omega arith))

commits : has_commits_in_capacity (seen w) ≡ true
unfolding volumes_compute overhead nodes_above
commits = commit_fits (seen w) 140 (ap commit first) refl (omega arith)

-- ---- the passes

-- what is left of a root and of a volume, with what doesn't compute left out
rest_of_table : flat_map kind_lines ss ++ (flat_map mark_lines ss ++ (flat_map (length_lines (flat_map met_in ss)) ss ++ (level_lines 13 0 0 (rooted 0 7 2).root ++ flat_map file_level_lines ss))) ≡ []
unfolding thirds_compute
rest_of_table = refl

table : table_lines w 0 13 one_file_head (0, rooted 0 7 2) ss ≡ []
unfolding table_lines
table = nil_parts (reach_lines w 0 one_file_head 0 ss) _ no_reach rest_of_table

rest_of_volume : one_to_one_lines (root_steps w 0 13 one_file_head ++ base_steps y None) ++ flat_map (stamp_lines 2) (root_steps w 0 13 one_file_head ++ base_steps y None) ≡ []
unfolding thirds_compute
rest_of_volume = refl

kinds : map_kind_lines w 0 13 one_file_head ≡ []
unfolding thirds_compute
kinds = refl

volume : volume_lines y 0 13 one_file_head ≡ []
unfolding volume_lines layout_at view_at
volume = nil_parts (span_lines w 0 13 one_file_head) _ no_span (nil_parts (map_kind_lines w 0 13 one_file_head) _ kinds (nil_parts (table_lines w 0 13 one_file_head (0, rooted 0 7 2) ss ++ []) _ (nil_parts (table_lines w 0 13 one_file_head (0, rooted 0 7 2) ss) [] table refl) rest_of_volume))

once : twice_held y ≡ []
unfolding thirds_compute
once = refl

volumes : in_volumes y (volume_lines y) ≡ []
unfolding heads_compute layouts_compute
volumes = nil_parts (volume_lines y 0 13 one_file_head) [] volume refl

pass_three : third_pass y ≡ []
unfolding third_pass
pass_three = nil_parts (twice_held y) (map_lines y ++ in_volumes y (volume_lines y)) once (nil_parts (map_lines y) (in_volumes y (volume_lines y)) (no_bits y true_map) volumes)

pass_four : fourth_pass 4 y ≡ line 11 7 8 13 ∷ []
unfolding fourths_compute fourth_pass
pass_four = λ i. line 11 7 8 13 ∷ ((no_use i ++ []) ++ (no_commits 4 w commits i ++ []))

-- The whole list has one line: the block that holds the pointer, the right place, and the one that is said.
pub one_line : faults wrong_place ≡ line 11 7 8 13 ∷ []
unfolding roots_compute faults passes ordered
one_line = ap ordered (λ i. or_next (pass_one i) (or_next (pass_two i) (or_next (pass_three i) (pass_four i)))) ∙ one
  where
    one : ordered (line 11 7 8 13 ∷ []) ≡ line 11 7 8 13 ∷ []
    one = refl
