-- An image with a file of two levels, as an independent implementation of the format wrote it: it tells the machine of its script and is
-- sound. What its tree lists and reaches goes by the laws of `DeepTrees`, and all else computes. Then changes of it that rules refuse.
use Rattle.std.proofs.Common.{◌≡◌, ℕ, zero, suc, ◌≤◌, Bool, true, false, not, List, [], ◌∷◌, ◌++◌, replicate, refl, sym, ap, subst, ◌∙◌, arith, get_or}
use Rattle.std.specs.Prelude.{Option, Some, None, map, ◌&&◌, ◌==◌, if◌then◌else◌, nat_lt}
use Rattle.std.specs.Option.{option_map}
use Rattle.std.specs.FinMap as fin
use Rattle.std.specs.FinSet as set
use Rattle.std.proofs.lemmas.Bool.{and_from}
use Rattle.std.proofs.lemmas.Bool.Decides.{nat_tests}
use Rattle.fv_disk.specs.Shown.{Image}
use Rattle.fv_codec.specs.declared.pointer.Pointer.{Pointer}
use Rattle.fv_codec.specs.declared.inode.InodeRecord.{InodeRecord}
use Rattle.fv_codec.specs.Bytes.{zeros}
use Rattle.fv_codec.specs.Blocks.{greatest_word}
use Rattle.fv_model.specs.Trees.{Spot}
use Rattle.fv_model.specs.Tables.{File, Table}
use Rattle.fv_model.specs.Machines.{Machine}
use Rattle.fv_model.specs.Places.{ids_of}
use Rattle.fv_model.specs.Space.{use_of}
use Rattle.fv_laws.proofs.Orders.{spot_total}
use Rattle.fv_tables.specs.Spelled.{Rooted, hole, stored}
use Rattle.fv_tables.specs.Told.{Standing, tree_told, cells_told, file_told, file_in, records, table_told}
use Rattle.fv_tables.specs.Reached.{Item, tree_items, items as table_items, is_listed}
use Rattle.fv_image.specs.NewerRoot.{Taken}
use Rattle.fv_image.specs.Views.{Head, View, head_at_slot, label_records}
use Rattle.fv_image.specs.Held.{layout_at, view_at, lying_at, label_place, label_in}
use Rattle.fv_image.specs.Chains.{under}
use Rattle.fv_image.specs.Volumes.{standing_of, volume_with, volumes_with, told_with, volume_told, told}
use Rattle.fv_image.specs.Seen.{VolumeSeen, Seen, reached_at, root_seen, base_seen, volume_seen, head_at, seen}
use Rattle.fv_image.specs.BlockRules.{has_true_map}
use Rattle.fv_image.specs.ReachRules.{has_maps_of_reach}
use Rattle.fv_image.specs.TableRules.{has_marks_over}
use Rattle.fv_image.specs.HintRules.{leads_unknown}
use Rattle.fv_image.specs.VolumeRules.{has_wide_spans, has_use_in_size, commits_seen, has_commits_in_capacity}
use Rattle.fv_image.specs.Soundness.{IsSound, are_tables}
use Rattle.fv_image_rows.proofs.Computing.{bytes_compute, roots_compute, heads_compute, pointers_compute, views_compute, layouts_compute, rules_compute, space_compute, soundness_computes}
use Rattle.fv_image.proofs.Counting.{len_within}
use Rattle.fv_image_rows.proofs.DeepTrees.{IsDeep, deep_tree, deep_cells, deep_items}
use Rattle.fv_image_rows.proofs.FileFaults.{with_block, first_blocks, second_pass, third_pass}
use Rattle.fv_image_rows.proofs.FileVectors.{super_1024, gate, first_root, hi, map_leaf, inner_with, taken, rooted, head_whole, one_cell, machine_with, whole}
use Rattle.fv_image_rows.proofs.SmallImages.{map_is_true, map_is_reach, no_base, span_is_wide, use_alone, use_fits, tables_with, sound_with}
use Rattle.fv_image_rows.proofs.SmallTables.{ids_of_one}
use Rattle.fv_image_rows.proofs.SoundFiles.{Means}
use Rattle.fv_image_rows.proofs.Vectors.{image_of}
use Rattle.fv_image.proofs.Zeros.{zero_in}

-- ---- the image

-- its inode block by the stamp of the file's root, the topmost node by the stamp of its first mark, and the node of the first 128 cells by
-- the place of the first
abbrev inodes : ℕ → List ℕ
inodes stamp = 70 ∷ 86 ∷ 73 ∷ 78 ∷ 79 ∷ 68 ∷ 69 ∷ 83 ∷ (zeros 248 ++ (1 ∷ 102 ∷ (zeros 77 ++ (129 ∷ (zeros 15 ++ (2 ∷ (zeros 7 ++ (1 ∷ (zeros 7 ++ (8 ∷ (zeros 7 ++ (stamp ∷ zeros 3720))))))))))))

abbrev top_node : ℕ → List ℕ
top_node stamp = 70 ∷ 86 ∷ 78 ∷ 79 ∷ 68 ∷ 69 ∷ 48 ∷ 48 ∷ (zeros 7 ++ (2 ∷ (zeros 1015 ++ (2 ∷ (zeros 7 ++ (9 ∷ (zeros 7 ++ (stamp ∷ (zeros 7 ++ (3 ∷ (zeros 7 ++ (10 ∷ (zeros 7 ++ (4 ∷ zeros 3024))))))))))))))

abbrev first_node : ℕ → List ℕ
first_node place = 70 ∷ 86 ∷ 78 ∷ 79 ∷ 68 ∷ 69 ∷ 48 ∷ 48 ∷ (zeros 7 ++ (1 ∷ (zeros 1015 ++ (4 ∷ (zeros 7 ++ (place ∷ (zeros 7 ++ (2 ∷ (zeros 7 ++ (5 ∷ (zeros 7 ++ (12 ∷ (zeros 7 ++ (3 ∷ zeros 3024))))))))))))))

abbrev levels : Image
levels = image_of (
    super_1024 ∷ gate ∷ gate ∷ first_root ∷
    (70 ∷ 86 ∷ 82 ∷ 79 ∷ 79 ∷ 84 ∷ 48 ∷ 48 ∷ (zeros 7 ++ (2 ∷ (zeros 7 ++ (1 ∷ (zeros 47 ++ (18 ∷ zeros 4024))))))) ∷
    zeros 4096 ∷
    (128 ∷ 255 ∷ 7 ∷ zeros 4093) ∷
    inodes 4 ∷
    top_node 3 ∷
    first_node 11 ∷
    (70 ∷ 86 ∷ 78 ∷ 79 ∷ 68 ∷ 69 ∷ 48 ∷ 48 ∷ (zeros 7 ++ (1 ∷ (zeros 15 ++ (1 ∷ (zeros 999 ++ (6 ∷ (zeros 7 ++ (13 ∷ (zeros 7 ++ (4 ∷ zeros 3048))))))))))) ∷
    hi ∷
    (1 ∷ zeros 4095) ∷
    (1 ∷ zeros 4095) ∷
    (127 ∷ zeros 4095) ∷
    (70 ∷ 86 ∷ 67 ∷ 76 ∷ 69 ∷ 65 ∷ 70 ∷ 48 ∷ (zeros 1023 ++ (7 ∷ 0 ∷ 0 ∷ 0 ∷ 5 ∷ (zeros 7 ++ (8 ∷ 0 ∷ 0 ∷ 0 ∷ 3 ∷ (zeros 7 ++ (9 ∷ 0 ∷ 0 ∷ 0 ∷ 2 ∷ (zeros 7 ++ (10 ∷ 0 ∷ 0 ∷ 0 ∷ 2 ∷ (zeros 7 ++ (11 ∷ 0 ∷ 0 ∷ 0 ∷ 1 ∷ (zeros 7 ++ (12 ∷ 0 ∷ 0 ∷ 0 ∷ 1 ∷ (zeros 7 ++ (13 ∷ 0 ∷ 0 ∷ 0 ∷ 1 ∷ zeros 2988))))))))))))))) ∷
    map_leaf 14 ∷
    inner_with 15 16 ∷
    (70 ∷ 86 ∷ 76 ∷ 65 ∷ 66 ∷ 69 ∷ 76 ∷ 48 ∷ (zeros 7 ++ (1 ∷ 97 ∷ (zeros 78 ++ (100 ∷ (zeros 7 ++ (200 ∷ (zeros 6 ++ (16 ∷ (zeros 8 ++ (4 ∷ (zeros 31 ++ (1 ∷ (zeros 7 ++ (17 ∷ (zeros 7 ++ (1 ∷ (zeros 23 ++ (7 ∷ (zeros 7 ++ (4 ∷ zeros 3896))))))))))))))))))))) ∷ [])

abbrev levels_root : Taken
levels_root = taken (18 ∷ replicate 63 0)

abbrev view_of : Image → View
view_of i = view_at levels_root i

abbrev head : Head
head = head_whole 4 (rooted 0 7 4) []

abbrev table_in : Image → Standing
table_in i = standing_of (view_of i) 0 head.active

abbrev known : ℕ → ℕ → ℕ → Pointer
known vvbn pvbn stamp = record { vvbn = vvbn; pvbn = pvbn; stamp = stamp }

-- the tree of its file
abbrev tree_in : Image → Pointer → Rooted
tree_in i root = stored (under (view_of i) 0) 0 2 root

abbrev item_at : ℕ → ℕ → Pointer → Pointer → Item
item_at level place p holder = record { owner = 0; levels = 2; level = level; place = place; pointer = p; holder = holder }

abbrev inode_item : Item
inode_item = record { owner = greatest_word; levels = 0; level = 0; place = 0; pointer = known 0 7 4; holder = hole }

-- what it reaches: the inode block, and the tree's cells and marks
abbrev reached_by : Pointer → Pointer → Pointer → Pointer → Pointer → Pointer → List Item
reached_by root a b c d e = inode_item ∷ item_at 0 0 c a ∷ item_at 0 1 d a ∷ item_at 0 128 e b ∷ item_at 1 0 a root ∷ item_at 1 1 b root ∷ item_at 2 0 root (known 0 7 4) ∷ []

-- ---- its tree, and the machine

levels_deep : IsDeep (tree_in levels (known 1 8 4)) (known 2 9 3) (known 3 10 4) (known 4 11 2) (known 5 12 3) (known 6 13 4)
unfolding pointers_compute
levels_deep = record { levels = refl; under_root = refl; under_first = refl; under_second = refl }

abbrev marked : List (Spot × ℕ)
marked = ((0, 0), 2) ∷ ((0, 1), 3) ∷ ((0, 128), 4) ∷ ((1, 0), 3) ∷ ((1, 1), 4) ∷ ((2, 0), 4) ∷ []

abbrev written : List (ℕ × List ℕ)
written = (0, hi) ∷ (1, 1 ∷ zeros 4095) ∷ (128, 1 ∷ zeros 4095) ∷ []

abbrev file : File
file = record { name = 102 ∷ []; length = 129; reserve = 0; blocks = fin.from_entries written; tree = record { levels = 2; stamps = fin.from_entries marked } }

abbrev record_with : Pointer → InodeRecord
record_with root = record { name_length = 1; name = 102 ∷ replicate 63 0; length = 129; reserve = 0; levels = 2; root = root }

tree_is : tree_told (tree_in levels (known 1 8 4)) ≡ file.tree
unfolding pointers_compute
tree_is = deep_tree (under (view_of levels) 0) 0 (known 1 8 4) (known 2 9 3) (known 3 10 4) (known 4 11 2) (known 5 12 3) (known 6 13 4) levels_deep

cells_are : cells_told (tree_in levels (known 1 8 4)) ≡ file.blocks
unfolding pointers_compute
cells_are = deep_cells (under (view_of levels) 0) 0 (known 1 8 4) (known 2 9 3) (known 3 10 4) (known 4 11 2) (known 5 12 3) (known 6 13 4) levels_deep

file_is : file_told (tree_in levels (known 1 8 4)) (record_with (known 1 8 4)) ≡ file
unfolding file_told
file_is = λ i. record { name = 102 ∷ []; length = 129; reserve = 0; blocks = cells_are i; tree = tree_is i }

abbrev table_with : File → Table
table_with f = record { files = fin.from_entries ((0, f) ∷ []); inode = one_cell 4 }

table_from : table_told (table_in levels) ≡ table_with (file_told (tree_in levels (known 1 8 4)) (record_with (known 1 8 4)))
unfolding views_compute tree_told file_in table_told
table_from = refl

table_is : table_told (table_in levels) ≡ table_with file
table_is = table_from ∙ ap table_with file_is

abbrev machine_of_table : Table → Machine
machine_of_table a = machine_with ((97 ∷ [], whole 4 a []) ∷ [])

told_is : told (view_of levels) ≡ machine_of_table (table_told (table_in levels))
unfolding heads_compute volume_with volumes_with told_with
told_is = refl

-- ---- what is reached

inode_items : tree_items hole (table_in levels).inode ≡ inode_item ∷ []
unfolding views_compute
inode_items = refl

levels_items : table_items (table_in levels) ≡ reached_by (known 1 8 4) (known 2 9 3) (known 3 10 4) (known 4 11 2) (known 5 12 3) (known 6 13 4)
unfolding pointers_compute table_items
levels_items =
    let of_file = deep_items (under (view_of levels) 0) 0 (known 1 8 4) (known 2 9 3) (known 3 10 4) (known 4 11 2) (known 5 12 3) (known 6 13 4) levels_deep (known 0 7 4) in
    λ i. inode_items i ++ (of_file i ++ [])

-- Each mark counts as reached, as cells do: the topmost, one below it, and the inode block.
top_reached : is_listed (table_items (table_in levels)) 1 ≡ true
top_reached = ap (λ (es : List Item). is_listed es 1) levels_items

mark_reached : is_listed (table_items (table_in levels)) 2 ≡ true
mark_reached = ap (λ (es : List Item). is_listed es 2) levels_items

block_reached : is_listed (table_items (table_in levels)) 0 ≡ true
block_reached = ap (λ (es : List Item). is_listed es 0) levels_items

-- ---- what the rules look at

abbrev volume_with_items : Image → List Item → VolumeSeen
volume_with_items i es = record {
  head = head;
  volume = volume_told (view_of i) 0 head;
  roots = record { map = 0; rooted = head.active; files = records (table_in i); reached = map (reached_at (view_of i) 0) es } ∷ [];
  base = [];
}

abbrev seen_with : Image → List Item → Seen
seen_with i es = record { blocks = 1024; version = 1; volume = λ s. if s == 0 then Some (volume_with_items i es) else None }

-- no other slot has a label
no_place : (s : ℕ) → label_place levels_root (suc s) ≡ 0
unfolding label_place
no_place s = so (nat_lt (suc s) 64)
  where
    so : (inside : Bool) → ◌≡◌ {A = ℕ} (if inside then get_or (18 ∷ replicate 63 0) (suc s) 0 else 0) 0
    so true = zero_in 63 s
    so false = refl

no_head : (i : Image) (s : ℕ) → head_at (view_of i) (suc s) ≡ None
unfolding view_at label_in
no_head i s = ap (λ (p : ℕ). if nat_lt (suc s) 64 then option_map (λ l. head_at_slot 1 l (label_records l)) (label_in (lying_at i p)) else None) (no_place s) ∙ so (nat_lt (suc s) 64)
  where
    so : (inside : Bool) → ◌≡◌ {A = Option Head} (if inside then None else None) None
    so true = refl
    so false = refl

volume_at : (i : Image) (es : List Item) → (view_of i).head 0 ≡ Some head → table_items (table_in i) ≡ es → (s : ℕ) → option_map (volume_seen (view_of i) s) (head_at (view_of i) s) ≡ (if s == 0 then Some (volume_with_items i es) else None)
unfolding volume_seen root_seen base_seen
volume_at i es there are zero = ap (option_map (volume_seen (view_of i) 0)) there ∙ (λ k. Some (volume_with_items i (are k)))
volume_at i es there are (suc s) =
    let other : (suc s == 0) ≡ false = grind (arith, nat_tests) in
    ap (option_map (volume_seen (view_of i) (suc s))) (no_head i s) ∙ sym (ap (λ (b : Bool). if b then Some (volume_with_items i es) else None) other)

seen_is : (i : Image) (es : List Item) → (view_of i).head 0 ≡ Some head → table_items (table_in i) ≡ es → seen (view_of i) ≡ seen_with i es
unfolding seen view_at
seen_is i es there are = λ k. record { blocks = 1024; version = 1; volume = λ s. volume_at i es there are s k }

-- ---- it is sound

head_is : (view_of levels).head 0 ≡ Some head
unfolding heads_compute
head_is = refl

abbrev levels_shown : Seen
levels_shown = seen_with levels (reached_by (known 1 8 4) (known 2 9 3) (known 3 10 4) (known 4 11 2) (known 5 12 3) (known 6 13 4))

-- the file has six ids, and the inode file one
levels_ids : set.len (ids_of (table_told (table_in levels))) ≤ 7
levels_ids =
    let all = ids_of_one file (one_cell 4) in
    let one = len_within {X = ℕ} spot_total (((0, 0), 4) ∷ []) in
    let six = len_within {X = ℕ} spot_total marked in
    let few : set.len (ids_of (table_with file)) ≤ 7 = omega (arith, all, one, six) in
    subst (λ (t : Table). set.len (ids_of t) ≤ 7) (sym table_is) few

levels_uses : use_of (volume_told (view_of levels) 0 head) ≤ 7
unfolding volume_with
levels_uses = use_alone (volume_told (view_of levels) 0 head) 7 refl levels_ids refl

levels_spans : has_wide_spans levels_shown ≡ true
unfolding rules_compute volume_with has_wide_spans
levels_spans = and_from _ true (span_is_wide 200 4096 0 (volume_told (view_of levels) 0 head) (volume_told (view_of levels) 0 head) refl no_base (omega arith)) refl

levels_sizes : has_use_in_size levels_shown ≡ true
unfolding rules_compute has_use_in_size
levels_sizes = and_from _ true (use_fits (volume_told (view_of levels) 0 head) (volume_told (view_of levels) 0 head) 7 100 refl levels_uses (omega arith)) refl

levels_commits : has_commits_in_capacity levels_shown ≡ true
unfolding rules_compute space_compute volume_with commits_seen has_commits_in_capacity
levels_commits = refl

levels_tests : are_tables levels_shown ≡ true
unfolding rules_compute are_tables
levels_tests = tables_with levels_shown refl levels_spans levels_sizes levels_commits

levels_tables : are_tables (seen (view_of levels)) ≡ true
levels_tables = ap are_tables (seen_is levels _ head_is levels_items) ∙ levels_tests

levels_map : has_true_map (layout_at levels_root levels) ≡ true
unfolding layouts_compute bytes_compute
levels_map = map_is_true levels_root levels 128 255 7 (18 ∷ 15 ∷ 16 ∷ 17 ∷ 7 ∷ 8 ∷ 9 ∷ 10 ∷ 11 ∷ 12 ∷ 13 ∷ 14 ∷ []) refl refl refl refl

levels_reach : has_maps_of_reach (view_of levels) ≡ true
unfolding pointers_compute bytes_compute has_maps_of_reach
levels_reach = and_from _ true (and_from _ true (map_is_reach (view_of levels) 0 head 0 head.active 127 0 0 (0 ∷ 4 ∷ 5 ∷ 6 ∷ 2 ∷ 3 ∷ 1 ∷ []) refl refl refl (λ v. ap (λ (es : List Item). is_listed es v) levels_items)) refl) refl

levels_sound : IsSound (layout_at levels_root levels)
unfolding soundness_computes
levels_sound = sound_with (layout_at levels_root levels) refl levels_map levels_tables levels_reach

-- The image is sound, and tells the machine of its script.
levels_means : Means levels levels_root (machine_of_table (table_with file))
unfolding roots_compute
levels_means = record { counts = refl; sound = levels_sound; machine = told_is ∙ ap machine_of_table table_is }

-- ---- changes of one field that a rule refuses, and no rule of an earlier pass

-- Rule 10, marks: one with a stamp below that of a cell under it.
abbrev lowered : Image
lowered = with_block 8 (top_node 2) levels

lowered_inode : tree_items hole (table_in lowered).inode ≡ inode_item ∷ []
unfolding views_compute
lowered_inode = refl

lowered_items : table_items (table_in lowered) ≡ reached_by (known 1 8 4) (known 2 9 2) (known 3 10 4) (known 4 11 2) (known 5 12 3) (known 6 13 4)
unfolding pointers_compute table_items
lowered_items =
    let deep : IsDeep (tree_in lowered (known 1 8 4)) (known 2 9 2) (known 3 10 4) (known 4 11 2) (known 5 12 3) (known 6 13 4) = record { levels = refl; under_root = refl; under_first = refl; under_second = refl } in
    let of_file = deep_items (under (view_of lowered) 0) 0 (known 1 8 4) (known 2 9 2) (known 3 10 4) (known 4 11 2) (known 5 12 3) (known 6 13 4) deep (known 0 7 4) in
    λ i. lowered_inode i ++ (of_file i ++ [])

lowered_test : (first_blocks (layout_at levels_root lowered) && (second_pass (seen_with lowered (reached_by (known 1 8 4) (known 2 9 2) (known 3 10 4) (known 4 11 2) (known 5 12 3) (known 6 13 4))) && not (has_marks_over (seen_with lowered (reached_by (known 1 8 4) (known 2 9 2) (known 3 10 4) (known 4 11 2) (known 5 12 3) (known 6 13 4)))))) ≡ true
unfolding layouts_compute rules_compute
lowered_test = refl

lowered_refused : (first_blocks (layout_at levels_root lowered) && (second_pass (seen (view_of lowered)) && not (has_marks_over (seen (view_of lowered))))) ≡ true
unfolding heads_compute
lowered_refused = ap (λ (w : Seen). first_blocks (layout_at levels_root lowered) && (second_pass w && not (has_marks_over w))) (seen_is lowered _ refl lowered_items) ∙ lowered_test

-- Rule 10, marks: the topmost with a stamp below that of one under it.
abbrev low_root : Image
low_root = with_block 7 (inodes 3) levels

low_root_inode : tree_items hole (table_in low_root).inode ≡ inode_item ∷ []
unfolding views_compute
low_root_inode = refl

low_root_items : table_items (table_in low_root) ≡ reached_by (known 1 8 3) (known 2 9 3) (known 3 10 4) (known 4 11 2) (known 5 12 3) (known 6 13 4)
unfolding pointers_compute table_items
low_root_items =
    let deep : IsDeep (tree_in low_root (known 1 8 3)) (known 2 9 3) (known 3 10 4) (known 4 11 2) (known 5 12 3) (known 6 13 4) = record { levels = refl; under_root = refl; under_first = refl; under_second = refl } in
    let of_file = deep_items (under (view_of low_root) 0) 0 (known 1 8 3) (known 2 9 3) (known 3 10 4) (known 4 11 2) (known 5 12 3) (known 6 13 4) deep (known 0 7 4) in
    λ i. low_root_inode i ++ (of_file i ++ [])

low_root_test : (first_blocks (layout_at levels_root low_root) && (second_pass (seen_with low_root (reached_by (known 1 8 3) (known 2 9 3) (known 3 10 4) (known 4 11 2) (known 5 12 3) (known 6 13 4))) && not (has_marks_over (seen_with low_root (reached_by (known 1 8 3) (known 2 9 3) (known 3 10 4) (known 4 11 2) (known 5 12 3) (known 6 13 4)))))) ≡ true
unfolding layouts_compute rules_compute
low_root_test = refl

low_root_refused : (first_blocks (layout_at levels_root low_root) && (second_pass (seen (view_of low_root)) && not (has_marks_over (seen (view_of low_root))))) ≡ true
unfolding heads_compute
low_root_refused = ap (λ (w : Seen). first_blocks (layout_at levels_root low_root) && (second_pass w && not (has_marks_over w))) (seen_is low_root _ refl low_root_items) ∙ low_root_test

-- Rule 12: a known pointer to a node with an unknown one.
abbrev over_unknown : Image
over_unknown = with_block 9 (first_node 0) levels

over_unknown_inode : tree_items hole (table_in over_unknown).inode ≡ inode_item ∷ []
unfolding views_compute
over_unknown_inode = refl

over_unknown_items : table_items (table_in over_unknown) ≡ reached_by (known 1 8 4) (known 2 9 3) (known 3 10 4) (known 4 0 2) (known 5 12 3) (known 6 13 4)
unfolding pointers_compute table_items
over_unknown_items =
    let deep : IsDeep (tree_in over_unknown (known 1 8 4)) (known 2 9 3) (known 3 10 4) (known 4 0 2) (known 5 12 3) (known 6 13 4) = record { levels = refl; under_root = refl; under_first = refl; under_second = refl } in
    let of_file = deep_items (under (view_of over_unknown) 0) 0 (known 1 8 4) (known 2 9 3) (known 3 10 4) (known 4 0 2) (known 5 12 3) (known 6 13 4) deep (known 0 7 4) in
    λ i. over_unknown_inode i ++ (of_file i ++ [])

over_unknown_test : (first_blocks (layout_at levels_root over_unknown) && (third_pass (seen_with over_unknown (reached_by (known 1 8 4) (known 2 9 3) (known 3 10 4) (known 4 0 2) (known 5 12 3) (known 6 13 4))) && not (leads_unknown (seen_with over_unknown (reached_by (known 1 8 4) (known 2 9 3) (known 3 10 4) (known 4 0 2) (known 5 12 3) (known 6 13 4)))))) ≡ true
unfolding layouts_compute rules_compute
over_unknown_test = refl

over_unknown_refused : (first_blocks (layout_at levels_root over_unknown) && (third_pass (seen (view_of over_unknown)) && not (leads_unknown (seen (view_of over_unknown))))) ≡ true
unfolding heads_compute
over_unknown_refused = ap (λ (w : Seen). first_blocks (layout_at levels_root over_unknown) && (third_pass w && not (leads_unknown w))) (seen_is over_unknown _ refl over_unknown_items) ∙ over_unknown_test
