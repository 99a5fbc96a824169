-- When a small image is sound. Most rules compute on it; these lemmas are for the others, where maps have one block with bits in its first
-- three bytes, and volumes have a table with one cell and perhaps a snapshot with another.
use Rattle.std.proofs.Common.{◌≡◌, ℕ, suc, ◌+◌, ◌-◌, ◌*◌, ◌/◌, ◌%◌, ◌<◌, ◌≤◌, Bool, true, false, List, [], ◌∷◌, replicate, refl, sym, ap, subst, ◌∙◌, arith, ⊎_elim}
use Rattle.std.specs.Prelude.{Some, None, ◌&&◌, ◌==◌, nat_le, nat_lt, map, sum_by}
use Rattle.std.specs.Option.{option_map_or}
use Rattle.std.specs.List.{list_all, list_any, range_with_len}
use Rattle.std.specs.FinMap as fin
use Rattle.std.specs.FinSet as set
use Rattle.std.proofs.lemmas.Bool.{and_parts, and_from, cases_lt}
use Rattle.std.proofs.lemmas.Bool.Decides.{nat_tests}
use Rattle.std.proofs.lemmas.List.Sums.{sum_by-cons}
use Rattle.std.proofs.lemmas.Nat.Bits.{bit_at-zero}
use Rattle.fv_disk.specs.Shown.{Image}
use Rattle.fv_bits.specs.Bits.{bit_of_area, bit_of_bytes, bit_of_number}
use Rattle.fv_model.specs.Spelling.{name_cmp}
use Rattle.fv_model.specs.Tables.{Table}
use Rattle.fv_model.specs.Volumes.{Base, Volume}
use Rattle.fv_model.specs.Machines.{capacity}
use Rattle.fv_model.specs.Places.{id_cmp, ids_of}
use Rattle.fv_model.specs.Space.{map_blocks, base_ids, is_file_kind, need, use_of, commit}
use Rattle.fv_laws.proofs.Orders.{name_total, spot_total}
use Rattle.fv_laws.proofs.Paths.{charge_within}
use Rattle.fv_laws.proofs.Release.{no_entries}
use Rattle.fv_tables.specs.Reached.{items, is_listed}
use Rattle.fv_image.specs.Layout.{block_bits, area_blocks, area_place}
use Rattle.fv_image.specs.NewerRoot.{Taken}
use Rattle.fv_image.specs.Maps.{area_bits, map_bit}
use Rattle.fv_image.specs.Views.{Rooted, Head, View, slots, map_vvbn, block_in, volume_bit}
use Rattle.fv_image.specs.Held.{Layout, layout_at, view_at, held, is_held}
use Rattle.fv_image.specs.Volumes.{standing_of}
use Rattle.fv_image.specs.Seen.{Seen, seen}
use Rattle.fv_image.specs.BlockRules.{agree}
use Rattle.fv_image.specs.BlockRules.{has_true_map}
use Rattle.fv_image.specs.ReachRules.{is_reach, has_maps_of_reach}
use Rattle.fv_image.specs.VolumeRules.{has_wide_spans, has_use_in_size, commits_seen, has_commits_in_capacity}
use Rattle.fv_image.specs.Soundness.{IsSound, are_tables, is_sound}
use Rattle.fv_image.proofs.Counting.{len_within}
use Rattle.fv_image.proofs.Empty.{all_of_range}
use Rattle.fv_image.proofs.Kept.{at_number}
use Rattle.fv_image_rows.proofs.SmallTables.{sum_of_one, ids_of_one}
use Rattle.fv_image.proofs.SoundTests.{sound_from_test}
use Rattle.fv_image.proofs.Zeros.{zero_in}
use Rattle.fv_image.proofs.SoundFacts.{agree_same, agree_itself}
use Rattle.fv_image_rows.proofs.Samples.{small_only}
use Rattle.fv_image_rows.proofs.FileVectors.{one_cell, table_of}

-- ---- bits

abbrev pub three_bytes : ℕ → ℕ → ℕ → List ℕ
three_bytes x y z = x ∷ y ∷ z ∷ replicate 4093 0

-- past the third byte of a block no bit is set
past_bytes : (x y z n : ℕ) → 32 ≤ n → bit_of_bytes (three_bytes x y z) n ≡ false
unfolding bit_of_bytes bit_of_number
past_bytes x y z n high =
    let byte : n / 8 ≡ suc (suc (suc (n / 8 - 3))) = omega (arith, high) in
    rw (byte, zero_in 4093 (n / 8 - 3), bit_at-zero (n % 8)) refl

-- whether the bits of the block are those of these numbers, as its first bytes say
abbrev pub are_bits : ℕ → ℕ → ℕ → List ℕ → Bool
are_bits x y z numbers = list_all (λ m. nat_lt m 32) numbers && list_all (λ n. agree (bit_of_bytes (three_bytes x y z) n) (list_any (λ m. m == n) numbers)) (range_with_len 0 32)

bits_are : (x y z : ℕ) (numbers : List ℕ) → are_bits x y z numbers ≡ true → (n : ℕ) → bit_of_bytes (three_bytes x y z) n ≡ list_any (λ m. m == n) numbers
bits_are x y z numbers are n =
    let parts = and_parts (list_all (λ m. nat_lt m 32) numbers) _ are in ⊎_elim
    (λ (low : n < 32). agree_same _ _ (at_number (λ n. agree (bit_of_bytes (three_bytes x y z) n) (list_any (λ m. m == n) numbers)) 0 32 n parts.1 (omega arith) (omega (arith, low))))
    (λ (high : 32 ≤ n). past_bytes x y z n high ∙ sym (small_only numbers n parts.0 high))
    (cases_lt n 32)

-- and so of a map of one block
area_is : (blocks : ℕ → List ℕ) (x y z : ℕ) (numbers : List ℕ) → blocks 0 ≡ three_bytes x y z → are_bits x y z numbers ≡ true → (n : ℕ) → (nat_lt n 32768 && bit_of_area blocks n) ≡ list_any (λ m. m == n) numbers
unfolding bit_of_area
area_is blocks x y z numbers first are n = ⊎_elim
    (λ (inside : n < 32768).
    let test : nat_lt n 32768 ≡ true = grind (arith, nat_tests, inside) in
    let block : n / 32768 ≡ 0 = omega (arith, inside) in
    let same : n % 32768 ≡ n = omega (arith, inside) in
    rw (test, block, same, first) (bits_are x y z numbers are n))
    (λ (past : 32768 ≤ n).
    let test : nat_lt n 32768 ≡ false = grind (arith, nat_tests, past) in
    rw test (sym (small_only numbers n (and_parts (list_all (λ m. nat_lt m 32) numbers) _ are).0 (omega (arith, past)))))
    (cases_lt n 32768)

-- ---- maps

map_bit_is : (t : Taken) (i : Image) (x y z : ℕ) (places : List ℕ) → area_blocks t.blocks ≡ 1 → i (area_place t.blocks t.slot 0) ≡ three_bytes x y z → are_bits x y z places ≡ true → (b : ℕ) → map_bit t i b ≡ list_any (λ m. m == b) places
unfolding map_bit
map_bit_is t i x y z places single block are b =
    ap (λ (count : ℕ). nat_lt b (block_bits * count) && bit_of_area (λ k. i (area_place t.blocks t.slot k)) b) single
    ∙ area_is (λ k. i (area_place t.blocks t.slot k)) x y z places block are b

-- An aggregate map is true where its bits are the places that are held.
pub map_is_true : (t : Taken) (i : Image) (x y z : ℕ) (places : List ℕ) → area_blocks t.blocks ≡ 1 → i (area_place t.blocks t.slot 0) ≡ three_bytes x y z → are_bits x y z places ≡ true → held (layout_at t i) ≡ places
    → has_true_map (layout_at t i) ≡ true
unfolding has_true_map layout_at view_at
map_is_true t i x y z places single block are holds =
    all_of_range (λ b. agree (map_bit t i b) (is_held (layout_at t i) b)) (λ b. rw (map_bit_is t i x y z places single block are b, holds) (agree_itself (list_any (λ m. m == b) places))) 0 (area_bits t.blocks)

pub volume_bit_is : (w : View) (s : ℕ) (h : Head) (slot x y z : ℕ) (vvbns : List ℕ) → map_blocks h.span ≡ 1 → block_in (w.entry s (map_vvbn h.span slot 0)) ≡ three_bytes x y z → are_bits x y z vvbns ≡ true
    → (v : ℕ) → volume_bit w s h.span slot v ≡ list_any (λ m. m == v) vvbns
unfolding volume_bit
volume_bit_is w s h slot x y z vvbns single block are v =
    ap (λ (count : ℕ). nat_lt v (block_bits * count) && bit_of_area (λ k. block_in (w.entry s (map_vvbn h.span slot k))) v) single
    ∙ area_is (λ k. block_in (w.entry s (map_vvbn h.span slot k))) x y z vvbns block are v

-- A volume's map is what a root reaches where its bits are the VVBNs that are listed.
pub map_is_reach : (w : View) (s : ℕ) (h : Head) (slot : ℕ) (r : Rooted) (x y z : ℕ) (vvbns : List ℕ) → map_blocks h.span ≡ 1 → block_in (w.entry s (map_vvbn h.span slot 0)) ≡ three_bytes x y z → are_bits x y z vvbns ≡ true
    → ((v : ℕ) → is_listed (items (standing_of w s r)) v ≡ list_any (λ m. m == v) vvbns) → is_reach w s h (slot, r) ≡ true
map_is_reach w s h slot r x y z vvbns single block are listed =
    all_of_range (λ v. agree (volume_bit w s h.span slot v) (is_listed (items (standing_of w s r)) v)) (λ v. rw (volume_bit_is w s h slot x y z vvbns single block are v, listed v) (agree_itself (list_any (λ m. m == v) vvbns))) 0 (block_bits * map_blocks h.span)

-- ---- numbers of ids

-- the table of one file has an id for its cell and one for its inode cell
pub few_ids : (stamp : ℕ) (content : List ℕ) → set.len (ids_of (table_of stamp content)) ≤ 2
few_ids stamp content =
    let all = ids_of_one (record { name = 102 ∷ []; length = 1; reserve = 0; blocks = fin.from_entries ((0, content) ∷ []); tree = one_cell stamp }) (one_cell stamp) in
    let one = len_within {X = ℕ} spot_total (((0, 0), stamp) ∷ []) in
    omega (arith, all, one)

pub no_base : set.len (base_ids None) ≤ 0
no_base = let none = set.len-empty id_cmp in omega (arith, none)

pub small_base : (b : Base) (stamp : ℕ) (content : List ℕ) → b.table ≡ table_of stamp content → set.len (base_ids (Some b)) ≤ 2
small_base b stamp content is = subst (λ (t : Table). set.len (ids_of t) ≤ 2) (sym is) (few_ids stamp content)

-- A span has room for `most` and 256 more, and for the ids of a base.
pub span_is_wide : (most span n : ℕ) (v u : Volume) → v ≡ u → set.len (base_ids u.base) ≤ n → most + (n + 256) ≤ span → nat_le (most + (set.len (base_ids v.base) + 256)) span ≡ true
span_is_wide most span n v u is few fits =
    let same : set.len (base_ids v.base) ≡ set.len (base_ids u.base) = ap (λ (v : Volume). set.len (base_ids v.base)) is in
    let all : most + (set.len (base_ids v.base) + 256) ≤ span = omega (arith, same, few, fits) in
    grind (arith, nat_tests, all)

no_need : (v : Volume) → is_file_kind v.kind ≡ false → need v ≡ 0
unfolding need
no_need v kind = rw kind refl

sum_mapped : (g : Table → ℕ) (es : List (List ℕ × Table)) → sum_by g (map (λ (e : List ℕ × Table). e.1) es) ≡ sum_by (λ (e : List ℕ × Table). g e.1) es
sum_mapped g [] = refl
sum_mapped g (e ∷ es) =
    let rest = sum_mapped g es in
    let left = sum_by-cons g e.1 (map (λ (e : List ℕ × Table). e.1) es) in
    let right = sum_by-cons (λ (e : List ℕ × Table). g e.1) e es in
    omega (arith, rest, left, right)

-- a volume without snapshots uses at most the ids of its table
pub use_alone : (v : Volume) (n : ℕ) → is_file_kind v.kind ≡ false → set.len (ids_of v.active) ≤ n → v.snapshots ≡ fin.from_entries [] → use_of v ≤ n
use_alone v n kind ids kept =
    let within = charge_within v in
    let none = no_need v kind in
    let count : fin.len v.snapshots ≡ 0 = ap fin.len kept ∙ fin.len-empty name_cmp Table in
    let sum : sum_by (λ (t : Table). set.len (ids_of t)) (fin.values v.snapshots) ≡ 0 = ap (λ (m : fin.FinMap name_cmp Table). sum_by (λ (t : Table). set.len (ids_of t)) (fin.values m)) kept
    ∙ ap (λ (es : List (List ℕ × Table)). sum_by (λ (t : Table). set.len (ids_of t)) (map (λ (e : List ℕ × Table). e.1) es)) (no_entries {X = Table} name_cmp) in
    let maps : map_blocks v.span * fin.len v.snapshots ≡ 0 = rw count (omega arith) in
    omega (arith, within, none, ids, sum, maps)

-- and one with a snapshot those of both tables, and the block of the snapshot's map
pub use_of_two : (v : Volume) (stamp : ℕ) (content : List ℕ) (name : List ℕ) (earlier : ℕ) (old : List ℕ) → is_file_kind v.kind ≡ false → map_blocks v.span ≡ 1 → v.active ≡ table_of stamp content → v.snapshots ≡ fin.from_entries ((name, table_of earlier old) ∷ [])
    → fin.find name_cmp name ((name, table_of earlier old) ∷ []) ≡ Some (table_of earlier old) → use_of v ≤ 5
use_of_two v stamp content name earlier old kind single active kept found =
    let within = charge_within v in
    let none = no_need v kind in
    let ids = subst (λ (t : Table). set.len (ids_of t) ≤ 2) (sym active) (few_ids stamp content) in
    let others = few_ids earlier old in
    let one = len_within {X = Table} name_total ((name, table_of earlier old) ∷ []) in
    let count : fin.len v.snapshots ≤ 1 = subst (λ (m : fin.FinMap name_cmp Table). fin.len m ≤ 1) (sym kept) one in
    let sum : sum_by (λ (t : Table). set.len (ids_of t)) (fin.values v.snapshots) ≡ set.len (ids_of (table_of earlier old)) =
    sum_mapped (λ (t : Table). set.len (ids_of t)) (fin.entries v.snapshots)
    ∙ ap (λ (m : fin.FinMap name_cmp Table). sum_by (λ (e : List ℕ × Table). set.len (ids_of e.1)) (fin.entries m)) kept
    ∙ sum_of_one name_cmp name_total (λ (t : Table). set.len (ids_of t)) name (table_of earlier old) found in
    let maps : map_blocks v.span * fin.len v.snapshots ≤ 1 = rw single (omega (arith, count)) in
    omega (arith, within, none, ids, others, sum, maps)

pub use_fits : (v u : Volume) (n size : ℕ) → v ≡ u → use_of u ≤ n → n ≤ size → nat_le (use_of v) size ≡ true
use_fits v u n size is few fits =
    let same : use_of v ≡ use_of u = ap use_of is in
    let all : use_of v ≤ size = omega (arith, same, few, fits) in
    grind (arith, nat_tests, all)

-- what the volume of a slot commits
abbrev pub commit_at : Seen → ℕ → ℕ
commit_at w s = option_map_or (λ x. commit x.volume) (w.volume s) 0

-- The commits of one volume fit.
pub commit_fits : (w : Seen) (first : ℕ) → commit_at w 0 ≡ first → sum_by (commit_at w) (range_with_len 1 63) ≡ 0 → first ≤ capacity w.blocks → has_commits_in_capacity w ≡ true
unfolding has_commits_in_capacity commits_seen slots
commit_fits w first of_first rest fits =
    let from_first = sum_by-cons (commit_at w) 0 (range_with_len 1 63) in
    let all : commits_seen w ≤ capacity w.blocks = omega (arith, from_first, of_first, rest, fits) in
    grind (arith, nat_tests, all)

-- The commits of two volumes fit, where the second commits a number and what it uses.
pub commits_fit : (w : Seen) (first n most : ℕ) (v : Volume) → commit_at w 0 ≡ first → commit_at w 1 ≡ n + use_of v → sum_by (commit_at w) (range_with_len 2 62) ≡ 0 → use_of v ≤ most → first + (n + most) ≤ capacity w.blocks → has_commits_in_capacity w ≡ true
unfolding has_commits_in_capacity commits_seen slots
commits_fit w first n most v of_first of_second rest few fits =
    let from_first = sum_by-cons (commit_at w) 0 (range_with_len 1 63) in
    let from_second = sum_by-cons (commit_at w) 1 (range_with_len 2 62) in
    let all : commits_seen w ≤ capacity w.blocks = omega (arith, from_first, from_second, of_first, of_second, rest, few, fits) in
    grind (arith, nat_tests, all)

-- ---- soundness

-- what is left of the rules on tables, and of soundness, where the others compute
abbrev pub tables_open : Seen → Bool
tables_open w = has_wide_spans w && (has_use_in_size w && has_commits_in_capacity w)

pub tables_with : (w : Seen) → are_tables w ≡ tables_open w → has_wide_spans w ≡ true → has_use_in_size w ≡ true → has_commits_in_capacity w ≡ true → are_tables w ≡ true
tables_with w computes spans sizes commits = computes ∙ and_from _ _ spans (and_from _ _ sizes commits)

abbrev pub left_open : Layout → Bool
left_open y = has_true_map y && (are_tables (seen y.view) && ((has_maps_of_reach y.view && true) && true))

pub sound_with : (y : Layout) → is_sound y ≡ left_open y → has_true_map y ≡ true → are_tables (seen y.view) ≡ true → has_maps_of_reach y.view ≡ true → IsSound y
sound_with y computes map tables reach = sound_from_test y (computes ∙ and_from _ _ map (and_from _ _ tables (and_from _ true (and_from _ true reach refl) refl)))
