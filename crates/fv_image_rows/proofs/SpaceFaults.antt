-- Changes of one field of a label that the rules on spans and use refuse, and bounds that they keep: by laws on numbers of ids.
use Rattle.std.proofs.Common.{◌≡◌, ℕ, zero, suc, ◌+◌, ◌*◌, ◌≤◌, Bool, true, false, not, List, ◌∷◌, ◌++◌, length, replicate, refl, sym, ap, ◌∙◌, arith}
use Rattle.std.specs.Prelude.{if◌then◌else◌, get_or, count_by, Option, Some, None, ◌&&◌, ◌||◌, nat_le, nat_lt, map}
use Rattle.std.specs.FinMap as fin
use Rattle.std.specs.FinSet as set
use Rattle.std.proofs.lemmas.Bool.{and_left, and_from}
use Rattle.std.proofs.lemmas.Bool.Decides.{nat_tests}
use Rattle.fv_codec.specs.Bytes.{zeros}
use Rattle.fv_model.specs.Spelling.{name_cmp}
use Rattle.fv_model.specs.Tables.{Table}
use Rattle.fv_model.specs.Volumes.{Volume}
use Rattle.fv_model.specs.Places.{Ids, id_cmp, ids_of}
use Rattle.fv_model.specs.Space.{map_blocks, ids_in_any, charge, need, use_of}
use Rattle.fv_laws.proofs.Orders.{id_total, id_ties}
use Rattle.fv_laws.proofs.Release.{no_entries}
use Rattle.fv_image.specs.Views.{is_own, Head, vvbns}
use Rattle.fv_image.specs.Held.{Lying, Layout, lying_at, layout_at, view_at, label_place}
use Rattle.fv_image.specs.Volumes.{volume_told}
use Rattle.fv_image.specs.Seen.{seen}
use Rattle.fv_image.specs.VolumeRules.{has_wide_spans, has_use_in_size}
use Rattle.fv_image.proofs.Counted.{image_has_heads}
use Rattle.fv_image.proofs.LabelNumbers.{sound_uses_own}
use Rattle.fv_image.proofs.Zeros.{zero_in}
use Rattle.fv_image_rows.proofs.Computing.{heads_compute, volumes_compute, tables_compute, layouts_compute, rules_compute, space_compute}
use Rattle.fv_image_rows.proofs.SmallImages.{no_base, span_is_wide, use_fits}
use Rattle.fv_image_rows.proofs.FileVectors.{hi, base_of, table_of, thin, one_file, one_file_root, one_file_view, one_file_head, one_volume, splitting, splitting_root, parent_volume}
use Rattle.fv_image_rows.proofs.FileFaults.{with_block, after_two, after_three, last_pass}
use Rattle.fv_image_rows.proofs.SoundFiles.{one_file_sound, parent_uses}

-- the image of one file with another size, or another greatest size, of which this is the number and these the last two bytes
abbrev with_size : ℕ → Layout
with_size size = layout_at one_file_root (with_block 13 (70 ∷ 86 ∷ 76 ∷ 65 ∷ 66 ∷ 69 ∷ 76 ∷ 48 ∷ (zeros 7 ++ (1 ∷ 97 ∷ (zeros 78 ++ (size ∷ (zeros 7 ++ (200 ∷ (zeros 6 ++ (16 ∷ (zeros 8 ++ (2 ∷ (zeros 31 ++ (1 ∷ (zeros 7 ++ (12 ∷ (zeros 7 ++ (1 ∷ (zeros 23 ++ (7 ∷ (zeros 7 ++ (2 ∷ zeros 3896))))))))))))))))))))) one_file)

abbrev with_most : ℕ → ℕ → Layout
with_most high low = layout_at one_file_root (with_block 13 (70 ∷ 86 ∷ 76 ∷ 65 ∷ 66 ∷ 69 ∷ 76 ∷ 48 ∷ (zeros 7 ++ (1 ∷ 97 ∷ (zeros 78 ++ (100 ∷ (zeros 6 ++ (high ∷ low ∷ (zeros 6 ++ (16 ∷ (zeros 8 ++ (2 ∷ (zeros 31 ++ (1 ∷ (zeros 7 ++ (12 ∷ (zeros 7 ++ (1 ∷ (zeros 23 ++ (7 ∷ (zeros 7 ++ (2 ∷ zeros 3896))))))))))))))))))))) one_file)

-- ---- a volume that uses more than its size

label_or_none : (inside : Bool) (p : ℕ) → p ≡ 0 → (x : Lying) → lying_at one_file (if inside then p else 0) ≡ Some x → length x.block ≡ 4096
label_or_none true p none x is = absurd (differ (sym (ap (lying_at one_file) none) ∙ is))
  where
    differ : ◌≡◌ {A = Option Lying} None (Some x) → ⊥
    differ e = cc
label_or_none false p none x is = absurd cc

label_long : (s : ℕ) (x : Lying) → (layout_at one_file_root one_file).label s ≡ Some x → length x.block ≡ 4096
unfolding layout_at label_place zeros
label_long zero x is = let same : one_file 13 ≡ x.block = cc in sym (ap (λ (b : List ℕ). length b) same) ∙ long
  where
    long : length (one_file 13) ≡ 4096
    long = refl
label_long (suc s) x is = label_or_none (nat_lt (suc s) 64) (get_or (13 ∷ replicate 63 0) (suc s) 0) (zero_in 63 s) x is

head_is : one_file_view.head 0 ≡ Some one_file_head
unfolding heads_compute
head_is = refl

volume_is : volume_told one_file_view 0 one_file_head ≡ one_volume
unfolding tables_compute
volume_is = refl

two_own : count_by (is_own one_file_view 0 one_file_head) (vvbns 4096) ≡ 2
unfolding space_compute
two_own = refl

uses_two : 2 ≤ use_of one_volume
unfolding layout_at view_at
uses_two =
    let least = (sound_uses_own (layout_at one_file_root one_file) (image_has_heads one_file_root one_file) label_long one_file_sound).own 0 one_file_head (omega arith) head_is in
    let same : use_of (volume_told one_file_view 0 one_file_head) ≡ use_of one_volume = ap use_of volume_is in
    let own = two_own in
    omega (arith, least, same, own)

abbrev small_head : Head
small_head = record one_file_head { size = 1 }

small_is : volume_told (with_size 1).view 0 small_head ≡ record one_volume { size = 1 }
unfolding tables_compute layouts_compute
small_is = refl

same_use : use_of (record one_volume { size = 1 }) ≡ use_of one_volume
unfolding charge need
same_use = refl

-- Rule 14: a size below the use.
small_refused : has_use_in_size (seen (with_size 1).view) ≡ false
unfolding layouts_compute volumes_compute has_use_in_size
small_refused = and_left _ true passes
  where
    passes : nat_le (use_of (volume_told (with_size 1).view 0 small_head)) 1 ≡ false
    passes =
        let told : use_of (volume_told (with_size 1).view 0 small_head) ≡ use_of (record one_volume { size = 1 }) = ap use_of small_is in
        let same = same_use in
        let two = uses_two in
        let more : 2 ≤ use_of (volume_told (with_size 1).view 0 small_head) = omega (arith, told, same, two) in
        grind (arith, nat_tests, more)

-- and no rule of an earlier pass does
small_before : after_three (with_size 1) ≡ true
unfolding layouts_compute rules_compute
small_before = refl

-- ---- a span without room for the greatest size

-- Rule 2: a span without room for `most` and 256 more, and one with just that.
narrow_refused : has_wide_spans (seen (with_most 15 1).view) ≡ false
unfolding tables_compute layouts_compute volumes_compute has_wide_spans
narrow_refused = and_left _ true (ap (λ (n : ℕ). nat_le (3841 + (n + 256)) 4096) (set.len-empty id_cmp))

wide_enough : has_wide_spans (seen (with_most 15 0).view) ≡ true
unfolding tables_compute layouts_compute volumes_compute has_wide_spans
wide_enough = and_from _ true (span_is_wide 3840 4096 0 (record one_volume { most = 3840 }) (record one_volume { most = 3840 }) refl no_base (omega arith)) refl

-- and no rule of an earlier pass refuses the first
narrow_before : after_two (with_most 15 1) ≡ true
unfolding layouts_compute rules_compute
narrow_before = refl

-- ---- what a clone isn't charged for

-- a clone as it is made, of size 1: its root is that of its base, whose two ids aren't its own
abbrev fresh : Layout
fresh = layout_at splitting_root (with_block 20 (70 ∷ 86 ∷ 76 ∷ 65 ∷ 66 ∷ 69 ∷ 76 ∷ 48 ∷ (zeros 7 ++ (1 ∷ 99 ∷ (zeros 70 ++ (2 ∷ (zeros 7 ++ (1 ∷ (zeros 7 ++ (200 ∷ (zeros 6 ++ (16 ∷ (zeros 8 ++ (3 ∷ (zeros 7 ++ (1 ∷ (zeros 7 ++ (1 ∷ (zeros 15 ++ (1 ∷ (zeros 7 ++ (19 ∷ (zeros 7 ++ (1 ∷ (zeros 23 ++ (7 ∷ (zeros 7 ++ (2 ∷ zeros 3896))))))))))))))))))))))))))) splitting)

abbrev fresh_volume : Volume
fresh_volume = record (thin 3 (table_of 2 hi) (Some (base_of false)) true) { size = 1 }

nothing_left : (s : Ids) → set.difference (set.union s set.empty) s ≡ set.empty
nothing_left s = set.same_set id_total id_ties _ _ (λ q.
    set.contains-difference id_total (set.union s set.empty) s q
    ∙ ap (λ b. b && not (set.contains s q)) (set.contains-union id_total s set.empty q ∙ ap (λ b. set.contains s q || b) (set.contains-empty id_cmp q))
    ∙ never (set.contains s q) ∙ sym (set.contains-empty id_cmp q))
  where
    never : (b : Bool) → ((b || false) && not b) ≡ false
    never true = refl
    never false = refl

no_charge : charge fresh_volume ≡ 0
unfolding charge
no_charge =
    (λ i. set.len (set.difference (set.union (ids_of (table_of 2 hi)) (ids_in_any (map (λ (e : List ℕ × Table). e.1) (no_entries {X = Table} name_cmp i)))) (ids_of (table_of 2 hi))) + map_blocks 4096 * fin.len-empty name_cmp Table i)
    ∙ ap (λ (s : Ids). set.len s + 0) (nothing_left (ids_of (table_of 2 hi))) ∙ ap (λ (n : ℕ). n + 0) (set.len-empty id_cmp)

fresh_uses : use_of fresh_volume ≤ 0
unfolding need
fresh_uses = let none = no_charge in omega (arith, none)

-- Rule 14 doesn't count the ids of a base: it lets the clone through.
fresh_sizes : has_use_in_size (seen fresh.view) ≡ true
unfolding tables_compute layouts_compute volumes_compute has_use_in_size
fresh_sizes = and_from _ _ (use_fits parent_volume parent_volume 5 100 refl parent_uses (omega arith)) (and_from _ true (use_fits fresh_volume fresh_volume 0 1 refl fresh_uses (omega arith)) refl)

-- and so do the rules on tables
fresh_keeps : (after_three fresh && last_pass (seen fresh.view)) ≡ true
unfolding layouts_compute rules_compute
fresh_keeps = refl
