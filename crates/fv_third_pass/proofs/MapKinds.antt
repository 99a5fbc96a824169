-- Rule 9 of map blocks: the lines by the words of entries, map by map, are those of the volume.
use Rattle.std.proofs.Common.{◌≡◌, ℕ, ◌+◌, ◌/◌, ◌%◌, ◌<◌, ◌≤◌, Bool, true, false, List, [], ◌∷◌, ◌++◌, map, length, get_or, take, refl, sym, ap, subst, ◌∙◌, arith}
use Rattle.std.specs.Prelude.{Some, None, flat_map, ◌==◌, if◌then◌else◌}
use Rattle.std.specs.List.{range_with_len}
use Rattle.std.proofs.lemmas.Bool.Decides.{nat_tests}
use Rattle.std.proofs.lemmas.List.{append_assoc, append-nil, take_all}
use Rattle.std.proofs.lemmas.Grind.{flat_map-append}
use Rattle.std.proofs.lemmas.List.Folds.{flat_map-map}
use Rattle.fv_disk.specs.Shown.{Image}
use Rattle.fv_codec.specs.declared.label.Label.{Label}
use Rattle.fv_codec.specs.declared.label.SnapRecord.{SnapRecord}
use Rattle.fv_model.specs.Space.{map_blocks}
use Rattle.fv_image.specs.Views.{Rooted, Snap, View, head_of, kind_at, map_kind, map_vvbn, snaps_from}
use Rattle.fv_image.specs.Seen.{roots_of}
use Rattle.fv_faults.specs.declared.fault.Fault.{Fault}
use Rattle.fv_faults.specs.declared.lines.Lines.{Lines}
use Rattle.fv_faults.specs.Adding.{Adds}
use Rattle.fv_faults.specs.Lines.{expects}
use Rattle.fv_faults.specs.ThirdPass.{map_kind_lines}
use Rattle.fv_faults.proofs.Adding.{adds_then, nothing_added}
use Rattle.fv_first_pass.specs.Records.{free, snap_in, snap_if}
use Rattle.fv_first_pass.specs.Passed.{spelled}
use Rattle.fv_first_pass.proofs.Ranges.{same_parts}
use Rattle.fv_first_pass.proofs.Snaps.{snaps_more}
use Rattle.fv_third_pass.specs.Maps.{HasWords, kinds_if, kinds_to, kinds_with}

-- ---- one record

pub kinds_free : (row : List ℕ) (label span slot : ℕ) (r : SnapRecord) (x : Lines) → r.name_length ≡ 0 → Adds (kinds_if row label span slot r) x x
kinds_free row label span slot r x none =
    let test : (r.name_length == 0) ≡ true = grind (arith, nat_tests, none) in
    nothing_added (kinds_if row label span slot r) x (ap (λ (b : Bool). if b then [] else kinds_to row label span slot (map_blocks span)) test)

pub kinds_used : (row : List ℕ) (label span slot : ℕ) (r : SnapRecord) (old new : Lines) → 0 < r.name_length → Adds (kinds_to row label span slot (map_blocks span)) old new
    → Adds (kinds_if row label span slot r) old new
kinds_used row label span slot r old new some adds =
    let test : (r.name_length == 0) ≡ false = grind (arith, nat_tests, some) in
    subst (λ ls. Adds ls old new) (sym (ap (λ (b : Bool). if b then [] else kinds_to row label span slot (map_blocks span)) test)) adds

module _ (row : List ℕ) (label span : ℕ) where
  abbrev of_snap : Snap → List Fault
  of_snap p = kinds_to row label span p.slot (map_blocks span)

  pub kinds_none : (rs : List SnapRecord) (old new : Lines) → Adds (kinds_to row label span 0 (map_blocks span)) old new → Adds (kinds_with row label span (take 0 rs)) old new
  unfolding snaps_from
  kinds_none rs old new adds = subst (λ ls. Adds ls old new) (sym (append-nil (kinds_to row label span 0 (map_blocks span)))) adds

  pub kinds_more : (rs : List SnapRecord) (j : ℕ) (old mid new : Lines) → j < length rs → Adds (kinds_with row label span (take j rs)) old mid
      → Adds (kinds_if row label span (j + 1) (get_or rs j free)) mid new → Adds (kinds_with row label span (take (j + 1) rs)) old new
  kinds_more rs j old mid new low first one =
      let r = get_or rs j free in
      let slot : 1 + j ≡ j + 1 = omega arith in
      let parts : flat_map of_snap (snap_if (1 + j) r) ≡ kinds_if row label span (j + 1) r = so (r.name_length == 0) ∙ ap (λ s. kinds_if row label span s r) slot in
      subst (λ ls. Adds ls old new)
      (append_assoc (kinds_to row label span 0 (map_blocks span)) (flat_map of_snap (snaps_from 1 (take j rs))) (kinds_if row label span (j + 1) r)
      ∙ ap (λ ls. kinds_to row label span 0 (map_blocks span) ++ (flat_map of_snap (snaps_from 1 (take j rs)) ++ ls)) (sym parts)
      ∙ ap (λ ls. kinds_to row label span 0 (map_blocks span) ++ ls) (sym (ap (flat_map of_snap) (snaps_more rs 1 j free low) ∙ flat_map-append of_snap (snaps_from 1 (take j rs)) (snap_if (1 + j) r))))
      (adds_then (kinds_with row label span (take j rs)) (kinds_if row label span (j + 1) r) old mid new first one)
    where
      so : (b : Bool) → flat_map of_snap (if b then [] else snap_in (1 + j) (get_or rs j free) ∷ []) ≡ (if b then [] else kinds_to row label span (1 + j) (map_blocks span))
      so true = refl
      so false = append-nil (kinds_to row label span (1 + j) (map_blocks span))

-- ---- of all maps

-- lists of lists
of_each : {X Y Z : Type 0} → (f : Y → List Z) (g : X → List Y) (xs : List X) → flat_map f (flat_map g xs) ≡ flat_map (λ x. flat_map f (g x)) xs
of_each f g [] = refl
of_each f g (x ∷ xs) = flat_map-append f (g x) (flat_map g xs) ∙ ap (λ ys. flat_map f (g x) ++ ys) (of_each f g xs)

kind_is : (i : Image) (word : ℕ) → kind_at (spelled i word) ≡ word / 16777216
kind_is i word = so (word / 16777216 == 0) refl
  where
    so : (b : Bool) → (word / 16777216 == 0) ≡ b → kind_at (if b then None else Some (record { pvbn = word % 16777216; kind = word / 16777216; block = i (word % 16777216) })) ≡ word / 16777216
    so true e = let none : 0 ≡ word / 16777216 = grind (arith, nat_tests, e) in none
    so false e = refl

module _ (i : Image) (w : View) (s : ℕ) (row : List ℕ) (at : ℕ) (l : Label) (words : HasWords i w s row) where
  abbrev line_of : ℕ × ℕ → List Fault
  line_of b = expects 9 at b.1 (kind_at (w.entry s b.0))

  abbrev blocks_of : ℕ × Rooted → List (ℕ × ℕ)
  blocks_of r = map (λ k. (map_vvbn l.span r.0 k, map_kind)) (range_with_len 0 (map_blocks l.span))

  one_map : (r : ℕ × Rooted) → flat_map line_of (blocks_of r) ≡ kinds_to row at l.span r.0 (map_blocks l.span)
  unfolding kinds_to
  one_map r =
      flat_map-map line_of (λ k. (map_vvbn l.span r.0 k, map_kind)) (range_with_len 0 (map_blocks l.span))
      ∙ same_parts (λ k. line_of (map_vvbn l.span r.0 k, map_kind)) (λ k. expects 9 at map_kind (get_or row (map_vvbn l.span r.0 k) 0 / 16777216)) (range_with_len 0 (map_blocks l.span)) (λ k there.
      ap (λ o. expects 9 at map_kind (kind_at o)) (words.entries (map_vvbn l.span r.0 k)) ∙ ap (expects 9 at map_kind) (kind_is i (get_or row (map_vvbn l.span r.0 k) 0)))

  all_maps : map_kind_lines w s at (head_of l) ≡ kinds_with row at l.span l.snapshots
  unfolding map_kind_lines head_of
  all_maps =
      of_each line_of blocks_of (roots_of (head_of l))
      ∙ same_parts (λ r. flat_map line_of (blocks_of r)) (λ r. kinds_to row at l.span r.0 (map_blocks l.span)) (roots_of (head_of l)) (λ r there. one_map r)
      ∙ ap (λ ls. kinds_to row at l.span 0 (map_blocks l.span) ++ ls)
      (flat_map-map (λ (r : ℕ × Rooted). kinds_to row at l.span r.0 (map_blocks l.span)) (λ (p : Snap). (p.slot, p.table)) (snaps_from 1 l.snapshots))

  pub kinds_added : (j : ℕ) (old new : Lines) → length l.snapshots ≤ j → Adds (kinds_with row at l.span (take j l.snapshots)) old new → Adds (map_kind_lines w s at (head_of l)) old new
  kinds_added j old new long adds =
      subst (λ ls. Adds ls old new) (ap (kinds_with row at l.span) (take_all j l.snapshots long) ∙ sym all_maps) adds
