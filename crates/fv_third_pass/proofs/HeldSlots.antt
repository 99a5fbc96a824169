-- What is counted of a slot, and what a layout holds there.
use Rattle.std.proofs.Common.{◌≡◌, ℕ, zero, suc, ◌+◌, ◌/◌, ◌%◌, ◌<◌, ◌≤◌, Bool, true, false, [], ◌∷◌, get_or, refl, sym, ap, ◌∙◌, arith, Ok, Err}
use Rattle.std.specs.Prelude.{Option, Some, None, Result, Vec, flat_map, nat_lt, ◌==◌, if◌then◌else◌}
use Rattle.std.specs.declared.alloc.Global.{Global}
use Rattle.std.specs.List.{range_with_len}
use Rattle.std.proofs.lemmas.Bool.Decides.{nat_tests}
use Rattle.fv_disk.specs.Shown.{Image}
use Rattle.fv_codec.specs.declared.shape.Shape.{Shape}
use Rattle.fv_codec.specs.declared.label.Label.{Label}
use Rattle.fv_codec.specs.Blocks.{label_at}
use Rattle.fv_image.specs.NewerRoot.{Taken}
use Rattle.fv_image.specs.Containers.{height_of, shaped}
use Rattle.fv_image.specs.Views.{entry_count, vvbns}
use Rattle.fv_image.specs.Held.{Lying, Layout, lying_at, label_in, label_lying, label_place, layout_at, place_lying, place_of, node_from, at_positions, held_by, held_by_container}
use Rattle.fv_first_pass.specs.declared.first.Known.{Known}
use Rattle.fv_first_pass.specs.Heads.{HasLabels, label_read}
use Rattle.fv_first_pass.specs.Passed.{HasRow, word_in, spelled}
use Rattle.fv_third_pass.specs.Tallied.{times}
use Rattle.fv_third_pass.specs.Words.{at_place, at_word, in_row}
use Rattle.fv_third_pass.specs.Nodes.{node_blocks}
use Rattle.fv_third_pass.specs.Counted.{label_of, words_of, volume_blocks, slot_blocks}
use Rattle.fv_first_pass.proofs.Ranges.{same_parts}
use Rattle.fv_third_pass.proofs.Times.{times_both}
use Rattle.fv_third_pass.proofs.HeldNodes.{nodes_counted}

module _ (t : Taken) (i : Image) (s : ℕ) where
  abbrev y : Layout
  y = layout_at t i

  -- ---- entries

  word_is : (row : Option (Vec ℕ Global)) (v : ℕ) → word_in row v ≡ get_or (words_of row) v 0
  word_is None v = refl
  word_is (Some r) v = refl

  told : (word : ℕ) → place_of (spelled i word) ≡ at_word word
  told word = so (word / 16777216 == 0)
    where
      so : (hole : Bool) → place_of (if hole then None else Some (record { pvbn = word % 16777216; kind = word / 16777216; block = i (word % 16777216) })) ≡ (if hole then [] else word % 16777216 ∷ [])
      so true = refl
      so false = refl

  row_is : (row : Option (Vec ℕ Global)) (span : ℕ) → HasRow t i s row → in_row (words_of row) (entry_count span) ≡ flat_map (λ v. place_of (y.view.entry s v)) (vvbns span)
  unfolding vvbns
  row_is row span has =
      same_parts (λ v. at_word (get_or (words_of row) v 0)) (λ v. place_of (y.view.entry s v)) (range_with_len 0 (entry_count span)) (λ v there.
      sym (ap place_of (has.entries v) ∙ told (word_in row v) ∙ ap at_word (word_is row v)))

  -- ---- labels

  lying_place : (p : ℕ) → at_place p ≡ place_lying (lying_at i p)
  lying_place zero = refl
  lying_place (suc p) = refl

  pub label_is : (x : Option Lying) (read : Option (Result Label Shape)) → read ≡ label_read x → label_of read ≡ label_in x
  unfolding label_in
  label_is None read is = ap label_of is
  label_is (Some x) read is = ap label_of is ∙ so (label_at x.block)
    where
      so : (r : Result Label Shape) → label_of (Some r) ≡ shaped r
      so (Ok l) = refl
      so (Err shape) = refl

  -- ---- a slot

  module _ (row : Option (Vec ℕ Global)) (has : HasRow t i s row) (b : ℕ) where
    volume_counted : (o : Option Label) → label_in (y.label s) ≡ o → ((l : Label) → o ≡ Some l → (l.height ≡ height_of (entry_count l.span)) × (l.span ≤ 1048576))
        → times b (volume_blocks i o (words_of row)) ≡ times b (held_by_container y s o)
    unfolding held_by_container at_positions layout_at
    volume_counted None is fine = refl
    volume_counted (Some l) is fine =
        let nodes : times b (node_blocks i l) ≡ times b (at_positions l (λ level number. place_lying (y.node s level number))) =
        nodes_counted i l b (fine l refl).0 (fine l refl).1 ∙ ap (λ (o : Option Label). times b (at_positions l (λ level number. place_lying (node_from o i level number)))) (sym is) in
        times_both b (node_blocks i l) (in_row (words_of row) (entry_count l.span))
        ∙ ap (λ n. n + times b (in_row (words_of row) (entry_count l.span))) nodes
        ∙ ap (λ xs. times b (at_positions l (λ level number. place_lying (y.node s level number))) + times b xs) (row_is row l.span has)
        ∙ sym (times_both b (at_positions l (λ level number. place_lying (y.node s level number))) (flat_map (λ v. place_of (y.view.entry s v)) (vvbns l.span)))

  pub slot_counted : (known : Known) (b : ℕ) → s < 64 → HasLabels y known.labels.items → HasRow t i s (get_or known.rows.items s None)
      → ((l : Label) → label_in (label_lying t i s) ≡ Some l → (l.height ≡ height_of (entry_count l.span)) × (l.span ≤ 1048576))
      → times b (slot_blocks i t.root known s) ≡ times b (held_by y s)
  unfolding held_by label_place layout_at
  slot_counted known b low labels has fine =
      let test : nat_lt s 64 ≡ true = grind (arith, nat_tests, low) in
      let label : label_of (get_or known.labels.items s None) ≡ label_in (y.label s) = label_is (y.label s) (get_or known.labels.items s None) (labels.reads s low) in
      let row = get_or known.rows.items s None in
      let place : at_place (get_or t.root.labels s 0) ≡ place_lying (y.label s) = lying_place (get_or t.root.labels s 0) ∙ sym (ap (λ (b : Bool). place_lying (lying_at i (if b then get_or t.root.labels s 0 else 0))) test) in
      times_both b (at_place (get_or t.root.labels s 0)) (volume_blocks i (label_of (get_or known.labels.items s None)) (words_of row))
      ∙ ap (λ xs. times b xs + times b (volume_blocks i (label_of (get_or known.labels.items s None)) (words_of row))) place
      ∙ ap (λ o. times b (place_lying (y.label s)) + times b (volume_blocks i o (words_of row))) label
      ∙ ap (λ n. times b (place_lying (y.label s)) + n) (volume_counted row has b (label_in (y.label s)) refl fine)
      ∙ sym (times_both b (place_lying (y.label s)) (held_by_container y s (label_in (y.label s))))
