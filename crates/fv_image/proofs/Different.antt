-- A slot that holds each of its blocks once in an image has a label, nodes and entries at different blocks.
use Rattle.std.proofs.Common.{◌≡◌, ◌≢◌, ℕ, ◌+◌, ◌<◌, ◌≤◌, true, false, List, ◌++◌, subst, arith}
use Rattle.std.specs.Prelude.{Some, ◌==◌, flat_map}
use Rattle.std.specs.List.{range_with_len}
use Rattle.std.proofs.lemmas.Bool.Decides.{nat_tests}
use Rattle.std.proofs.lemmas.List.Sums.{sum_by-append}
use Rattle.fv_disk.specs.Shown.{Image}
use Rattle.fv_codec.specs.declared.label.Label.{Label}
use Rattle.fv_image.specs.NewerRoot.{Taken}
use Rattle.fv_image.specs.Views.{entry_count, vvbns}
use Rattle.fv_image.specs.Held.{layout_at, label_place, label_lying, label_in, entry_from, place_lying, at_positions}
use Rattle.fv_image.specs.Whole.{times_held}
use Rattle.fv_image.specs.Reclaimed.{entry_at}
use Rattle.fv_image.specs.SoundSlots.{AreDifferent}
use Rattle.fv_image.proofs.Named.{entry_in, is_in, place_in}
use Rattle.fv_image.proofs.HeldPlaces.{entries_in, label_some, node_blocks, entry_blocks, nodes_in, held_list}
use Rattle.fv_image.proofs.Replaced.{counted_parts, listed_tells, some_times}
use Rattle.fv_image.proofs.Spaced.{two_in_sum}
use Rattle.fv_image.proofs.ReclaimedSlots.{mark, times}

module _ (t : Taken) (i : Image) (s : ℕ) (l : Label) (there : label_in (label_lying t i s) ≡ Some l) (once : (b : ℕ) → times_held (layout_at t i) s b ≤ 1) where
  abbrev nodes_held : List ℕ
  nodes_held = at_positions l (node_blocks i l)

  abbrev entries_held : List ℕ
  entries_held = flat_map (entry_blocks i l) (vvbns l.span)

  -- label, nodes and entries hold a block once together
  parts_once : (b : ℕ) → times b (place_lying (label_lying t i s)) + (times b nodes_held + times b entries_held) ≤ 1
  parts_once b =
      let whole : times b (place_lying (label_lying t i s) ++ (nodes_held ++ entries_held)) ≤ 1 = subst (λ (xs : List ℕ). times b xs ≤ 1) (held_list t i s l there) (once b) in
      omega (arith, whole, sum_by-append (mark b) (place_lying (label_lying t i s)) (nodes_held ++ entries_held), sum_by-append (mark b) nodes_held entries_held)

  some_in : (b : ℕ) (xs : List ℕ) → is_in b xs ≡ true → 1 ≤ times b xs
  some_in b xs held = some_times (is_in b xs) (times b xs) (listed_tells (λ x. x == b) xs) held

  label_once : 1 ≤ times (label_place t s) (place_lying (label_lying t i s))
  label_once = some_in (label_place t s) (place_lying (label_lying t i s)) (place_in i (label_place t s) (label_some t i s l there))

  in_part_of : (v : ℕ) → (entry_at i l v).1 ≢ 0 → 1 ≤ times (entry_at i l v).0 (entry_blocks i l v)
  unfolding entry_from
  in_part_of v kind = some_in (entry_at i l v).0 (entry_blocks i l v) (entry_in i (entry_at i l v) (other (entry_at i l v).1 kind))
    where
      other : (n : ℕ) → n ≢ 0 → (n == 0) ≡ false
      other n some = grind (arith, nat_tests)

  two_entries : (v w : ℕ) → v < w → w < entry_count l.span → (entry_at i l v).1 ≢ 0 → (entry_at i l w).1 ≢ 0 → (entry_at i l v).0 ≢ (entry_at i l w).0
  unfolding vvbns
  two_entries v w lt within first second same =
      let b : ℕ = (entry_at i l w).0 in
      let one : 1 ≤ times b (entry_blocks i l v) = subst (λ (n : ℕ). 1 ≤ times n (entry_blocks i l v)) same (in_part_of v first) in
      let two : 1 ≤ times b (entry_blocks i l w) = in_part_of w second in
      let sum = counted_parts (λ x. x == b) (entry_blocks i l) (range_with_len 0 (entry_count l.span)) in
      let both = two_in_sum (λ k. times b (entry_blocks i l k)) v w 0 (entry_count l.span) (omega arith) lt (omega (arith, within)) in
      absurd (omega (arith, one, two, sum, both, parts_once b))

  -- A slot that holds each block once has different blocks.
  pub different_when_once : AreDifferent t i s l
  different_when_once = record {
    label_node = λ node. let b = label_place t s in let held = some_in b nodes_held (nodes_in t i s l there b node) in absurd (omega (arith, held, label_once, parts_once b));
    label_entry = λ entry. let b = label_place t s in let held = some_in b entries_held (entries_in t i s l there b entry) in absurd (omega (arith, held, label_once, parts_once b));
    node_entry = λ b node entry.
        let held = some_in b nodes_held (nodes_in t i s l there b node) in
        let too = some_in b entries_held (entries_in t i s l there b entry) in
        absurd (omega (arith, held, too, parts_once b));
    entries = two_entries;
  }
