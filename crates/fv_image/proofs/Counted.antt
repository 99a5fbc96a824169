-- The held blocks are no more than the volumes' own, the delayed ones and all overheads.
use Rattle.std.proofs.Common.{◌≡◌, ℕ, zero, suc, ◌+◌, ◌*◌, ◌<◌, ◌≤◌, Bool, true, false, cond, not, List, [], ◌∷◌, ◌++◌, length, length-append, refl, ap, subst, ◌∙◌, arith}
use Rattle.std.specs.Prelude.{◌&&◌, Option, Some, None, flat_map, sum_by, count_by, nat_lt, nat_le, ◌==◌}
use Rattle.std.specs.List.{list_all, range_with_len}
use Rattle.std.specs.Option.{is_some, option_map, option_map_or}
use Rattle.std.proofs.lemmas.List.Sums.{sum_by-cons}
use Rattle.std.proofs.lemmas.List.FromFn.{length-range_with_len}
use Rattle.std.proofs.lemmas.Bool.{and_parts, and_right}
use Rattle.std.proofs.lemmas.Bool.Decides.{nat_tests}
use Rattle.fv_bits.proofs.Counts.{passing, passing-add, passing_le, none_pass}
use Rattle.fv_disk.specs.Shown.{Image}
use Rattle.fv_codec.specs.declared.label.Label.{Label}
use Rattle.fv_codec.specs.Blocks.{label_at}
use Rattle.fv_model.specs.Space.{map_blocks, overhead}
use Rattle.fv_image.specs.NewerRoot.{Taken}
use Rattle.fv_image.specs.Containers.{shaped, level_width, height_of}
use Rattle.fv_image.specs.Views.{Placed, Head, View, head_of, slots, entry_count, vvbns, is_held_in, is_active_map, is_delayed, is_own, own, delayed, overheads}
use Rattle.fv_image.specs.Held.{Lying, Layout, layout_at, label_in, place_lying, place_of, at_positions, held_by_container, held_by, held}
use Rattle.fv_image.specs.BlockRules.{are_in_range, has_shapes, is_place, all_labels, all_lying}
use Rattle.fv_image.specs.Soundness.{AreBlocks}
use Rattle.fv_image.proofs.Heads.{head_told}
use Rattle.fv_image.proofs.Kept.{at_number}
use Rattle.fv_image.proofs.Counts.{parts_of_one, none_between}
use Rattle.fv_image.proofs.Overheads.{node_count, overhead_holds}

-- the heads of the view are those that the labels spell
pub record HasHeads (y : Layout) : Type 0 where
  pub heads : (s : ℕ) → y.view.head s ≡ option_map head_of (label_in (y.label s))

pub image_has_heads : (t : Taken) (i : Image) → HasHeads (layout_at t i)
unfolding layout_at
image_has_heads t i = record { heads = head_told t i }

-- ---- the nodes of a container

-- a part for each position, of so many levels from one on
levels_within : {X : Type 0} (each : ℕ → ℕ → List X) (width : ℕ → ℕ) → ((level number : ℕ) → length (each level number) ≤ 1) → (xs : List ℕ)
    → length (flat_map (λ level. flat_map (each level) (range_with_len 0 (width level))) xs) ≤ sum_by width xs
levels_within each width one [] = omega arith
levels_within each width one (x ∷ xs) =
    let part = parts_of_one (each x) (one x) (range_with_len 0 (width x)) in
    omega (
      arith,
      length-append (flat_map (each x) (range_with_len 0 (width x))) (flat_map (λ level. flat_map (each level) (range_with_len 0 (width level))) xs),
      sum_by-cons width x xs,
      part,
      length-range_with_len 0 (width x),
      levels_within each width one xs,
    )

place_once : (o : Option Lying) → length (place_lying o) ≤ 1
place_once None = omega arith
place_once (Some x) = omega arith

-- the nodes of the container of a label are at most those of its height
pub container_within : (y : Layout) (s : ℕ) (l : Label) → l.height ≡ height_of (entry_count l.span) → length (at_positions l (λ level number. place_lying (y.node s level number))) ≤ node_count (entry_count l.span)
unfolding at_positions node_count
container_within y s l height =
    subst (λ (h : ℕ). length (at_positions l (λ level number. place_lying (y.node s level number))) ≤ sum_by (level_width (entry_count l.span)) (range_with_len 0 (suc h))) height
    (levels_within (λ level number. place_lying (y.node s level number)) (level_width (entry_count l.span)) (λ level number. place_once (y.node s level number)) (range_with_len 0 (suc l.height)))

-- ---- the entries

-- an entry that isn't a hole is a volume's own, is delayed, or is a block of the active map
entry_within : (o : Option Placed) (held active : Bool) → length (place_of o) ≤ cond {A = ℕ} (is_some o && (held && not active)) 1 0 + cond (is_some o && not held) 1 0 + cond active 1 0
entry_within None held active = omega arith
entry_within (Some x) true true = omega arith
entry_within (Some x) true false = omega arith
entry_within (Some x) false true = omega arith
entry_within (Some x) false false = omega arith

entries_within : (w : View) (s : ℕ) (h : Head) (xs : List ℕ) → length (flat_map (λ v. place_of (w.entry s v)) xs) ≤ count_by (is_own w s h) xs + count_by (is_delayed w s h) xs + count_by (is_active_map h) xs
entries_within w s h [] = omega arith
entries_within w s h (x ∷ xs) = omega (
  arith,
  length-append (place_of (w.entry s x)) (flat_map (λ v. place_of (w.entry s v)) xs),
  sum_by-cons (λ v. cond {A = ℕ} (is_own w s h v) 1 0) x xs,
  sum_by-cons (λ v. cond {A = ℕ} (is_delayed w s h v) 1 0) x xs,
  sum_by-cons (λ v. cond {A = ℕ} (is_active_map h v) 1 0) x xs,
  entry_within (w.entry s x) (is_held_in w s h x) (is_active_map h x),
  entries_within w s h xs,
)

-- the active map has so many blocks
pub active_within : (h : Head) → count_by (is_active_map h) (vvbns h.span) ≤ map_blocks h.span
unfolding vvbns
active_within h =
    let p = is_active_map h in
    let m = map_blocks h.span in
    let below = none_between p 0 h.span (λ k low high. let test : nat_le h.span k ≡ false = grind (arith, nat_tests) in rw test refl) in
    let above = none_pass p (h.span + m) (24 * m) (λ k from. let test : nat_lt k (h.span + m) ≡ false = grind (arith, nat_tests) in and_right (nat_le h.span k) _ test) in
    let sizes : entry_count h.span ≡ h.span + (m + 24 * m) = omega arith in
    let whole : count_by p (vvbns h.span) ≡ passing p 0 (h.span + (m + 24 * m)) = ap (passing p 0) sizes in
    let start : 0 + h.span ≡ h.span = omega arith in
    let moved = ap (λ (a : ℕ). passing p a (m + 24 * m)) start in
    omega (arith, whole, moved, passing-add p 0 h.span (m + 24 * m), passing-add p h.span m (24 * m), below, passing_le p h.span m, above)

-- ---- the slots

-- of a number for each volume, that of a slot
abbrev pub of_slot : View → (ℕ → Head → ℕ) → ℕ → ℕ
of_slot w number s = option_map_or (number s) (w.head s) 0

abbrev pub own_in : View → ℕ → ℕ
own_in w = of_slot w (λ s h. count_by (is_own w s h) (vvbns h.span))

abbrev pub delayed_in : View → ℕ → ℕ
delayed_in w = of_slot w (λ s h. count_by (is_delayed w s h) (vvbns h.span))

abbrev pub overhead_in : View → ℕ → ℕ
overhead_in w = of_slot w (λ s h. overhead h.span)

-- what is said of each label
of_label : (y : Layout) (test : ℕ → Label → Bool) (s : ℕ) (l : Label) → s < 64 → all_labels y test ≡ true → label_in (y.label s) ≡ Some l → test s l ≡ true
unfolding slots
of_label y test s l inside all is =
    let here : option_map_or (test s) (label_in (y.label s)) true ≡ true = at_number (λ s. option_map_or (test s) (label_in (y.label s)) true) 0 64 s all (omega arith) inside in
    subst (λ (o : Option Label). option_map_or (test s) o true ≡ true) is here

-- a container has the height that its entries ask for
pub height_is : (y : Layout) (s : ℕ) (l : Label) → AreBlocks y → s < 64 → label_in (y.label s) ≡ Some l → l.height ≡ height_of (entry_count l.span)
unfolding are_in_range
height_is y s l is inside label =
    let ranges = (and_parts (list_all (is_place y) (held y)) _ is.ranges).1 in
    let here = of_label y (λ s l. not (l.container == 0) && (l.height == height_of (entry_count l.span))) s l inside ranges label in
    let height = (and_parts (not (l.container == 0)) _ here).1 in
    grind (arith, nat_tests, height)

-- the blocks of a label whose head is known
label_holds : (y : Layout) (s : ℕ) (o : Option Lying) (l : Label) → y.label s ≡ o → label_in o ≡ Some l → y.view.head s ≡ Some (head_of l) → l.height ≡ height_of (entry_count l.span)
    → length (held_by y s) ≤ own_in y.view s + delayed_in y.view s + overhead_in y.view s
unfolding held_by held_by_container head_of
label_holds y s o l lies says head height =
    let h = head_of l in
    let nodes = at_positions l (λ level number. place_lying (y.node s level number)) in
    let blocks = flat_map (λ v. place_of (y.view.entry s v)) (vvbns l.span) in
    rw (lies, says, head) (omega (
      arith,
      length-append (place_lying o) (nodes ++ blocks),
      length-append nodes blocks,
      place_once o,
      container_within y s l height,
      entries_within y.view s h (vvbns l.span),
      active_within h,
      overhead_holds l.span,
    ))

-- a label has its shape
shape_is : (y : Layout) (s : ℕ) (x : Lying) → AreBlocks y → s < 64 → y.label s ≡ Some x → is_some (shaped (label_at x.block)) ≡ true
unfolding has_shapes slots
shape_is y s x is inside lies =
    let all = (and_parts (all_lying y (λ x. is_some (shaped (label_at x.block)))) _ is.shapes).0 in
    let here : option_map_or (λ x. is_some (shaped (label_at x.block))) (y.label s) true ≡ true = at_number (λ s. option_map_or (λ x. is_some (shaped (label_at x.block))) (y.label s) true) 0 64 s all (omega arith) inside in
    subst (λ (o : Option Lying). option_map_or (λ x. is_some (shaped (label_at x.block))) o true ≡ true) lies here

-- The blocks that the volume of a slot holds are at most its own, its delayed ones and its overhead.
pub slot_within : (y : Layout) (s : ℕ) → HasHeads y → AreBlocks y → s < 64 → length (held_by y s) ≤ own_in y.view s + delayed_in y.view s + overhead_in y.view s
unfolding held_by held_by_container label_in
slot_within y s heads is inside = so (y.label s) refl
  where
    labelled : (x : Lying) → y.label s ≡ Some x → (o : Option Label) → shaped (label_at x.block) ≡ o → is_some o ≡ true → length (held_by y s) ≤ own_in y.view s + delayed_in y.view s + overhead_in y.view s
    labelled x lies None e some = absurd cc
    labelled x lies (Some l) e some =
        let says : label_in (y.label s) ≡ Some l = ap label_in lies ∙ e in
        label_holds y s (Some x) l lies e (heads.heads s ∙ ap (option_map head_of) says) (height_is y s l is inside says)

    so : (o : Option Lying) → y.label s ≡ o → length (held_by y s) ≤ own_in y.view s + delayed_in y.view s + overhead_in y.view s
    so None lies = rw lies (omega arith)
    so (Some x) lies = labelled x lies (shaped (label_at x.block)) refl (shape_is y s x is inside lies)

-- parts that are within three sums
within_three : (part : ℕ → List ℕ) (a b c : ℕ → ℕ) (from count : ℕ) → ((k : ℕ) → from ≤ k → k < from + count → length (part k) ≤ a k + b k + c k)
    → length (flat_map part (range_with_len from count)) ≤ sum_by a (range_with_len from count) + sum_by b (range_with_len from count) + sum_by c (range_with_len from count)
within_three part a b c from zero each = omega arith
within_three part a b c from (suc count) each =
    let rest = range_with_len (from + 1) count in
    omega (
      arith,
      length-append (part from) (flat_map part rest),
      sum_by-cons a from rest,
      sum_by-cons b from rest,
      sum_by-cons c from rest,
      each from (omega arith) (omega arith),
      within_three part a b c (from + 1) count (λ k low high. each k (omega arith) (omega arith)),
    )

-- The held blocks are at most the volumes' own, the delayed ones and all overheads.
pub held_within : (y : Layout) → HasHeads y → AreBlocks y → length (held y) ≤ own y.view + delayed y.view + overheads y.view
unfolding held own delayed overheads slots
held_within y heads is = within_three (held_by y) (own_in y.view) (delayed_in y.view) (overhead_in y.view) 0 64 (λ s low high. slot_within y s heads is (omega arith))
