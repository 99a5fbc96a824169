-- The counts of all slots, and that they are those of a layout.
use Rattle.std.proofs.Common.{◌≡◌, ℕ, zero, suc, ◌+◌, ◌*◌, ◌/◌, ◌%◌, ◌<◌, ◌≤◌, Bool, true, false, List, [], ◌∷◌, ◌++◌, length, get_or, refl, sym, ap, subst, ◌∙◌, arith, inl, inr}
use Rattle.std.specs.Prelude.{Option, None, Some, flat_map, min, nat_le, ◌==◌, if◌then◌else◌}
use Rattle.std.specs.List.{list_any, range_with_len}
use Rattle.std.proofs.lemmas.Bool.{and_parts, both_ways, or_left, or_right}
use Rattle.std.proofs.lemmas.Bool.Decides.{nat_tests}
use Rattle.std.proofs.lemmas.List.{length-append}
use Rattle.std.proofs.lemmas.List.Sums.{count_by-le-length}
use Rattle.std.proofs.lemmas.List.FromFn.{length-range_with_len, length-map-range_with_len}
use Rattle.fv_disk.specs.Shown.{Image}
use Rattle.fv_codec.specs.declared.label.Label.{Label}
use Rattle.fv_laws.proofs.Lists.{In}
use Rattle.fv_model.specs.Machines.{first_block}
use Rattle.fv_image.specs.NewerRoot.{Taken}
use Rattle.fv_image.specs.Containers.{height_of, level_width}
use Rattle.fv_image.specs.Views.{entry_count, slots}
use Rattle.fv_image.specs.Held.{Lying, Layout, label_in, label_lying, layout_at, view_at, held, held_by, held_by_container, place_lying}
use Rattle.fv_image.specs.BlockRules.{is_place}
use Rattle.fv_image.specs.Whole.{is_held_by}
use Rattle.fv_image.proofs.Spaced.{holder}
use Rattle.fv_faults.specs.FirstPass.{first_pass}
use Rattle.fv_faults.proofs.EachVolume.{slot_below}
use Rattle.fv_faults.proofs.FirstSlots.{lies_at, label_is, places_sound}
use Rattle.fv_faults.proofs.First.{IsFirst, first_true, read_as}
use Rattle.fv_first_pass.specs.declared.first.Known.{Known}
use Rattle.fv_first_pass.specs.Passed.{Spells}
use Rattle.fv_third_pass.specs.declared.holders.Holders.{Holders}
use Rattle.fv_third_pass.specs.Tallied.{times, holds, most, Tallies}
use Rattle.fv_third_pass.specs.Words.{at_place, at_word, in_row}
use Rattle.fv_third_pass.specs.Nodes.{at_places, nodes_below, below_blocks, node_blocks}
use Rattle.fv_third_pass.specs.Counted.{label_of, words_of, volume_blocks, slot_blocks, blocks_to, IsCounted}
use Rattle.fv_third_pass.proofs.Times.{times_both}
use Rattle.fv_third_pass.proofs.HeldSlots.{slot_counted, label_is as read_is}

-- ---- sums

-- parts that are counted alike
times_parts : (b : ℕ) (f g : ℕ → List ℕ) (xs : List ℕ) → ((x : ℕ) → In x xs → times b (f x) ≡ times b (g x)) → times b (flat_map f xs) ≡ times b (flat_map g xs)
times_parts b f g [] same = refl
times_parts b f g (x ∷ xs) same =
    times_both b (f x) (flat_map f xs) ∙ ap (λ n. n + times b (flat_map f xs)) (same x (inl refl))
    ∙ ap (λ n. times b (g x) + n) (times_parts b f g xs (λ y there. same y (inr there))) ∙ sym (times_both b (g x) (flat_map g xs))

-- parts of at most so many
short_parts : {X : Type 0} → (f : X → List ℕ) (k : ℕ) (xs : List X) → ((x : X) → In x xs → length (f x) ≤ k) → length (flat_map f xs) ≤ k * length xs
short_parts f k [] short = omega arith
short_parts f k (x ∷ xs) short =
    let first = short x (inl refl) in
    let rest : length (flat_map f xs) ≤ k * length xs = short_parts f k xs (λ y there. short y (inr there)) in
    let both : length (f x ++ flat_map f xs) ≡ length (f x) + length (flat_map f xs) = length-append (f x) (flat_map f xs) in
    let more : k * suc (length xs) ≡ k + k * length xs = omega arith in
    omega (arith, first, rest, both, more)

one_place : (p : ℕ) → length (at_place p) ≤ 1
one_place zero = omega arith
one_place (suc p) = omega arith

one_word_of : (word : ℕ) → length (at_word word) ≤ 1
one_word_of word = so (word / 16777216 == 0)
  where
    so : (hole : Bool) → length (if hole then [] else word % 16777216 ∷ []) ≤ 1
    so true = omega arith
    so false = omega arith

few_places : (places : List ℕ) → length (at_places places) ≤ length places
few_places places = let few : length (at_places places) ≤ 1 * length places = short_parts at_place 1 places (λ p there. one_place p) in omega (arith, few)

-- what one slot holds isn't much
module _ (i : Image) (l : Label) (most_span : l.span ≤ 1048576) where
  abbrev level : ℕ → List ℕ → List ℕ
  level n above = nodes_below i l n above

  level_few : (n : ℕ) (above : List ℕ) → n ≤ 1 → length (at_places (level n above)) ≤ 4100
  level_few zero above low = let long : length (level 0 above) ≡ level_width (entry_count l.span) 0 = length-map-range_with_len _ 0 _ in omega (arith, long, few_places (level 0 above), most_span)
  level_few (suc zero) above low = let long : length (level 1 above) ≡ level_width (entry_count l.span) 1 = length-map-range_with_len _ 0 _ in omega (arith, long, few_places (level 1 above), most_span)
  level_few (suc (suc n)) above low = absurd (omega (arith, low))

  below_few : (test : Bool) (top middle : List ℕ) → length (if test then at_places (level 0 top) else at_places (level 1 top) ++ at_places (level 0 middle)) ≤ 8200
  below_few true top middle = let a = level_few 0 top (omega arith) in omega (arith, a)
  below_few false top middle =
      let a = level_few 1 top (omega arith) in
      let b = level_few 0 middle (omega arith) in
      omega (arith, a, b, length-append (at_places (level 1 top)) (at_places (level 0 middle)))

  nodes_few : length (node_blocks i l) ≤ 8201
  nodes_few =
      let a = below_few (l.height == 1) (l.container ∷ []) (level 1 (l.container ∷ [])) in
      let b : length (at_places (l.container ∷ [])) ≤ 1 = few_places (l.container ∷ []) in
      omega (arith, a, b, length-append (at_places (l.container ∷ [])) (below_blocks i l (l.container ∷ [])))

  row_few : (row : List ℕ) → length (in_row row (entry_count l.span)) ≤ 1049376
  row_few row =
      let a : length (in_row row (entry_count l.span)) ≤ 1 * length (range_with_len 0 (entry_count l.span)) = short_parts (λ v. at_word (get_or row v 0)) 1 (range_with_len 0 (entry_count l.span)) (λ v there. one_word_of (get_or row v 0)) in
      let b = length-range_with_len 0 (entry_count l.span) in
      omega (arith, a, b, most_span)

volume_few : (i : Image) (o : Option Label) (row : List ℕ) → ((l : Label) → o ≡ Some l → l.span ≤ 1048576) → length (volume_blocks i o row) ≤ 1057577
volume_few i None row most_span = omega arith
volume_few i (Some l) row most_span =
    let a = nodes_few i l (most_span l refl) in
    let b = row_few i l (most_span l refl) row in
    omega (arith, a, b, length-append (node_blocks i l) (in_row row (entry_count l.span)))

listed : (b : ℕ) (xs : List ℕ) → In b xs → list_any (λ x. x == b) xs ≡ true
listed b [] there = absurd there
listed b (x ∷ xs) (inl is) = or_left (x == b) _ (let test : (x == b) ≡ true = grind (arith, nat_tests, is) in test)
listed b (x ∷ xs) (inr there) = or_right (x == b) _ (listed b xs there)

-- ---- the counts of a layout

module _ (t : Taken) (i : Image) (long : (b : ℕ) → length (i b) ≡ 4096) (some_blocks : 0 < (view_at t i).blocks) (root : ℕ)
    (known : Known) (spells : Spells t i known.labels.items known.rows.items) (none : first_pass root (layout_at t i) ≡ []) where
  abbrev y : Layout
  y = layout_at t i

  first : IsFirst t i long some_blocks root
  first = first_true t i long some_blocks root none

  numbers : (s : ℕ) (l : Label) → label_in (label_lying t i s) ≡ Some l → (l.height ≡ height_of (entry_count l.span)) × (l.span ≤ 1048576)
  numbers s l there = ((first.slots s l there).numbers.height, (label_is t i long some_blocks s l there).span_greatest)

  whole : (b : ℕ) → times b (blocks_to i t.root known 64) ≡ times b (held y)
  unfolding blocks_to held slots
  whole b = times_parts b (slot_blocks i t.root known) (held_by y) slots (λ s there.
      let low = slot_below s there in
      slot_counted t i s known b low spells.heads (spells.entries s low) (numbers s))

  slot_few : (s : ℕ) → s < 64 → length (slot_blocks i t.root known s) ≤ 2000000
  unfolding layout_at
  slot_few s low =
      let o = label_of (get_or known.labels.items s None) in
      let is : o ≡ label_in (label_lying t i s) = read_is t i s (label_lying t i s) (get_or known.labels.items s None) (spells.heads.reads s low) in
      let a = volume_few i o (words_of (get_or known.rows.items s None)) (λ l e. (numbers s l (sym is ∙ e)).1) in
      let b = one_place (get_or t.root.labels s 0) in
      omega (arith, a, b, length-append (at_place (get_or t.root.labels s 0)) (volume_blocks i o (words_of (get_or known.rows.items s None))))

  few : (b : ℕ) → times b (blocks_to i t.root known 64) ≤ most
  unfolding blocks_to slots
  few b =
      let a : length (flat_map (slot_blocks i t.root known) slots) ≤ 2000000 * length slots = short_parts (slot_blocks i t.root known) 2000000 slots (λ s there. slot_few s (slot_below s there)) in
      let c : length slots ≡ 64 = length-range_with_len 0 64 in
      let d : times b (blocks_to i t.root known 64) ≤ length (flat_map (slot_blocks i t.root known) slots) = count_by-le-length (λ x. x == b) (flat_map (slot_blocks i t.root known) slots) in
      omega (arith, a, c, d)

  -- a slot without a label holds nothing
  none_there : (s b : ℕ) → y.label s ≡ None → is_held_by y s b ≡ false
  unfolding held_by held_by_container label_in
  none_there s b lies = ap (λ (o : Option Lying). list_any (λ x. x == b) (place_lying o ++ held_by_container y s (label_in o))) lies

  -- each block that a slot holds is one where a block of a volume can lie
  place_there : (s b : ℕ) → is_held_by y s b ≡ true → is_place y b ≡ true
  place_there s b there = so (y.label s) refl
    where
      so : (o : Option Lying) → y.label s ≡ o → is_place y b ≡ true
      so None lies = absurd (both_ways (is_held_by y s b) (none_there s b lies) there)
      so (Some x) lies =
          let l = first.labels s x lies in
          let label = read_as t i long some_blocks root s x l.0 lies l.1 in
          places_sound t i long some_blocks s l.0 label (first.slots s l.0 label)
          (subst (λ (p : ℕ). is_place y p ≡ true) (lies_at t i long some_blocks s x lies).place (first.places s x lies)) b there

  within : (b : ℕ) → In b (held y) → b < y.view.blocks
  within b there =
      let at = holder y b (listed b (held y) there) in
      let test = (and_parts (nat_le (first_block y.view.blocks) b) _ (place_there at.0 b at.1.1)).1 in
      grind (arith, nat_tests, test)

  pub counted : (h : Holders) → length h.held ≡ t.blocks → Tallies (blocks_to i t.root known 64) h → IsCounted y h
  unfolding layout_at view_at
  counted h size tallies = record {
    size = size;
    times = λ b low.
        let is : holds h b ≡ min most (times b (blocks_to i t.root known 64)) = tallies.each b (omega (arith, low, size)) in
        let low_enough = few b in
        omega (arith, is, low_enough) ∙ whole b;
    within = within;
  }
