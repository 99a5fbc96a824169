-- The rules on blocks and on maps, slot by slot: a layout keeps them where each slot is sound by itself and held blocks are spaced, and the
-- other way round.
use Rattle.std.proofs.Common.{◌≡◌, ◌≢◌, ℕ, ◌<◌, ◌≤◌, Bool, true, false, List, [], ◌∷◌, ◌++◌, refl, sym, ap, subst, ◌∙◌, arith, ⊎_elim, Result, Ok, inl, inr, ◌⊎◌}
use Rattle.std.specs.Prelude.{Option, Some, None, nat_le, nat_lt, not, ◌&&◌, ◌==◌, flat_map, count_by}
use Rattle.std.specs.List.{list_all, list_any, range_with_len}
use Rattle.std.specs.Option.{option_map, option_map_or, is_some}
use Rattle.std.proofs.lemmas.Bool.{and_parts, and_from, both_ways, not-true, not_from_false}
use Rattle.std.proofs.lemmas.Bool.Decides.{nat_tests}
use Rattle.fv_codec.specs.declared.label.Label.{Label}
use Rattle.fv_codec.specs.Blocks.{label_at}
use Rattle.fv_model.specs.Machines.{first_block}
use Rattle.fv_model.specs.Space.{map_blocks}
use Rattle.fv_image.specs.Containers.{shaped, level_width, height_of, node_verdict, has_none_past}
use Rattle.fv_image.specs.Views.{Placed, Head, Rooted, View, head_of, slots, entry_count, vvbns, map_vvbn, kind_at, map_kind}
use Rattle.fv_image.specs.Held.{Lying, Layout, label_in, at_positions, place_lying, place_of, held_by_container, held_by, held, is_held}
use Rattle.fv_image.specs.BlockRules.{are_in_range, has_shapes, has_entries_within, is_in_position, is_place, is_fine, all_lying, all_labels, all_nodes, has_node_shape}
use Rattle.fv_image.specs.Seen.{roots_of, own_blocks}
use Rattle.fv_image.specs.ReachRules.{all_of_view, has_map_blocks, has_map_kinds}
use Rattle.fv_image.specs.Soundness.{AreBlocks}
use Rattle.fv_image.specs.Whole.{is_held_by, times_held}
use Rattle.fv_image.specs.SoundSlots.{has_maps_there, HasSameSlot, IsSoundVolume, IsSoundSlot}
use Rattle.fv_image.proofs.Named.{slot_in}
use Rattle.fv_image.proofs.InRange.{of_listed}
use Rattle.fv_image.proofs.Counted.{HasHeads}
use Rattle.fv_image.proofs.OwnBlocks.{own_tests}
use Rattle.fv_image.proofs.SoundFacts.{of_slot, of_position, fine_is}
use Rattle.fv_image.proofs.Spaced.{AreSpaced, spaced_once, spaced_map}
use Rattle.fv_image.proofs.WholeSlots.{all_between, all_listed, all_parts, all_positions, fine_from, node_shape, ok_of}

same_number : (a b : ℕ) → a ≡ b → (a == b) ≡ true
same_number a b e = grind (arith, nat_tests)

is_same : (a b : ℕ) → (a == b) ≡ true → a ≡ b
is_same a b e = grind (arith, nat_tests)

other_number : (a b : ℕ) → a ≢ b → (a == b) ≡ false
other_number a b ne = grind (arith, nat_tests)

-- ---- from the slots to the layout

-- the volume of a slot, if it has a label
abbrev Labelled : Layout → ℕ → Option Lying → Type 0
Labelled y s o = (label_in o ≡ None) ⊎ ((l : Label) × (label_in o ≡ Some l) × IsSoundVolume y s l)

labelled : (y : Layout) (s : ℕ) → IsSoundSlot y s → (o : Option Lying) → y.label s ≡ o → Labelled y s o
unfolding label_in
labelled y s is None lies = inl refl
labelled y s is (Some x) lies = let v = is.volume x lies in inr (v.0, ap shaped v.1, v.2)

-- a map block that is one is there
there_with_kind : (o : Option Placed) → (kind_at o == map_kind) ≡ true → is_some o ≡ true
there_with_kind None e = absurd cc
there_with_kind (Some x) e = refl

all_there : (test more : ℕ → Bool) → ((k : ℕ) → test k ≡ true → more k ≡ true) → (xs : List ℕ) → list_all test xs ≡ true → list_all more xs ≡ true
all_there test more gives [] all = refl
all_there test more gives (x ∷ xs) all = let parts = and_parts (test x) (list_all test xs) all in and_from (more x) _ (gives x parts.0) (all_there test more gives xs parts.1)

maps_there : (w : View) (s : ℕ) (span : ℕ) (rs : List (ℕ × Rooted))
    → list_all (λ (r : ℕ × Rooted). list_all (λ k. kind_at (w.entry s (map_vvbn span r.0 k)) == map_kind) (range_with_len 0 (map_blocks span))) rs ≡ true
    → list_all (λ (r : ℕ × Rooted). list_all (λ k. is_some (w.entry s (map_vvbn span r.0 k))) (range_with_len 0 (map_blocks span))) rs ≡ true
maps_there w s span [] all = refl
maps_there w s span (r ∷ rs) all =
    let parts = and_parts _ _ all in
    and_from _ _
    (all_there (λ k. kind_at (w.entry s (map_vvbn span r.0 k)) == map_kind) (λ k. is_some (w.entry s (map_vvbn span r.0 k))) (λ k. there_with_kind (w.entry s (map_vvbn span r.0 k))) (range_with_len 0 (map_blocks span)) parts.0)
    (maps_there w s span rs parts.1)

module _ (y : Layout) (heads : HasHeads y) (each : (s : ℕ) → s < 64 → IsSoundSlot y s) where
  of_labels : (test : ℕ → Label → Bool) → ((s : ℕ) (l : Label) → IsSoundVolume y s l → test s l ≡ true) → all_labels y test ≡ true
  unfolding slots
  of_labels test holds = all_between (λ s. option_map_or (test s) (label_in (y.label s)) true) 0 64 (λ s low high. ⊎_elim
      (λ (none : label_in (y.label s) ≡ None). ap (λ (o : Option Label). option_map_or (test s) o true) none)
      (λ (v : (l : Label) × (label_in (y.label s) ≡ Some l) × IsSoundVolume y s l). ap (λ (o : Option Label). option_map_or (test s) o true) v.1 ∙ holds s v.0 v.2)
      (labelled y s (each s (omega (arith, high))) (y.label s) refl))

  of_heads : (test : ℕ → Head → Bool) → ((s : ℕ) (l : Label) → IsSoundVolume y s l → test s (head_of l) ≡ true) → all_of_view y.view test ≡ true
  unfolding slots
  of_heads test holds = all_between (λ s. option_map_or (test s) (y.view.head s) true) 0 64 (λ s low high. ⊎_elim
      (λ (none : label_in (y.label s) ≡ None). ap (λ (o : Option Head). option_map_or (test s) o true) (heads.heads s ∙ ap (option_map head_of) none))
      (λ (v : (l : Label) × (label_in (y.label s) ≡ Some l) × IsSoundVolume y s l). ap (λ (o : Option Head). option_map_or (test s) o true) (heads.heads s ∙ ap (option_map head_of) v.1) ∙ holds s v.0 v.2)
      (labelled y s (each s (omega (arith, high))) (y.label s) refl))

  of_nodes : (s : ℕ) (l : Label) (test : ℕ → ℕ → Lying → Bool) → ((level number : ℕ) (x : Lying) → level ≤ l.height → number < level_width (entry_count l.span) level → y.node s level number ≡ Some x → test level number x ≡ true) → all_nodes y s l test ≡ true
  of_nodes s l test holds = all_positions l (λ level number. option_map_or (test level number) (y.node s level number) true) (λ level number low within. so level number low within (y.node s level number) refl)
    where
      so : (level number : ℕ) → level ≤ l.height → number < level_width (entry_count l.span) level → (o : Option Lying) → y.node s level number ≡ o → option_map_or (test level number) o true ≡ true
      so level number low within None e = refl
      so level number low within (Some x) e = holds level number x low within e

  shapes_hold : has_shapes y ≡ true
  unfolding has_shapes slots
  shapes_hold = and_from _ _
      (all_between (λ s. option_map_or (λ x. is_some (shaped (label_at x.block))) (y.label s) true) 0 64 (λ s low high. shaped_label s (each s (omega (arith, high))) (y.label s) refl))
      (of_labels _ (λ s l is. of_nodes s l (λ level number x. has_node_shape level x.block) (λ level number x low within e. node_shape level number x.block (is.nodes level number x low within e))))
    where
      shaped_label : (s : ℕ) → IsSoundSlot y s → (o : Option Lying) → y.label s ≡ o → option_map_or (λ x. is_some (shaped (label_at x.block))) o true ≡ true
      shaped_label s is None lies = refl
      shaped_label s is (Some x) lies = let v = is.volume x lies in ap (λ (r : Result Label _). is_some (shaped r)) v.1

  ranges_hold : are_in_range y ≡ true
  unfolding are_in_range held slots
  ranges_hold = and_from _ _
      (all_parts (is_place y) (held_by y) 0 64 (λ s low high. all_listed (is_place y) (held_by y s) ((each s (omega (arith, high))).places)))
      (of_labels _ (λ s l is. and_from _ _ (not_from_false _ (other_number l.container 0 is.root)) (same_number l.height (height_of (entry_count l.span)) is.height)))

  positions_hold : is_in_position y ≡ true
  unfolding is_in_position
  positions_hold = of_labels _ (λ s l is. of_nodes s l (λ level number x. is_fine (node_verdict level number x.block)) (λ level number x low within e. fine_from _ (is.nodes level number x low within e)))

  entries_hold : has_entries_within y ≡ true
  unfolding has_entries_within
  entries_hold = of_labels _ (λ s l is. of_nodes s l (λ level number x. has_none_past (entry_count l.span) level number x.block) is.ends)

  -- A layout with sound slots and spaced blocks keeps the rules on blocks,
  pub blocks_from_slots : AreSpaced y → AreBlocks y
  blocks_from_slots spaced = record {
    shapes = shapes_hold;
    ranges = ranges_hold;
    entries = entries_hold;
    positions = positions_hold;
    once = spaced_once y spaced;
    map = spaced_map y spaced;
  }

  -- and its map blocks are there,
  pub maps_from_slots : has_map_blocks y.view ≡ true
  unfolding has_map_blocks
  maps_from_slots = of_heads _ (λ s l is. own_tests (λ b. is_some (y.view.entry s b.0)) y.view.version (head_of l)
      ∙ maps_there y.view s (head_of l).span (roots_of (head_of l)) (sym (own_tests (λ b. kind_at (y.view.entry s b.0) == b.1) y.view.version (head_of l)) ∙ is.maps))

  -- as map blocks.
  pub kinds_from_slots : has_map_kinds y.view ≡ true
  unfolding has_map_kinds
  kinds_from_slots = of_heads _ (λ s l is. is.maps)

-- ---- from the layout to its slots

module _ (y : Layout) (blocks : AreBlocks y) (kinds : has_map_kinds y.view ≡ true) (heads : HasHeads y) (s : ℕ) (inside : s < 64) where
  label_there : (x : Lying) → y.label s ≡ Some x → (l : Label) × (label_at x.block ≡ Ok l)
  unfolding has_shapes
  label_there x lies =
      let test : Lying → Bool = λ x. is_some (shaped (label_at x.block)) in
      let all : all_lying y test ≡ true = (and_parts (all_lying y test) _ blocks.shapes).0 in
      ok_of (label_at x.block) (subst (λ (o : Option Lying). option_map_or test o true ≡ true) lies (of_slot (λ s. option_map_or test (y.label s) true) s all inside))

  module _ (l : Label) (there : label_in (y.label s) ≡ Some l) where
    label_test : (test : ℕ → Label → Bool) → all_labels y test ≡ true → test s l ≡ true
    label_test test all = subst (λ (o : Option Label). option_map_or (test s) o true ≡ true) there (of_slot (λ s. option_map_or (test s) (label_in (y.label s)) true) s all inside)

    head_test : (test : ℕ → Head → Bool) → all_of_view y.view test ≡ true → test s (head_of l) ≡ true
    head_test test all = subst (λ (o : Option Head). option_map_or (test s) o true ≡ true) (heads.heads s ∙ ap (option_map head_of) there) (of_slot (λ s. option_map_or (test s) (y.view.head s) true) s all inside)

    label_ranges : (not (l.container == 0) && (l.height == height_of (entry_count l.span))) ≡ true
    unfolding are_in_range
    label_ranges = label_test (λ s l. not (l.container == 0) && (l.height == height_of (entry_count l.span))) (and_parts _ _ blocks.ranges).1

    node_fine : (level number : ℕ) (x : Lying) → level ≤ l.height → number < level_width (entry_count l.span) level → y.node s level number ≡ Some x → node_verdict level number x.block ≡ Ok tt
    unfolding is_in_position
    node_fine level number x low within node =
        let test : ℕ → ℕ → Lying → Bool = λ k n x. is_fine (node_verdict k n x.block) in
        let all = label_test (λ s l. all_nodes y s l test) blocks.positions in
        let one = of_position l (λ k n. option_map_or (test k n) (y.node s k n) true) level number all low within in
        fine_is _ (subst (λ (o : Option Lying). option_map_or (test level number) o true ≡ true) node one)

    node_ends : (level number : ℕ) (x : Lying) → level ≤ l.height → number < level_width (entry_count l.span) level → y.node s level number ≡ Some x → has_none_past (entry_count l.span) level number x.block ≡ true
    unfolding has_entries_within
    node_ends level number x low within node =
        let test : ℕ → ℕ → ℕ → Lying → Bool = λ n k q x. has_none_past n k q x.block in
        let all = label_test (λ s l. all_nodes y s l (test (entry_count l.span))) blocks.entries in
        let one = of_position l (λ k q. option_map_or (test (entry_count l.span) k q) (y.node s k q) true) level number all low within in
        subst (λ (o : Option Lying). option_map_or (test (entry_count l.span) level number) o true ≡ true) node one

    sound_volume : IsSoundVolume y s l
    unfolding has_map_kinds
    sound_volume =
        let ranges = and_parts (not (l.container == 0)) _ label_ranges in
        record {
          root = λ e. both_ways _ (not-true _ ranges.0) (same_number l.container 0 e);
          height = is_same l.height (height_of (entry_count l.span)) ranges.1;
          nodes = node_fine;
          ends = node_ends;
          maps = head_test (has_maps_there y.view) kinds;
        }

  places_hold : (b : ℕ) → is_held_by y s b ≡ true → is_place y b ≡ true
  unfolding are_in_range
  places_hold b there = of_listed (is_place y) (held y) b (and_parts (list_all (is_place y) (held y)) _ blocks.ranges).0 (slot_in y s b inside there)

  -- Each slot of a layout that keeps the rules is sound.
  pub slot_from_blocks : IsSoundSlot y s
  unfolding label_in
  slot_from_blocks = record {
    volume = λ x lies. let l = label_there x lies in (l.0, l.1, sound_volume l.0 (ap label_in lies ∙ ap shaped l.1));
    places = places_hold;
  }

-- each held block is one that can be allocated
pub held_lies : (y : Layout) (b : ℕ) → AreBlocks y → is_held y b ≡ true → (first_block y.view.blocks ≤ b) × (b < y.view.blocks)
unfolding are_in_range
held_lies y b blocks there =
    let place : is_place y b ≡ true = of_listed (is_place y) (held y) b (and_parts (list_all (is_place y) (held y)) _ blocks.ranges).0 there in
    let parts = and_parts (nat_le (first_block y.view.blocks) b) (nat_lt b y.view.blocks) place in
    (grind (arith, nat_tests, parts.0), grind (arith, nat_tests, parts.1))

-- ---- a slot that stays

module _ (y z : Layout) (s : ℕ) (same : HasSameSlot y z s) where
  -- it holds the same blocks
  pub same_slot_holds : held_by z s ≡ held_by y s
  unfolding held_by held_by_container
  same_slot_holds = ap (λ (o : Option Lying). place_lying o ++ held_by_container z s (label_in o)) same.label ∙ ap (λ (xs : List ℕ). place_lying (y.label s) ++ xs) (by_label (label_in (y.label s)))
    where
      by_label : (o : Option Label) → held_by_container z s o ≡ held_by_container y s o
      by_label None = refl
      by_label (Some l) = λ i. at_positions l (λ level number. place_lying (same.node level number i)) ++ flat_map (λ v. place_of (same.entry v i)) (vvbns l.span)

  pub same_slot_test : (b : ℕ) → is_held_by z s b ≡ is_held_by y s b
  same_slot_test b = ap (λ (xs : List ℕ). list_any (λ x. x == b) xs) same_slot_holds

  pub same_slot_times : (b : ℕ) → times_held z s b ≡ times_held y s b
  same_slot_times b = ap (λ (xs : List ℕ). count_by (λ x. x == b) xs) same_slot_holds

  -- and stays sound
  pub slot_stays_sound : IsSoundSlot y s → IsSoundSlot z s
  slot_stays_sound is = record {
    volume = λ x lies. let v = is.volume x (sym same.label ∙ lies) in (v.0, v.1, volume v.0 v.2);
    places = λ b there.
        let place : is_place y b ≡ true = is.places b (sym (same_slot_test b) ∙ there) in
        ap (λ (n : ℕ). nat_le (first_block n) b && nat_lt b n) same.blocks ∙ place;
  }
    where
      volume : (l : Label) → IsSoundVolume y s l → IsSoundVolume z s l
      volume l is = record {
        root = is.root;
        height = is.height;
        nodes = λ level number x low within node. is.nodes level number x low within (sym (same.node level number) ∙ node);
        ends = λ level number x low within node. is.ends level number x low within (sym (same.node level number) ∙ node);
        maps = (λ i. list_all (λ (b : ℕ × ℕ). kind_at (same.entry b.0 i) == b.1) (own_blocks z.view.version (head_of l))) ∙ is.maps;
      }
