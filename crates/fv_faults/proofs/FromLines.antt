-- Where the check has no line, the image is sound.
use Rattle.std.proofs.Common.{◌≡◌, ℕ, zero, suc, ◌<◌, true, false, [], length, refl, sym, subst, ◌∙◌, arith, Ok}
use Rattle.std.specs.Prelude.{Option, Some, None, ◌&&◌, ◌||◌, ◌==◌, nat_le, nat_lt}
use Rattle.std.specs.List.{list_all}
use Rattle.std.proofs.lemmas.Bool.{and_parts}
use Rattle.std.proofs.lemmas.Bool.Decides.{nat_tests}
use Rattle.fv_disk.specs.Shown.{Image}
use Rattle.fv_codec.specs.declared.label.Label.{Label}
use Rattle.fv_codec.specs.Blocks.{label_at}
use Rattle.fv_model.specs.Machines.{first_block}
use Rattle.fv_laws.proofs.Lists.{In}
use Rattle.fv_image.specs.Maps.{area_bits}
use Rattle.fv_image.specs.NewerRoot.{Taken}
use Rattle.fv_image.specs.Views.{Rooted, Head, View, head_of, kind_at}
use Rattle.fv_image.specs.Held.{Lying, Layout, lying_at, label_in, label_lying, label_place, layout_at, view_at, is_held}
use Rattle.fv_image.specs.Seen.{roots_of, own_blocks, seen}
use Rattle.fv_image.specs.BlockRules.{is_place}
use Rattle.fv_image.specs.ReachRules.{has_map_kinds}
use Rattle.fv_image.specs.VolumeRules.{has_bases}
use Rattle.fv_image.specs.Whole.{is_held_by}
use Rattle.fv_image.specs.SoundSlots.{has_maps_there, IsSoundVolume, IsSoundSlot}
use Rattle.fv_image.specs.Soundness.{IsSound}
use Rattle.fv_image.proofs.Counted.{image_has_heads}
use Rattle.fv_image.proofs.WellLabels.{numbers_at}
use Rattle.fv_image.proofs.Spaced.{AreSpaced, holder, spaced_from}
use Rattle.fv_image.proofs.HeldPlaces.{none_held}
use Rattle.fv_image.proofs.SoundSlots.{blocks_from_slots, maps_from_slots, kinds_from_slots}
use Rattle.fv_faults.specs.FirstPass.{first_pass}
use Rattle.fv_faults.specs.SecondPass.{second_pass}
use Rattle.fv_faults.specs.ThirdPass.{third_pass}
use Rattle.fv_faults.specs.FourthPass.{fourth_pass}
use Rattle.fv_faults.specs.Faults.{passes}
use Rattle.fv_faults.proofs.Clean.{both_passes}
use Rattle.fv_faults.proofs.EachVolume.{view_test}
use Rattle.fv_faults.proofs.FirstSlots.{lies_at, sound_volume, places_sound}
use Rattle.fv_faults.proofs.First.{IsFirst, read_as, head_is, labelled, first_true}
use Rattle.fv_faults.proofs.Second.{IsRead, HasRoots, AreWalked, AllClean, clean_from, second_true}
use Rattle.fv_faults.proofs.Later.{IsThird, third_true, IsFourth, all_fourth}

no_label : (t : Taken) (i : Image) (s : ℕ) → (layout_at t i).label s ≡ None → label_place t s ≡ 0
unfolding layout_at
no_label t i s none = so (label_place t s) none
  where
    so : (p : ℕ) → lying_at i p ≡ None → p ≡ 0
    so zero none = refl
    so (suc p) none = absurd cc

span_is : (l : Label) (P : ℕ → Type 0) → P l.span → P (head_of l).span
unfolding head_of
span_is l P p = p

module _ (t : Taken) (i : Image) (long : (b : ℕ) → length (i b) ≡ 4096) (some_blocks : 0 < (view_at t i).blocks) where
  abbrev y : Layout
  y = layout_at t i

  abbrev w : View
  w = view_at t i

  -- what an image gives, whatever it is
  pub is_read : IsRead y
  unfolding layout_at
  is_read = record { heads = image_has_heads t i; numbers = λ s h head. numbers_at t i long s h head; blocks = some_blocks }

  pub low_label : (s : ℕ) (x : Lying) → y.label s ≡ Some x → s < 64
  low_label s x lies = (lies_at t i long some_blocks s x lies).low

  -- pass 1 says that the pointers in labels are in range
  pub roots_from : (root : ℕ) → IsFirst t i long some_blocks root → HasRoots y is_read
  unfolding layout_at
  roots_from root is = record {
    ranges = λ s h low head r there.
        let has = labelled t i long some_blocks root s h head in
        let known = read_as t i long some_blocks root s has.lying has.label has.lies has.reads in
        of_label s has.label h known has.head head r there;
  }
    where
      of_label : (s : ℕ) (l : Label) (h : Head) → label_in (label_lying t i s) ≡ Some l → head_of l ≡ h → (head : y.view.head s ≡ Some h) → (r : ℕ × Rooted) → In r (roots_of h)
          → ((r.1.root.stamp == 0) || (nat_lt r.1.root.vvbn h.span && ((r.1.root.pvbn == 0) || (nat_le (first_block w.blocks) r.1.root.pvbn && nat_lt r.1.root.pvbn w.blocks)))) ≡ true
      of_label s l h known same head r there =
          subst (λ (g : Head). In r (roots_of g) → ((r.1.root.stamp == 0) || (nat_lt r.1.root.vvbn g.span && ((r.1.root.pvbn == 0) || (nat_le (first_block w.blocks) r.1.root.pvbn && nat_lt r.1.root.pvbn w.blocks)))) ≡ true) same (by_span s l known r) there
        where
          by_span : (s : ℕ) (l : Label) → label_in (label_lying t i s) ≡ Some l → (r : ℕ × Rooted) → In r (roots_of (head_of l)) → ((r.1.root.stamp == 0) || (nat_lt r.1.root.vvbn (head_of l).span && ((r.1.root.pvbn == 0) || (nat_le (first_block w.blocks) r.1.root.pvbn && nat_lt r.1.root.pvbn w.blocks)))) ≡ true
          by_span s l known r there = span_is l (λ span. ((r.1.root.stamp == 0) || (nat_lt r.1.root.vvbn span && ((r.1.root.pvbn == 0) || (nat_le (first_block w.blocks) r.1.root.pvbn && nat_lt r.1.root.pvbn w.blocks)))) ≡ true) ((is.slots s l known).numbers.roots r there)

  -- ---- from all passes

  module _ (root : ℕ) (none : passes root y ≡ []) where
    passed : (first_pass root y ≡ []) × ((second_pass y ≡ []) × ((third_pass y ≡ []) × (fourth_pass root y ≡ [])))
    unfolding passes
    passed =
        let a = both_passes (first_pass root y) _ none in
        let b = both_passes (second_pass y) _ a.1 in
        let c = both_passes (third_pass y) _ b.1 in
        (a.0, (b.0, (c.0, c.1)))

    one : IsFirst t i long some_blocks root
    one = first_true t i long some_blocks root passed.0

    two : AreWalked y is_read
    two = second_true y is_read (roots_from root one) passed.1.0

    clean : AllClean y is_read
    clean = clean_from y is_read passed.1.0

    bases : has_bases (seen y.view) ≡ true
    unfolding layout_at
    bases = one.bases

    three : IsThird y is_read low_label clean two.ranges bases
    three = third_true y is_read low_label clean two.ranges bases passed.1.1.0

    four : IsFourth y is_read low_label clean two.ranges bases
    four = all_fourth y is_read low_label clean two.ranges bases root passed.1.1.1

    -- ---- slots

    maps_there : (s : ℕ) (h : Head) → s < 64 → w.head s ≡ Some h → has_maps_there w s h ≡ true
    unfolding has_map_kinds layout_at
    maps_there s h low head = view_test w (λ s h. list_all (λ (b : ℕ × ℕ). kind_at (w.entry s b.0) == b.1) (own_blocks w.version h)) three.map_kinds s h low head

    volume_there : (s : ℕ) (x : Lying) → y.label s ≡ Some x → (l : Label) × ((label_at x.block ≡ Ok l) × IsSoundVolume y s l)
    volume_there s x lies =
        let l = one.labels s x lies in
        let known = read_as t i long some_blocks root s x l.0 lies l.1 in
        (l.0, (l.1, sound_volume t i long some_blocks s l.0 known (one.slots s l.0 known) (maps_there s (head_of l.0) (low_label s x lies) (head_is t i long some_blocks root s l.0 known))))

    places_there : (s b : ℕ) → is_held_by y s b ≡ true → is_place y b ≡ true
    places_there s b held = so (y.label s) refl
      where
        differ : false ≡ true → ⊥
        differ e = cc

        so : (o : Option Lying) → y.label s ≡ o → is_place y b ≡ true
        so None lies = absurd (differ (sym (none_held t i s b (no_label t i s lies)) ∙ held))
        so (Some x) lies =
            let l = one.labels s x lies in
            let known = read_as t i long some_blocks root s x l.0 lies l.1 in
            places_sound t i long some_blocks s l.0 known (one.slots s l.0 known)
            (subst (λ (p : ℕ). is_place y p ≡ true) (lies_at t i long some_blocks s x lies).place (one.places s x lies)) b held

    each : (s : ℕ) → s < 64 → IsSoundSlot y s
    each s low = record { volume = λ x lies. let v = volume_there s x lies in (v.0, v.1.0, v.1.1); places = places_there s }

    in_area : (b : ℕ) → is_held y b ≡ true → b < area_bits y.view.blocks
    in_area b there =
        let at = holder y b there in
        let test = (and_parts (nat_le (first_block y.view.blocks) b) _ ((each at.0 at.1.0).places b at.1.1)).1 in
        let low : b < y.view.blocks = grind (arith, nat_tests, test) in
        covers y.view.blocks b low
      where
        covers : (blocks b : ℕ) → b < blocks → b < area_bits blocks
        covers blocks b low = omega (arith, low)

    spaced : AreSpaced y
    spaced = spaced_from y three.once three.map in_area

    -- Where no pass finds anything, the layout is sound.
    pub sound_from : IsSound y
    unfolding layout_at
    sound_from = record {
      blocks = blocks_from_slots y is_read.heads each spaced;
      tables = record {
        shapes = two.shapes;
        ranges = two.ranges;
        spans = three.spans;
        bases = one.bases;
        snapshots = one.snapshots;
        files = two.files;
        positions = two.positions;
        once = two.once;
        kinds = three.kinds;
        ids = three.ids;
        stamps = three.stamps;
        marks = three.marks;
        cells = three.cells;
        levels = three.levels;
        hints = four.hints;
        unknown = four.unknown;
        known = four.known;
        split = four.split;
        leaves = four.leaves;
        rests = four.rests;
        sizes = four.sizes;
        commits = four.commits;
      };
      maps = record {
        there = maps_from_slots y is_read.heads each;
        reach = three.reach;
        kinds = kinds_from_slots y is_read.heads each;
      };
      names = one.names;
      room = four.room;
    }
