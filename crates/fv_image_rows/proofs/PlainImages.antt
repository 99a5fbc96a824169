-- An image of empty volumes that is sound and stands for a machine as the definitions of empty volumes say is sound and stands for it: a
-- bridge from what speaks of those alone.
use Rattle.std.proofs.Common.{◌≡◌, ℕ, ◌+◌, ◌*◌, ◌<◌, ◌≤◌, Bool, true, false, not, List, [], ◌∷◌, refl, sym, ap, subst, ◌∙◌, arith}
use Rattle.std.specs.Prelude.{Option, Some, None, ◌&&◌, ◌||◌, ◌==◌, nat_le, map}
use Rattle.std.specs.List.{list_all, range_with_len}
use Rattle.std.specs.Option.{is_some, is_none, option_map, option_map_or}
use Rattle.std.proofs.lemmas.Bool.{and_parts, and_from}
use Rattle.std.proofs.lemmas.Bool.Decides.{nat_tests}
use Rattle.fv_disk.specs.Shown.{Image}
use Rattle.fv_codec.specs.declared.inode.InodeRecord.{InodeRecord}
use Rattle.fv_codec.specs.declared.label.Label.{Label}
use Rattle.fv_model.specs.Machines.{Machine}
use Rattle.fv_model.specs.Space.{map_blocks, use_of}
use Rattle.fv_tables.specs.Reached.{Item, items, is_listed}
use Rattle.fv_tables.proofs.Lists.{all_in_range, all_of_range}
use Rattle.fv_tables.proofs.Bare.{bare_reach}
use Rattle.fv_image.specs.Layout.{block_bits}
use Rattle.fv_image.specs.Containers.{height_of}
use Rattle.fv_image.specs.Views.{Placed, Rooted, Snap, Footing, Head, View, head_of, slots, entry_count, map_vvbn, volume_bit, map_kind}
use Rattle.fv_image_rows.specs.EmptyTold as plain
use Rattle.fv_image.specs.Volumes.{empty_volume_of}
use Rattle.fv_image.specs.Held.{Layout, layout_at, label_in, held}
use Rattle.fv_image_rows.specs.EmptySound as plain_rules
use Rattle.fv_image.specs.BlockRules.{agree, is_place}
use Rattle.fv_image.specs.Views.{kind_at}
use Rattle.fv_image_rows.specs.EmptySound.{pointers_of}
use Rattle.fv_image_rows.specs.EmptyMachine.{EmptyTells, EmptyStandsFor}
use Rattle.fv_image.specs.Volumes.{standing_of, told}
use Rattle.fv_image.specs.Seen.{Root, roots_of, seen}
use Rattle.fv_image.specs.BlockRules.{are_in_range}
use Rattle.fv_image.specs.HintRules.{is_splitting}
use Rattle.fv_image.specs.ReachRules.{is_reach, has_maps_of_reach, has_map_blocks, has_map_kinds}
use Rattle.fv_image.specs.Soundness.{AreBlocks, AreMaps, IsSound}
use Rattle.fv_image.specs.WholeMachine.{has_form, has_no_reserves, is_built, machine_of, Tells}
use Rattle.fv_image.proofs.Counted.{HasHeads, image_has_heads}
use Rattle.fv_image.proofs.SoundTests.{machine_told, machine_under}
use Rattle.fv_image_rows.proofs.EmptyVolumes.{no_snaps}
use Rattle.fv_image.proofs.OwnBlocks.{own_tests}
use Rattle.fv_image.proofs.SoundFacts.{of_slot}
use Rattle.fv_image_rows.proofs.PlainVolumes.{IsPlainHead, FitsPlain, told_plain, tables_plain, all_plain}

-- ---- tests of slots

-- a test of what stands in each slot
of_each : {X : Type 0} (in_slot : ℕ → Option X) (test : ℕ → X → Bool) (s : ℕ) (x : X) → list_all (λ s. option_map_or (test s) (in_slot s) true) slots ≡ true → s < 64 → in_slot s ≡ Some x → test s x ≡ true
of_each in_slot test s x all inside is = subst (λ o. option_map_or (test s) o true ≡ true) is (of_slot (λ s. option_map_or (test s) (in_slot s) true) s all inside)

from_each : {X : Type 0} (in_slot : ℕ → Option X) (test : ℕ → X → Bool) → ((s : ℕ) (x : X) → s < 64 → in_slot s ≡ Some x → test s x ≡ true) → list_all (λ s. option_map_or (test s) (in_slot s) true) slots ≡ true
unfolding slots
from_each {X} in_slot test each = all_of_range (λ s. option_map_or (test s) (in_slot s) true) 0 64 (λ s low high. so s (omega (arith, high)) (in_slot s) refl)
  where
    so : (s : ℕ) → s < 64 → (o : Option X) → in_slot s ≡ o → option_map_or (test s) o true ≡ true
    so s inside None e = refl
    so s inside (Some x) e = each s x inside e

-- ---- the form of the volumes

no_base : (base : Option Footing) → is_none base ≡ true → base ≡ None
no_base None e = refl
no_base (Some b) e = absurd cc

-- a volume without a base isn't being split
plain_form : (b : Option Footing) (known : Bool) → (is_none b && known) ≡ true → not (is_splitting b) ≡ true
plain_form None known e = refl
plain_form (Some b) known e = absurd cc

module _ (w : View) (empty : plain.is_all_plain w ≡ true) (levels : (s : ℕ) (h : Head) → s < 64 → w.head s ≡ Some h → h.active.root.stamp ≡ 0 → h.active.levels ≡ 0) where
  bare_root : (s : ℕ) (h : Head) → s < 64 → w.head s ≡ Some h → h.active.root.stamp ≡ 0
  unfolding plain.is_all_plain plain.is_plain
  bare_root s h inside is =
      let form : plain.is_plain h ≡ true = of_each w.head (λ s h. plain.is_plain h) s h empty inside is in
      let stamp = (and_parts (h.active.root.stamp == 0) _ form).0 in
      grind (arith, nat_tests, stamp)

  plain_heads : (s : ℕ) (h : Head) → s < 64 → w.head s ≡ Some h → IsPlainHead h
  unfolding plain.is_all_plain plain.is_plain
  plain_heads s h inside is =
      let form : plain.is_plain h ≡ true = of_each w.head (λ s h. plain.is_plain h) s h empty inside is in
      let rest = (and_parts (h.active.root.stamp == 0) _ form).1 in
      let snaps = and_parts (plain.has_none h.snapshots) _ rest in
      let bases = and_parts (is_none h.base) h.known snaps.1 in
      record {
        root = bare_root s h inside is;
        levels = levels s h inside is (bare_root s h inside is);
        snapshots = no_snaps h.snapshots snaps.0;
        base = no_base h.base bases.0;
      }

-- ---- the rules

agree_none : (b : Bool) → agree b false ≡ not b
agree_none true = refl
agree_none false = refl

module _ (y : Layout) (heads : HasHeads y) (empty : plain.is_all_plain y.view ≡ true) where
  -- the label behind a head
  label_behind : (s : ℕ) (h : Head) → y.view.head s ≡ Some h → (l : Label) × ((label_in (y.label s) ≡ Some l) × (head_of l ≡ h))
  label_behind s h is = so (label_in (y.label s)) refl (sym (heads.heads s) ∙ is)
    where
      so : (o : Option Label) → label_in (y.label s) ≡ o → option_map head_of o ≡ Some h → (l : Label) × ((label_in (y.label s) ≡ Some l) × (head_of l ≡ h))
      so None e f = absurd cc
      so (Some l) e f = (l, (e, cc))

  module _ (is : plain_rules.IsEmptySound y) where
    levels_by : (s : ℕ) (h : Head) → s < 64 → y.view.head s ≡ Some h → h.active.root.stamp ≡ 0 → h.active.levels ≡ 0
    unfolding plain_rules.has_true_levels
    levels_by s h inside e none =
        let at : (not (h.active.root.stamp == 0) || (h.active.levels == 0)) ≡ true = of_each y.view.head (λ s h. not (h.active.root.stamp == 0) || (h.active.levels == 0)) s h is.levels inside e in
        grind (arith, nat_tests, at, none)

    heads_by : (s : ℕ) (h : Head) → s < 64 → y.view.head s ≡ Some h → IsPlainHead h
    heads_by = plain_heads y.view empty levels_by

    fits : FitsPlain y.view heads_by
    unfolding plain_rules.is_in_range plain_rules.is_in_size plain_rules.is_in_capacity head_of
    fits = record {
      spans = λ s h inside e.
          let l = label_behind s h e in
          let at : (not (l.0.container == 0) && ((l.0.height == height_of (entry_count l.0.span)) && nat_le (l.0.most + 256) l.0.span)) ≡ true =
          of_each (λ s. label_in (y.label s)) (λ s l. not (l.container == 0) && ((l.height == height_of (entry_count l.span)) && nat_le (l.most + 256) l.span)) s l.0 (and_parts (list_all (is_place y) (held y)) _ is.ranges).1 inside l.1.0 in
          let rest = (and_parts (not (l.0.container == 0)) _ at).1 in
          let span = (and_parts (l.0.height == height_of (entry_count l.0.span)) _ rest).1 in
          subst (λ (h : Head). h.most + 256 ≤ h.span) l.1.1 (fits_in (l.0.most + 256) l.0.span span);
      sizes = λ s h inside e. of_each y.view.head (λ s h. nat_le (use_of (empty_volume_of h)) h.size) s h is.sizes inside e;
      commits = is.commits;
    }
      where
        fits_in : (a b : ℕ) → nat_le a b ≡ true → a ≤ b
        fits_in a b e = grind (arith, nat_tests, e)

    blocks_plain : AreBlocks y
    unfolding plain_rules.is_in_range are_in_range
    blocks_plain = record {
      shapes = is.shapes;
      ranges = and_from (list_all (is_place y) (held y)) _ (and_parts (list_all (is_place y) (held y)) _ is.ranges).0
          (from_each (λ s. label_in (y.label s)) (λ s l. not (l.container == 0) && (l.height == height_of (entry_count l.span))) (λ s l inside e.
          let at = of_each (λ s. label_in (y.label s)) (λ s l. not (l.container == 0) && ((l.height == height_of (entry_count l.span)) && nat_le (l.most + 256) l.span)) s l (and_parts (list_all (is_place y) (held y)) _ is.ranges).1 inside e in
          let root = and_parts (not (l.container == 0)) _ at in
          and_from (not (l.container == 0)) _ root.0 (and_parts (l.height == height_of (entry_count l.span)) _ root.1).0));
      entries = is.entries;
      positions = is.positions;
      once = is.once;
      map = is.map;
    }

    -- the roots are the active one alone
    roots_plain : (h : Head) → IsPlainHead h → roots_of h ≡ (0, h.active) ∷ []
    roots_plain h form = ap (λ (ps : List Snap). (0, h.active) ∷ map (λ p. (p.slot, p.table)) ps) form.snapshots

    reach_plain : (s : ℕ) (h : Head) → s < 64 → y.view.head s ≡ Some h → list_all (is_reach y.view s h) (roots_of h) ≡ true
    unfolding plain_rules.has_true_maps
    reach_plain s h inside e =
        let none : items (standing_of y.view s h.active) ≡ [] = bare_reach (standing_of y.view s h.active) (heads_by s h inside e).root in
        let clear : list_all (λ v. not (volume_bit y.view s h.span 0 v)) (range_with_len 0 (block_bits * map_blocks h.span)) ≡ true =
        of_each y.view.head (λ s h. list_all (λ v. not (volume_bit y.view s h.span 0 v)) (range_with_len 0 (block_bits * map_blocks h.span))) s h is.maps inside e in
        ap (list_all (is_reach y.view s h)) (roots_plain h (heads_by s h inside e))
        ∙ and_from (is_reach y.view s h (0, h.active)) true
        (ap (λ (es : List Item). list_all (λ v. agree (volume_bit y.view s h.span 0 v) (is_listed es v)) (range_with_len 0 (block_bits * map_blocks h.span))) none
        ∙ (λ i. list_all (λ v. agree_none (volume_bit y.view s h.span 0 v) i) (range_with_len 0 (block_bits * map_blocks h.span)))
        ∙ clear) refl

    kinds_at : (s : ℕ) (h : Head) → s < 64 → y.view.head s ≡ Some h → list_all (λ k. kind_at (y.view.entry s (map_vvbn h.span 0 k)) == map_kind) (range_with_len 0 (map_blocks h.span)) ≡ true
    unfolding plain_rules.has_true_kinds
    kinds_at s h inside e = of_each y.view.head (λ s h. list_all (λ k. kind_at (y.view.entry s (map_vvbn h.span 0 k)) == map_kind) (range_with_len 0 (map_blocks h.span))) s h is.kinds inside e

    map_blocks_plain : (test : Option Placed → Bool) → ((o : Option Placed) → (kind_at o == map_kind) ≡ true → test o ≡ true) → (s : ℕ) (h : Head) → s < 64 → y.view.head s ≡ Some h
        → list_all (λ (r : ℕ × Rooted). list_all (λ k. test (y.view.entry s (map_vvbn h.span r.0 k))) (range_with_len 0 (map_blocks h.span))) (roots_of h) ≡ true
    map_blocks_plain test each s h inside e =
        ap (list_all (λ (r : ℕ × Rooted). list_all (λ k. test (y.view.entry s (map_vvbn h.span r.0 k))) (range_with_len 0 (map_blocks h.span)))) (roots_plain h (heads_by s h inside e))
        ∙ and_from (list_all (λ k. test (y.view.entry s (map_vvbn h.span 0 k))) (range_with_len 0 (map_blocks h.span))) true
        (all_of_range (λ k. test (y.view.entry s (map_vvbn h.span 0 k))) 0 (map_blocks h.span) (λ k low high. each (y.view.entry s (map_vvbn h.span 0 k)) (all_in_range (λ k. kind_at (y.view.entry s (map_vvbn h.span 0 k)) == map_kind) k 0 (map_blocks h.span) (kinds_at s h inside e) low high))) refl

    maps_plain : AreMaps y.view
    unfolding has_maps_of_reach has_map_blocks has_map_kinds
    maps_plain = record {
      there = from_each y.view.head _ (λ s h inside e. own_tests (λ b. is_some (y.view.entry s b.0)) y.view.version h ∙ map_blocks_plain (λ o. is_some o) there_is s h inside e);
      reach = from_each y.view.head _ reach_plain;
      kinds = from_each y.view.head _ (λ s h inside e. own_tests (λ b. kind_at (y.view.entry s b.0) == b.1) y.view.version h ∙ map_blocks_plain (λ o. kind_at o == map_kind) (λ o e. e) s h inside e);
    }
      where
        there_is : (o : Option Placed) → (kind_at o == map_kind) ≡ true → is_some o ≡ true
        there_is None e = absurd cc
        there_is (Some x) e = refl

    -- An image of empty volumes that is sound by the rules for those is sound.
    pub sound_plain : IsSound y
    unfolding plain_rules.has_room
    sound_plain = record {
      blocks = blocks_plain;
      tables = tables_plain y.view heads_by fits;
      maps = maps_plain;
      names = is.names;
      room = is.room;
    }

    -- and it tells the same machine
    pub told_by_plain : told y.view ≡ plain.empty_told y.view
    told_by_plain = told_plain y.view heads_by

    -- a form that there is
    pub built_plain : is_built y.view ≡ true
    unfolding is_built has_no_reserves plain.is_all_plain plain.is_plain
    built_plain = and_from (list_all (λ s. option_map_or has_form (y.view.head s) true) slots) (has_no_reserves (seen y.view))
        (from_each y.view.head (λ s h. has_form h) (λ s h inside e. plain_form h.base h.known (and_parts (plain.has_none h.snapshots) _ (and_parts (h.active.root.stamp == 0) _ (of_each y.view.head (λ s h. plain.is_plain h) s h empty inside e)).1).1))
        (all_plain y.view heads_by (λ s x. list_all (λ (r : Root). list_all (λ (f : ℕ × InodeRecord). f.1.reserve == 0) r.files) x.roots) (λ s h inside e. refl))

-- ---- the machine

-- What makes an image of empty volumes stand for a machine by the definitions of those makes it stand.
pub tells_whole : (y : Layout) (m : Machine) → HasHeads y → EmptyTells y m → Tells y m
tells_whole y m heads is = record {
  built = built_plain y heads is.plain is.sound;
  sound = sound_plain y heads is.plain is.sound;
  machine = told_by_plain y heads is.plain is.sound ∙ is.machine;
}

-- An image of empty volumes that stands for a machine by their own definitions stands for it.
pub machine_stands : (i : Image) (m : Machine) → EmptyStandsFor i m → machine_of i ≡ Some m
machine_stands i m stands = machine_under i stands.taken stands.counts ∙ machine_told (layout_at stands.taken i) m (tells_whole (layout_at stands.taken i) m (image_has_heads stands.taken i) stands.tells)
