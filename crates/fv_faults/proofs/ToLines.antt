-- Where the image is sound, the check has no line.
use Rattle.std.proofs.Common.{◌≡◌, ◌≢◌, ℕ, ◌<◌, Bool, true, [], length, inl, sym, ap, subst, ◌∙◌, arith, ⊎_elim, Result, Ok}
use Rattle.std.specs.Prelude.{Some, ◌&&◌, ◌||◌, ◌==◌, nat_lt}
use Rattle.std.specs.List.{list_all}
use Rattle.std.proofs.lemmas.Bool.{or_left, or_right, cases_eq}
use Rattle.std.proofs.lemmas.Bool.Decides.{nat_tests}
use Rattle.std.proofs.lemmas.List.Folds.{list_all-map}
use Rattle.fv_disk.specs.Shown.{Image}
use Rattle.fv_codec.specs.declared.shape.Shape.{Shape}
use Rattle.fv_codec.specs.declared.pointer.Pointer.{Pointer}
use Rattle.fv_codec.specs.declared.label.Label.{Label}
use Rattle.fv_codec.specs.Blocks.{label_at}
use Rattle.fv_laws.proofs.Lists.{In}
use Rattle.fv_tables.specs.Spelled.{hole, pointer_at}
use Rattle.fv_tables.specs.Reached.{Item, items}
use Rattle.fv_tables.proofs.Items.{at_inode}
use Rattle.fv_image.specs.NewerRoot.{Taken}
use Rattle.fv_image.specs.Views.{Rooted, Head, View, head_of}
use Rattle.fv_image.specs.Held.{Lying, Layout, label_in, label_lying, layout_at, view_at}
use Rattle.fv_image.specs.Volumes.{standing_of}
use Rattle.fv_image.specs.Seen.{Reached, roots_of, reached_at, root_seen, volume_seen, seen}
use Rattle.fv_image.specs.ReachRules.{is_hint, has_pointers_in_range}
use Rattle.fv_image.specs.SoundSlots.{IsSoundVolume, IsSoundSlot}
use Rattle.fv_image.specs.Soundness.{IsSound}
use Rattle.fv_image.proofs.HeldPlaces.{block_is_held}
use Rattle.fv_image.proofs.SoundSlots.{slot_from_blocks}
use Rattle.fv_faults.specs.FirstPass.{first_pass}
use Rattle.fv_faults.specs.SecondPass.{second_pass}
use Rattle.fv_faults.specs.ThirdPass.{third_pass}
use Rattle.fv_faults.specs.FourthPass.{fourth_pass}
use Rattle.fv_faults.specs.Faults.{passes}
use Rattle.fv_faults.proofs.Clean.{no_pass}
use Rattle.fv_faults.proofs.EachVolume.{root_test}
use Rattle.fv_faults.proofs.TableMembers.{top_item}
use Rattle.fv_faults.proofs.ReadLabels.{fits}
use Rattle.fv_faults.proofs.FirstSlots.{lies_at, span_of, IsWellRead, well_from_sound}
use Rattle.fv_faults.proofs.First.{IsFirst, read_as, head_is, in_slot, no_first}
use Rattle.fv_faults.proofs.Second.{AllClean, clean_from, no_second}
use Rattle.fv_faults.proofs.FromLines.{is_read, low_label}
use Rattle.fv_faults.proofs.Later.{no_third, no_fourth}

span_back : (l : Label) (P : ℕ → Type 0) → P (head_of l).span → P l.span
unfolding head_of
span_back l P p = p

module _ (t : Taken) (i : Image) (long : (b : ℕ) → length (i b) ≡ 4096) (some_blocks : 0 < (view_at t i).blocks) (root : ℕ) (sound : IsSound (layout_at t i)) where
  abbrev y : Layout
  y = layout_at t i

  abbrev w : View
  w = view_at t i

  slot : (s : ℕ) → s < 64 → IsSoundSlot y s
  slot s low = slot_from_blocks y sound.blocks sound.maps.kinds (is_read t i long some_blocks).heads s low

  -- ---- the pointers in labels

  abbrev ranged : ℕ → Item → Bool
  ranged span e = nat_lt e.pointer.vvbn span && is_hint w.blocks e.pointer.pvbn

  all_ranged : (s : ℕ) (h : Head) → s < 64 → w.head s ≡ Some h → (r : ℕ × Rooted) → In r (roots_of h) → list_all (ranged h.span) (items (standing_of w s r.1)) ≡ true
  unfolding has_pointers_in_range root_seen volume_seen seen layout_at
  all_ranged s h low head r there =
      sym (list_all-map (λ (e : Reached). ranged h.span e.item) (reached_at w s) (items (standing_of w s r.1)))
      ∙ root_test w (λ x r. list_all (λ e. nat_lt e.item.pointer.vvbn x.head.span && is_hint w.blocks e.item.pointer.pvbn) r.reached) sound.tables.ranges s h low head r there

  root_ranged : (s : ℕ) (h : Head) → s < 64 → w.head s ≡ Some h → (r : ℕ × Rooted) → In r (roots_of h) → ((r.1.root.stamp == 0) || (nat_lt r.1.root.vvbn h.span && is_hint w.blocks r.1.root.pvbn)) ≡ true
  root_ranged s h low head r there = ⊎_elim
      (λ (none : r.1.root.stamp ≡ 0). or_left (r.1.root.stamp == 0) _ (let test : (r.1.root.stamp == 0) ≡ true = grind (arith, nat_tests, none) in test))
      (λ (some : r.1.root.stamp ≢ 0).
      let top = top_item (standing_of w s r.1).inode hole in
      let root_is : pointer_at (standing_of w s r.1).inode r.1.levels 0 ≡ r.1.root = ap (λ (e : Item). e.pointer) top in
      or_right (r.1.root.stamp == 0) _ (subst (λ (p : Pointer). (nat_lt p.vvbn h.span && is_hint w.blocks p.pvbn) ≡ true) root_is
      (at_inode (ranged h.span) (standing_of w s r.1) (all_ranged s h low head r there) r.1.levels 0 (λ none. some (sym (ap (λ (p : Pointer). p.stamp) root_is) ∙ none)))))
      (cases_eq r.1.root.stamp 0)

  -- ---- pass 1

  well_there : (s : ℕ) (l : Label) (there : label_in (label_lying t i s) ≡ Some l) → IsWellRead t i long some_blocks s l there
  well_there s l there = well_from_sound t i long some_blocks s l there volume (slot s low).places roots
    where
      at : (x : Lying) × ((y.label s ≡ Some x) × (label_at x.block ≡ Ok l))
      at = in_slot t i long some_blocks root s l there

      low : s < 64
      low = low_label t i long some_blocks s at.0 at.1.0

      volume : IsSoundVolume y s l
      volume = let v = (slot s low).volume at.0 at.1.0 in subst (IsSoundVolume y s) (same v.0 (sym v.1 ∙ at.1.1)) v.2
        where
          same : (m : Label) → ◌≡◌ {A = Result Label Shape} (Ok m) (Ok l) → m ≡ l
          same m e = cc

      roots : (r : ℕ × Rooted) → In r (roots_of (head_of l)) → fits w.blocks l.span (span_of t i long some_blocks s l there) some_blocks 0 r.1.root ≡ true
      roots r one = span_back l (λ span. ((r.1.root.stamp == 0) || (nat_lt r.1.root.vvbn span && is_hint w.blocks r.1.root.pvbn)) ≡ true) (root_ranged s (head_of l) low (head_is t i long some_blocks root s l there) r one)

  first : IsFirst t i long some_blocks root
  unfolding layout_at
  first = record {
    labels = λ s x lies. let v = (slot s (low_label t i long some_blocks s x lies)).volume x lies in (v.0, v.1);
    places = λ s x lies.
        let low = low_label t i long some_blocks s x lies in
        let v = (slot s low).volume x lies in
        let at = lies_at t i long some_blocks s x lies in
        (slot s low).places x.place (block_is_held t i s v.0 (read_as t i long some_blocks root s x v.0 lies v.1) x.place (inl at.place));
    slots = well_there;
    bases = sound.tables.bases;
    names = sound.names;
    snapshots = sound.tables.snapshots;
  }

  -- ---- the other passes

  second_none : second_pass y ≡ []
  second_none = no_second y (is_read t i long some_blocks) (record {
    shapes = sound.tables.shapes;
    ranges = sound.tables.ranges;
    positions = sound.tables.positions;
    files = sound.tables.files;
    once = sound.tables.once;
  })

  clean : AllClean y (is_read t i long some_blocks)
  clean = clean_from y (is_read t i long some_blocks) second_none

  third_none : third_pass y ≡ []
  third_none = no_third y (is_read t i long some_blocks) (low_label t i long some_blocks) clean sound.tables.ranges sound.tables.bases (record {
    once = sound.blocks.once;
    map = sound.blocks.map;
    spans = sound.tables.spans;
    reach = sound.maps.reach;
    map_kinds = sound.maps.kinds;
    kinds = sound.tables.kinds;
    ids = sound.tables.ids;
    stamps = sound.tables.stamps;
    marks = sound.tables.marks;
    cells = sound.tables.cells;
    levels = sound.tables.levels;
  })

  fourth_none : fourth_pass root y ≡ []
  fourth_none = no_fourth y (is_read t i long some_blocks) (low_label t i long some_blocks) clean sound.tables.ranges sound.tables.bases root (record {
    hints = sound.tables.hints;
    unknown = sound.tables.unknown;
    known = sound.tables.known;
    split = sound.tables.split;
    leaves = sound.tables.leaves;
    rests = sound.tables.rests;
    sizes = sound.tables.sizes;
    commits = sound.tables.commits;
    room = sound.room;
  })

  -- No pass finds anything.
  pub no_lines : passes root y ≡ []
  unfolding passes
  no_lines = no_pass (first_pass root y) _ (no_first t i long some_blocks root first) (no_pass (second_pass y) _ second_none (no_pass (third_pass y) _ third_none fourth_none))
