-- What the first pass says of a slot, by the labels that were read.
use Rattle.std.proofs.Common.{◌≡◌, ◌≢◌, ℕ, zero, suc, ◌<◌, Bool, true, false, List, [], ◌∷◌, ◌++◌, length, get_or, refl, sym, ap, subst, ◌∙◌, arith, Ok}
use Rattle.std.specs.Prelude.{Option, Some, None, Result, ◌↔◌, IsTrue, Vec, nat_lt, if◌then◌else◌}
use Rattle.std.specs.declared.alloc.Global.{Global}
use Rattle.std.specs.Option.{option_map, option_map_or}
use Rattle.std.proofs.lemmas.Bool.Decides.{nat_tests}
use Rattle.std.proofs.lemmas.List.Elements.{All-get_or}
use Rattle.fv_disk.specs.Shown.{Image}
use Rattle.fv_codec.specs.declared.shape.Shape.{Shape}
use Rattle.fv_codec.specs.declared.label.Label.{Label}
use Rattle.fv_codec.specs.Blocks.{IsLabel, IsSnapRecord, label_at}
use Rattle.fv_root.specs.Formatted.{IsSize}
use Rattle.fv_image.specs.Containers.{height_of, shaped}
use Rattle.fv_image.specs.NewerRoot.{Taken}
use Rattle.fv_image.specs.Views.{head_of, entry_count}
use Rattle.fv_image.specs.Held.{Lying, Layout, lying_at, label_in, label_lying, label_place, entry_from, layout_at, view_at}
use Rattle.fv_image.proofs.Heads.{head_told}
use Rattle.fv_faults.specs.declared.fault.Fault.{Fault}
use Rattle.fv_faults.specs.declared.lines.Lines.{Lines}
use Rattle.fv_faults.specs.Lines.{or_next}
use Rattle.fv_faults.specs.Adding.{Adds}
use Rattle.fv_faults.specs.FirstPass.{base_lines, label_numbers, label_stops, node_below, read_lines}
use Rattle.fv_faults.proofs.Adding.{adds_then}
use Rattle.fv_faults.proofs.Clean.{parts_nil, both_passes}
use Rattle.fv_faults.proofs.ReadLabels.{numbers_from}
use Rattle.fv_first_pass.specs.declared.site.Site.{Site}
use Rattle.fv_first_pass.specs.Records.{free}
use Rattle.fv_first_pass.specs.Sites.{IsSite}
use Rattle.fv_first_pass.specs.Heads.{HasLabels, IsLabelIn, label_read}
use Rattle.fv_first_pass.specs.Known.{HasEntries}
use Rattle.fv_first_pass.specs.Passed.{HasRow, IsLabelHere, slot_lines, spelled}
use Rattle.fv_first_pass.proofs.Spelled.{row_told}

-- ---- a label that was decoded

pub site_of : (blocks slot : ℕ) (l : Label) → IsSize blocks → slot < 64 → IsLabel l → length l.snapshots ≡ 24
    → IsSite (record { blocks = blocks; slot = slot; label = l })
site_of blocks slot l size low is long = record {
  size = size;
  slot = low;
  span_least = is.span_least;
  span_greatest = is.span_greatest;
  snapshots = long;
  names = λ j inside. (All-get_or IsSnapRecord l.snapshots j free (omega (arith, long, inside)) is.snapshots).name_length;
}

-- ---- one label

pub stopped : (ls next : List Fault) → ls ≢ [] → or_next ls next ≡ ls
stopped [] next some = absurd (some refl)
stopped (f ∷ fs) next some = refl

pub never : (clean : Bool) → clean ≡ false → IsTrue clean → ⊥
never true not is = absurd cc
never false not is = let e : false ≡ true = is in absurd cc

module _ (t : Taken) (i : Image) (labels : List (Option (Result Label Shape))) (site : Site) (at : ℕ) (here : IsLabelHere t i labels site) where
  abbrev y : Layout
  y = layout_at t i

  abbrev l : Label
  l = site.label

  pub has_labels : HasLabels y labels
  has_labels = here.are

  pub label_in_slot : IsLabelIn y labels site.blocks site.slot l
  unfolding layout_at view_at
  label_in_slot = record { are = here.are; size = here.of.blocks; head = head_told t i site.slot ∙ ap (option_map head_of) here.of.label }

  module _ (old mid : Lines) (base : Adds (base_lines y site.slot at (head_of l)) old mid) (clean : Bool) (told : IsTrue clean ↔ (label_stops y site.slot at l ≡ [])) where
    -- where a line stops the pass
    pub stopped_adds : (new : Lines) → clean ≡ false → Adds (label_stops y site.slot at l) mid new → Adds (read_lines y site.slot at (Ok l)) old new
    stopped_adds new not stops = subst (λ ls. Adds (base_lines y site.slot at (head_of l) ++ ls) old new)
        (sym (stopped (label_stops y site.slot at l) (node_below y site.slot l l.height 0) (λ none. never clean not (told.1 none))))
        (adds_then (base_lines y site.slot at (head_of l)) (label_stops y site.slot at l) old mid new base stops)

    -- and where none does
    pub volume_adds : (low new : Lines) → clean ≡ true → Adds (label_stops y site.slot at l) mid low → Adds (node_below y site.slot l l.height 0) low new
        → Adds (read_lines y site.slot at (Ok l)) old new
    volume_adds low new is stops nodes =
        let none : label_stops y site.slot at l ≡ [] = told.0 is in
        subst (λ ls. Adds (base_lines y site.slot at (head_of l) ++ ls) old new)
        (sym (ap (λ ls. or_next ls (node_below y site.slot l l.height 0)) none))
        (adds_then (base_lines y site.slot at (head_of l)) (node_below y site.slot l l.height 0) old mid new base
        (adds_then [] (node_below y site.slot l l.height 0) mid low new (subst (λ ls. Adds ls mid low) none stops) nodes))

  quiet : read_lines y site.slot at (Ok l) ≡ [] → (label_stops y site.slot at l ≡ []) × (node_below y site.slot l l.height 0 ≡ [])
  quiet none = both_passes (label_stops y site.slot at l) (node_below y site.slot l l.height 0) (parts_nil (base_lines y site.slot at (head_of l)) _ none).1

  pub stopped_row : (clean : Bool) (row : Option (Vec ℕ Global)) → (IsTrue clean ↔ (label_stops y site.slot at l ≡ [])) → clean ≡ false
      → read_lines y site.slot at (Ok l) ≡ [] → HasRow t i site.slot row
  stopped_row clean row told not none = absurd (never clean not (told.1 (quiet none).0))

  -- the height that the label has where the pass has no line
  high : IsSite site → read_lines y site.slot at (Ok l) ≡ [] → l.height ≡ height_of (entry_count l.span)
  unfolding label_stops layout_at view_at
  high is none =
      let least = is.span_least in
      let some_span : 0 < l.span = omega (arith, least) in
      let some_entries : 0 < entry_count l.span = omega (arith, least) in
      let some_blocks : 0 < y.view.blocks = (let size = is.size.least in let same = here.of.blocks in omega (arith, size, same)) in
      (numbers_from y.view l some_span some_entries some_blocks at (parts_nil (label_numbers y.view.blocks at l) _ (quiet none).0).0).height

  pub volume_row : ((b : ℕ) → length (i b) ≡ 4096) → IsSite site → (row : Vec ℕ Global) → HasEntries t i site row.items
      → read_lines y site.slot at (Ok l) ≡ [] → HasRow t i site.slot (Some row)
  unfolding layout_at view_at entry_from
  volume_row long is row has none = record {
    entries = λ v. ap (λ o. entry_from o i v) here.of.label
        ∙ row_told i long l.container l.height (entry_count l.span) row.items has.long (has.words (quiet none).1 (high is none)) v;
  }

-- ---- a slot

module _ (t : Taken) (i : Image) (labels : List (Option (Result Label Shape))) (are : HasLabels (layout_at t i) labels) (s : ℕ) (low : s < 64) where
  place_is : label_place t s ≡ get_or t.root.labels s 0
  unfolding label_place
  place_is = let test : nat_lt s 64 ≡ true = grind (arith, nat_tests, low) in ap (λ (b : Bool). if b then get_or t.root.labels s 0 else 0) test

  lies_is : (layout_at t i).label s ≡ lying_at i (get_or t.root.labels s 0)
  unfolding layout_at
  lies_is = ap (lying_at i) place_is

  read_is : (o : Option (Result Label Shape)) → get_or labels s None ≡ o → label_read (lying_at i (get_or t.root.labels s 0)) ≡ o
  read_is o is = sym (are.reads s low ∙ ap label_read lies_is) ∙ is

  abbrev of_lying : Option Lying → List Fault
  of_lying o = option_map_or (λ x. read_lines (layout_at t i) s x.place (label_at x.block)) o []

  pub empty_lines : get_or labels s None ≡ None → slot_lines (layout_at t i) s ≡ []
  empty_lines is = ap of_lying lies_is ∙ so (get_or t.root.labels s 0) (read_is None is)
    where
      so : (p : ℕ) → label_read (lying_at i p) ≡ None → of_lying (lying_at i p) ≡ []
      so zero e = refl
      so (suc p) e = absurd cc

  pub read_slot_lines : (r : Result Label Shape) → get_or labels s None ≡ Some r → slot_lines (layout_at t i) s ≡ read_lines (layout_at t i) s (get_or t.root.labels s 0) r
  read_slot_lines r is = ap of_lying lies_is ∙ so (get_or t.root.labels s 0) (read_is (Some r) is)
    where
      so : (p : ℕ) → label_read (lying_at i p) ≡ Some r → of_lying (lying_at i p) ≡ read_lines (layout_at t i) s p r
      so zero e = absurd cc
      so (suc p) e = let same : label_at (i (suc p)) ≡ r = cc in ap (read_lines (layout_at t i) s (suc p)) same

  -- a label that was read is that of its slot
  label_is : (l : Label) → get_or labels s None ≡ Some (Ok l) → label_in (label_lying t i s) ≡ Some l
  unfolding label_in
  label_is l is = ap (λ p. label_in (lying_at i p)) place_is ∙ so (get_or t.root.labels s 0) (read_is (Some (Ok l)) is)
    where
      so : (p : ℕ) → label_read (lying_at i p) ≡ Some (Ok l) → label_in (lying_at i p) ≡ Some l
      so zero e = absurd cc
      so (suc p) e = let same : label_at (i (suc p)) ≡ Ok l = cc in ap shaped same

  pub label_here : (l : Label) → get_or labels s None ≡ Some (Ok l) → IsLabelHere t i labels (record { blocks = t.blocks; slot = s; label = l })
  label_here l is = record { are = are; of = record { blocks = refl; label = label_is l is } }

  -- a slot without a label has no entries
  pub empty_row : get_or labels s None ≡ None → HasRow t i s None
  unfolding layout_at view_at label_in entry_from
  empty_row is = record { entries = λ v. ap (λ p. entry_from (label_in (lying_at i p)) i v) place_is ∙ so v (get_or t.root.labels s 0) (read_is None is) }
    where
      so : (v p : ℕ) → label_read (lying_at i p) ≡ None → entry_from (label_in (lying_at i p)) i v ≡ spelled i 0
      so v zero e = refl
      so v (suc p) e = absurd cc
