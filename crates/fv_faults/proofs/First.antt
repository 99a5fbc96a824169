-- Pass 1 as a whole, both ways.
use Rattle.std.proofs.Common.{◌≡◌, ℕ, ◌<◌, true, not, List, [], length, map, refl, sym, ap, subst, ◌∙◌, Result, Ok, Err}
use Rattle.std.specs.Prelude.{Option, Some, None, ◌&&◌}
use Rattle.std.specs.List.{list_all, range_with_len}
use Rattle.std.specs.Option.{option_map, option_map_or}
use Rattle.fv_disk.specs.Shown.{Image}
use Rattle.fv_codec.specs.declared.shape.Shape.{Shape}
use Rattle.fv_codec.specs.declared.label.Label.{Label}
use Rattle.fv_codec.specs.Blocks.{label_at}
use Rattle.fv_laws.proofs.Tests.{from_all, to_all}
use Rattle.fv_image.specs.Containers.{shaped}
use Rattle.fv_image.specs.NewerRoot.{Taken}
use Rattle.fv_image.specs.Views.{Head, View, slots, head_of}
use Rattle.fv_image.specs.Held.{Lying, Layout, label_in, label_lying, layout_at, view_at}
use Rattle.fv_image.specs.BlockRules.{is_place}
use Rattle.fv_image.specs.Seen.{volume_seen, seen}
use Rattle.fv_image.specs.ReachRules.{are_distinct}
use Rattle.fv_image.specs.VolumeRules.{share_name, comes_to_end, has_footing, has_bases, has_distinct_names, has_distinct_snapshots}
use Rattle.fv_image.proofs.Heads.{head_told}
use Rattle.fv_image.proofs.Counted.{HasHeads, image_has_heads}
use Rattle.fv_faults.specs.declared.fault.Fault.{Fault}
use Rattle.fv_faults.specs.Lines.{leads}
use Rattle.fv_faults.specs.FirstPass.{in_slots, root_lines, base_lines, label_numbers, volume_names, snap_names, label_stops, node_below, read_lines, first_pass}
use Rattle.fv_faults.proofs.Clean.{parts_nil, nil_parts, both_passes, no_pass, none_of_each, each_none}
use Rattle.fv_faults.proofs.EachVolume.{slot_there, slot_below, volume_test, test_volumes}
use Rattle.fv_faults.proofs.ReadChildren.{place_from, place_to}
use Rattle.fv_faults.proofs.ReadLabels.{snaps_distinct, distinct_snaps, volume_distinct, distinct_volume}
use Rattle.fv_faults.proofs.ReadBases.{base_from, base_to}
use Rattle.fv_faults.proofs.FirstSlots.{lies_at, entries_of, IsWellRead, well_read, read_well}

-- ---- lines of all slots in use

module _ (y : Layout) (lines : ℕ → Lying → List Fault) where
  slots_say : in_slots y lines ≡ [] → (s : ℕ) (x : Lying) → s < 64 → y.label s ≡ Some x → lines s x ≡ []
  slots_say none s x low lies = sym (ap (λ (o : Option Lying). option_map_or (lines s) o []) lies) ∙ none_of_each (λ s. option_map_or (lines s) (y.label s) []) slots none s (slot_there s low)

  silent_slots : ((s : ℕ) (x : Lying) → s < 64 → y.label s ≡ Some x → lines s x ≡ []) → in_slots y lines ≡ []
  silent_slots each = each_none (λ s. option_map_or (lines s) (y.label s) []) slots (λ s there. so s (slot_below s there) (y.label s) refl)
    where
      so : (s : ℕ) → s < 64 → (o : Option Lying) → y.label s ≡ o → option_map_or (lines s) (y.label s) [] ≡ []
      so s low None is = ap (λ (o : Option Lying). option_map_or (lines s) o []) is
      so s low (Some x) is = ap (λ (o : Option Lying). option_map_or (lines s) o []) is ∙ each s x low is

module _ (t : Taken) (i : Image) (long : (b : ℕ) → length (i b) ≡ 4096) (some_blocks : 0 < (view_at t i).blocks) (root : ℕ) where
  abbrev y : Layout
  y = layout_at t i

  abbrev w : View
  w = view_at t i

  heads : HasHeads y
  heads = image_has_heads t i

  -- what soundness asks of labels, containers, bases and names
  pub record IsFirst : Type 0 where
    pub labels : (s : ℕ) (x : Lying) → y.label s ≡ Some x → (l : Label) × (label_at x.block ≡ Ok l)
    pub places : (s : ℕ) (x : Lying) → y.label s ≡ Some x → is_place y x.place ≡ true
    pub slots : (s : ℕ) (l : Label) (there : label_in (label_lying t i s) ≡ Some l) → IsWellRead t i long some_blocks s l there
    pub bases : has_bases (seen w) ≡ true
    pub names : has_distinct_names y ≡ true
    pub snapshots : has_distinct_snapshots (seen w) ≡ true

  -- ---- a label of its shape

  pub read_as : (s : ℕ) (x : Lying) (l : Label) → y.label s ≡ Some x → label_at x.block ≡ Ok l → label_in (label_lying t i s) ≡ Some l
  unfolding label_in layout_at
  read_as s x l lies reads = ap label_in lies ∙ ap shaped reads

  pub head_is : (s : ℕ) (l : Label) → label_in (label_lying t i s) ≡ Some l → w.head s ≡ Some (head_of l)
  head_is s l there = head_told t i s ∙ ap (option_map head_of) there

  -- the label of a head
  pub record HasLabel (s : ℕ) (h : Head) : Type 0 where
    pub lying : Lying
    pub lies : y.label s ≡ Some lying
    pub label : Label
    pub reads : label_at lying.block ≡ Ok label
    pub head : head_of label ≡ h

  pub labelled : (s : ℕ) (h : Head) → w.head s ≡ Some h → HasLabel s h
  unfolding label_in layout_at
  labelled s h head = so (label_lying t i s) refl (sym (head_told t i s) ∙ head)
    where
      shape : (x : Lying) → label_lying t i s ≡ Some x → (r : Result Label Shape) → label_at x.block ≡ r → option_map head_of (shaped r) ≡ Some h → HasLabel s h
      shape x lies (Err fault) reads e = absurd cc
      shape x lies (Ok l) reads e = let same : head_of l ≡ h = cc in record { lying = x; lies = lies; label = l; reads = reads; head = same }

      so : (o : Option Lying) → label_lying t i s ≡ o → option_map head_of (label_in o) ≡ Some h → HasLabel s h
      so None lies e = absurd cc
      so (Some x) lies e = shape x lies (label_at x.block) refl e

  -- and the block of a label that is read
  pub in_slot : (s : ℕ) (l : Label) → label_in (label_lying t i s) ≡ Some l → (x : Lying) × ((y.label s ≡ Some x) × (label_at x.block ≡ Ok l))
  unfolding label_in layout_at
  in_slot s l there = so (label_lying t i s) refl there
    where
      shape : (x : Lying) → label_lying t i s ≡ Some x → (r : Result Label Shape) → label_at x.block ≡ r → shaped r ≡ Some l → (x : Lying) × ((y.label s ≡ Some x) × (label_at x.block ≡ Ok l))
      shape x lies (Err fault) reads e = absurd cc
      shape x lies (Ok m) reads e = let same : m ≡ l = cc in (x, (lies, reads ∙ ap Ok same))

      so : (o : Option Lying) → label_lying t i s ≡ o → label_in o ≡ Some l → (x : Lying) × ((y.label s ≡ Some x) × (label_at x.block ≡ Ok l))
      so None lies e = absurd cc
      so (Some x) lies e = shape x lies (label_at x.block) refl e

  -- ---- what is said of one label

  abbrev IsSilent : ℕ → ℕ → Label → Type 0
  IsSilent s at l = (base_lines y s at (head_of l) ≡ []) × ((label_numbers w.blocks at l ≡ []) × ((volume_names y s at ≡ []) × ((snap_names at [] (head_of l).snapshots ≡ []) × (node_below y s l l.height 0 ≡ []))))

  silent_from : (s at : ℕ) (l : Label) → read_lines y s at (Ok l) ≡ [] → IsSilent s at l
  unfolding label_stops layout_at
  silent_from s at l none =
      let a = parts_nil (base_lines y s at (head_of l)) _ none in
      let b = both_passes (label_stops y s at l) (node_below y s l l.height 0) a.1 in
      let c = parts_nil (label_numbers w.blocks at l) _ b.0 in
      let d = parts_nil (volume_names y s at) _ c.1 in
      (a.0, (c.0, (d.0, (d.1, b.1))))

  silent_to : (s at : ℕ) (l : Label) → IsSilent s at l → read_lines y s at (Ok l) ≡ []
  unfolding label_stops layout_at
  silent_to s at l is =
      nil_parts (base_lines y s at (head_of l)) _ is.0
      (no_pass (label_stops y s at l) (node_below y s l l.height 0)
      (nil_parts (label_numbers w.blocks at l) _ is.1.0 (nil_parts (volume_names y s at) _ is.1.1.0 is.1.1.1.0)) is.1.1.1.1)

  -- ---- from the pass

  module _ (none : first_pass root y ≡ []) where
    parts : (root_lines root y ≡ []) × (in_slots y (λ s x. read_lines y s x.place (label_at x.block)) ≡ [])
    unfolding first_pass
    parts = both_passes (root_lines root y) (in_slots y (λ s x. read_lines y s x.place (label_at x.block))) none

    said : (s : ℕ) (x : Lying) → y.label s ≡ Some x → read_lines y s x.place (label_at x.block) ≡ []
    said s x lies = slots_say y (λ s x. read_lines y s x.place (label_at x.block)) parts.1 s x (lies_at t i long some_blocks s x lies).low lies

    label_there : (s : ℕ) (x : Lying) → y.label s ≡ Some x → (l : Label) × (label_at x.block ≡ Ok l)
    label_there s x lies = so (label_at x.block) refl (said s x lies)
      where
        so : (r : Result Label Shape) → label_at x.block ≡ r → read_lines y s x.place r ≡ [] → (l : Label) × (label_at x.block ≡ Ok l)
        so (Ok l) is none = (l, is)
        so (Err shape) is none = absurd cc

    silent : (s : ℕ) (x : Lying) (l : Label) → y.label s ≡ Some x → label_at x.block ≡ Ok l → IsSilent s x.place l
    silent s x l lies reads = silent_from s x.place l (sym (ap (read_lines y s x.place) reads) ∙ said s x lies)

    place_there : (s : ℕ) (x : Lying) → y.label s ≡ Some x → is_place y x.place ≡ true
    unfolding root_lines layout_at
    place_there s x lies =
        let l = label_there s x lies in
        place_from w l.0 (entries_of t i long some_blocks s l.0 (read_as s x l.0 lies l.1)).some some_blocks root x.place
        (slots_say y (λ s x. leads w.blocks root x.place) parts.0 s x (lies_at t i long some_blocks s x lies).low lies)

    -- of each volume what its label says
    of_head : (s : ℕ) (h : Head) → w.head s ≡ Some h → (at : ℕ) × ((base_lines y s at h ≡ []) × ((volume_names y s at ≡ []) × (snap_names at [] h.snapshots ≡ [])))
    of_head s h head =
        let has = labelled s h head in
        let is = silent s has.lying has.label has.lies has.reads in
        (has.lying.place, (subst (λ (g : Head). base_lines y s has.lying.place g ≡ []) has.head is.0, (is.1.1.0, subst (λ (g : Head). snap_names has.lying.place [] g.snapshots ≡ []) has.head is.1.1.1.0)))

    parents : (p : ℕ) (x : Lying) → y.label p ≡ Some x → (p < 64) × ((g : Head) × (w.head p ≡ Some g))
    parents p x lies =
        let l = label_there p x lies in
        ((lies_at t i long some_blocks p x lies).low, (head_of l.0, head_is p l.0 (read_as p x l.0 lies l.1)))

    bases_there : has_bases (seen w) ≡ true
    unfolding has_bases layout_at volume_seen
    bases_there = test_volumes w (λ s x. comes_to_end (seen w) 64 s && option_map_or (has_footing (seen w) x) x.head.base true) (λ s h low head.
        let of = of_head s h head in base_from y heads s h low head of.0 parents of.1.0)

    names_there : has_distinct_names y ≡ true
    unfolding has_distinct_names layout_at
    names_there = to_all (λ s. list_all (λ earlier. not (share_name (w.head earlier) (w.head s))) (range_with_len 0 s)) slots (λ s there. so s (w.head s) refl)
      where
        unnamed : (o : Option Head) → not (share_name o None) ≡ true
        unnamed None = refl
        unnamed (Some h) = refl

        so : (s : ℕ) (o : Option Head) → w.head s ≡ o → list_all (λ earlier. not (share_name (w.head earlier) (w.head s))) (range_with_len 0 s) ≡ true
        so s None is = to_all (λ earlier. not (share_name (w.head earlier) (w.head s))) (range_with_len 0 s) (λ k there. ap (λ (o : Option Head). not (share_name (w.head k) o)) is ∙ unnamed (w.head k))
        so s (Some h) is = let of = of_head s h is in volume_distinct y s of.0 of.1.1.0

    snapshots_there : has_distinct_snapshots (seen w) ≡ true
    unfolding has_distinct_snapshots volume_seen
    snapshots_there = test_volumes w (λ s x. are_distinct (map (λ p. p.name) x.head.snapshots)) (λ s h low head.
        let of = of_head s h head in snaps_distinct of.0 h.snapshots of.1.1.1)

    pub first_true : IsFirst
    first_true = record {
      labels = label_there;
      places = place_there;
      slots = λ s l there.
          let at = in_slot s l there in
          let is = silent s at.0 l at.1.0 at.1.1 in
          well_read t i long some_blocks s l there at.0.place is.1.0 is.1.1.1.1;
      bases = bases_there;
      names = names_there;
      snapshots = snapshots_there;
    }

  -- ---- and the other way round

  pub no_first : IsFirst → first_pass root y ≡ []
  unfolding first_pass root_lines has_bases has_distinct_names has_distinct_snapshots layout_at volume_seen
  no_first is = no_pass (in_slots y (λ s x. leads w.blocks root x.place)) (in_slots y (λ s x. read_lines y s x.place (label_at x.block)))
      (silent_slots y (λ s x. leads w.blocks root x.place) (λ s x low lies.
      let l = is.labels s x lies in
      place_to w l.0 (entries_of t i long some_blocks s l.0 (read_as s x l.0 lies l.1)).some some_blocks root x.place (is.places s x lies)))
      (silent_slots y (λ s x. read_lines y s x.place (label_at x.block)) (λ s x low lies.
      let l = is.labels s x lies in
      let there = read_as s x l.0 lies l.1 in
      let head = head_is s l.0 there in
      let two = read_well t i long some_blocks s l.0 there x.place (is.slots s l.0 there) in
      ap (read_lines y s x.place) l.1 ∙ silent_to s x.place l.0 (
        base_to y heads s (head_of l.0) low head x.place (volume_test w (λ s x. comes_to_end (seen w) 64 s && option_map_or (has_footing (seen w) x) x.head.base true) is.bases s (head_of l.0) low head),
        (
          two.0,
          (
            distinct_volume y s x.place (from_all (λ s. list_all (λ earlier. not (share_name (w.head earlier) (w.head s))) (range_with_len 0 s)) slots is.names s (slot_there s low)),
            (distinct_snaps x.place (head_of l.0).snapshots (volume_test w (λ s x. are_distinct (map (λ p. p.name) x.head.snapshots)) is.snapshots s (head_of l.0) low head), two.1),
          ),
        ),
      )))
