-- Pass 1, slot by slot: what it says of a label and of its container, against what makes a slot sound.
use Rattle.std.proofs.Common.{◌≡◌, ◌≢◌, ℕ, zero, suc, ◌-◌, ◌<◌, ◌≤◌, Bool, true, false, List, [], length, refl, sym, ap, subst, ◌∙◌, arith, ⊎_elim, inl, inr, map, Result, Ok, Err, ◌⊎◌}
use Rattle.std.specs.Prelude.{Option, Some, None, ◌==◌, get_or, nat_lt, if◌then◌else◌}
use Rattle.std.proofs.lemmas.Bool.Decides.{nat_tests}
use Rattle.fv_disk.specs.Shown.{Image}
use Rattle.fv_codec.specs.declared.shape.Shape.{Shape}
use Rattle.fv_codec.specs.declared.label.Label.{Label}
use Rattle.fv_codec.specs.Blocks.{label_at, IsLabel}
use Rattle.fv_codec.proofs.Decoded.{label_in_range}
use Rattle.fv_laws.proofs.Lists.{In, from_map, from_flat_map}
use Rattle.std.specs.List.{range_with_len}
use Rattle.fv_model.specs.Space.{map_blocks}
use Rattle.fv_laws.proofs.Tests.{from_all}
use Rattle.fv_image.specs.Containers.{shaped, level_width, node_of, node_below as tree_below, node_verdict, has_none_past}
use Rattle.fv_image.specs.NewerRoot.{Taken}
use Rattle.fv_image.specs.Views.{Placed, Rooted, View, head_of, entry_count, kind_at, map_kind, map_vvbn}
use Rattle.fv_image.specs.Held.{Lying, Layout, lying_at, label_in, label_lying, label_place, node_from, entry_from, placed, layout_at, view_at}
use Rattle.fv_image.specs.BlockRules.{is_place}
use Rattle.fv_image.specs.Seen.{roots_of, own_blocks}
use Rattle.fv_image.specs.Whole.{is_held_by}
use Rattle.fv_image.specs.Reclaimed.{IsNodeOf, IsEntryPlace, entry_at}
use Rattle.fv_image.specs.SoundSlots.{has_maps_there, IsSoundVolume}
use Rattle.fv_image.proofs.HeldPlaces.{held_is_block, block_is_held, node_lies}
use Rattle.fv_faults.specs.FirstPass.{label_numbers, node_below}
use Rattle.fv_faults.proofs.LabelFacts.{HasEntries, label_entries}
use Rattle.fv_faults.proofs.ReadNodes.{quiet_from, quiet_to}
use Rattle.fv_faults.proofs.ReadChildren.{is_place as is_room, never_zero}
use Rattle.fv_faults.proofs.ReadTrees.{IsReadTree, read_from, read_to}
use Rattle.fv_faults.proofs.ReadLabels.{HasNumbers, fits, numbers_from, numbers_to}

module _ (t : Taken) (i : Image) (long : (b : ℕ) → length (i b) ≡ 4096) (some_blocks : 0 < (view_at t i).blocks) where
  abbrev pub y : Layout
  y = layout_at t i

  abbrev w : View
  w = view_at t i

  -- ---- where a label lies

  pub record LiesAt (s : ℕ) (x : Lying) : Type 0 where
    pub low : s < 64
    pub place : x.place ≡ label_place t s
    pub some : label_place t s ≢ 0
    pub block : x.block ≡ i x.place

  lying_is : (p : ℕ) (x : Lying) → lying_at i p ≡ Some x → (p ≢ 0) × ((x.place ≡ p) × (x.block ≡ i x.place))
  lying_is zero x e = absurd cc
  lying_is (suc p) x e =
      let same : ◌≡◌ {A = Lying} (record { place = suc p; block = i (suc p) }) x = cc in
      ((λ none. omega (arith, none)), (sym (ap (λ (z : Lying). z.place) same), sym (ap (λ (z : Lying). z.block) same) ∙ ap i (ap (λ (z : Lying). z.place) same)))

  pub lies_at : (s : ℕ) (x : Lying) → y.label s ≡ Some x → LiesAt s x
  unfolding layout_at label_place
  lies_at s x lies =
      let at = lying_is (label_place t s) x lies in
      record { low = so (nat_lt s 64) refl at.0; place = at.1.0; some = at.0; block = at.1.1 }
    where
      so : (b : Bool) → nat_lt s 64 ≡ b → (if b then get_or t.root.labels s 0 else 0) ≢ 0 → s < 64
      so true e some = grind (arith, nat_tests, e)
      so false e some = absurd (some refl)

  -- ---- what a label of its shape has

  pub label_is : (s : ℕ) (l : Label) → label_in (label_lying t i s) ≡ Some l → IsLabel l
  unfolding label_in
  label_is s l there = at (label_place t s) there
    where
      shape : (block : List ℕ) → length block ≡ 4096 → (r : Result Label Shape) → label_at block ≡ r → shaped r ≡ Some l → IsLabel l
      shape block size (Err fault) is e = absurd cc
      shape block size (Ok m) is e = let same : m ≡ l = cc in subst IsLabel same (label_in_range block (Ok m) size (sym is))

      at : (p : ℕ) → label_in (lying_at i p) ≡ Some l → IsLabel l
      at zero e = absurd cc
      at (suc p) e = shape (i (suc p)) (long (suc p)) (label_at (i (suc p))) refl e

  pub entries_of : (s : ℕ) (l : Label) → label_in (label_lying t i s) ≡ Some l → HasEntries l
  unfolding label_in
  entries_of s l there = at (label_place t s) there
    where
      shape : (block : List ℕ) → length block ≡ 4096 → (r : Result Label Shape) → label_at block ≡ r → shaped r ≡ Some l → HasEntries l
      shape block size (Err fault) is e = absurd cc
      shape block size (Ok m) is e = let same : m ≡ l = cc in subst HasEntries same (label_entries block m size is)

      at : (p : ℕ) → label_in (lying_at i p) ≡ Some l → HasEntries l
      at zero e = absurd cc
      at (suc p) e = shape (i (suc p)) (long (suc p)) (label_at (i (suc p))) refl e

  pub span_of : (s : ℕ) (l : Label) → label_in (label_lying t i s) ≡ Some l → 0 < l.span
  span_of s l there = let least = (label_is s l there).span_least in omega (arith, least)

  module _ (s : ℕ) (l : Label) (there : label_in (label_lying t i s) ≡ Some l) where
    -- what soundness asks of a label's numbers and of its container
    pub record IsWellRead : Type 0 where
      pub numbers : HasNumbers w l (span_of s l there) (entries_of s l there).some some_blocks
      pub tree : IsReadTree t i s l there numbers.height (entries_of s l there).some (entries_of s l there).few some_blocks

    -- The pass finds nothing in them exactly where they have that.
    pub well_read : (at : ℕ) → label_numbers w.blocks at l ≡ [] → node_below y s l l.height 0 ≡ [] → IsWellRead
    well_read at none below =
        let numbers = numbers_from w l (span_of s l there) (entries_of s l there).some some_blocks at none in
        record {
          numbers = numbers;
          tree = read_from t i s l there numbers.height (entries_of s l there).some (entries_of s l there).few some_blocks numbers.container (quiet_from t i s l there below);
        }

    pub read_well : (at : ℕ) → IsWellRead → (label_numbers w.blocks at l ≡ []) × (node_below y s l l.height 0 ≡ [])
    read_well at is = (
      numbers_to w l (span_of s l there) (entries_of s l there).some some_blocks at is.numbers,
      quiet_to t i s l there (read_to t i s l there is.numbers.height (entries_of s l there).some (entries_of s l there).few some_blocks is.tree ((entries_of s l there).own w.version)) l.height 0,
    )

    -- ---- and a slot is sound

    abbrev node : ℕ → ℕ → ℕ
    node level number = node_of i l.container l.height level number

    -- a node that isn't absent is the block at its place
    node_at : (level number : ℕ) (x : Lying) → level ≤ l.height → number < level_width (entry_count l.span) level → y.node s level number ≡ Some x → (node level number ≢ 0) × (x.block ≡ i (node level number))
    unfolding layout_at
    node_at level number x low within is =
        let at = lying_is (node level number) x (sym (node_lies i l level number low within) ∙ sym (ap (λ (o : Option Label). node_from o i level number) there) ∙ is) in
        (at.0, at.1.1 ∙ ap i at.1.0)

    at_node : (level number : ℕ) → level ≤ l.height → number < level_width (entry_count l.span) level → node level number ≢ 0 → y.node s level number ≡ Some (record { place = node level number; block = i (node level number) })
    unfolding layout_at
    at_node level number low within some = ap (λ (o : Option Label). node_from o i level number) there ∙ node_lies i l level number low within ∙ so (node level number) some
      where
        so : (p : ℕ) → p ≢ 0 → lying_at i p ≡ Some (record { place = p; block = i p })
        so zero some = absurd (some refl)
        so (suc p) some = refl

    pub sound_volume : IsWellRead → has_maps_there w s (head_of l) ≡ true → IsSoundVolume y s l
    unfolding layout_at
    sound_volume is maps = record {
      root = λ none. never_zero w l (entries_of s l there).some some_blocks (subst (λ (p : ℕ). is_room w l (entries_of s l there).some some_blocks p ≡ true) none is.numbers.container);
      height = is.numbers.height;
      nodes = λ level number x low within lies. let at = node_at level number x low within lies in subst (λ (b : List ℕ). node_verdict level number b ≡ Ok tt) (sym at.1) (is.tree.verdicts level number low within at.0);
      ends = λ level number x low within lies. let at = node_at level number x low within lies in subst (λ (b : List ℕ). has_none_past (entry_count l.span) level number b ≡ true) (sym at.1) (is.tree.ends level number low within at.0);
      maps = maps;
    }

    pub places_sound : IsWellRead → is_place y (label_place t s) ≡ true → (b : ℕ) → is_held_by y s b ≡ true → is_place y b ≡ true
    unfolding layout_at
    places_sound is label b held = ⊎_elim
        (λ (one : b ≡ label_place t s). subst (λ (p : ℕ). is_place y p ≡ true) (sym one) label)
        (λ (rest : IsNodeOf i l b ⊎ IsEntryPlace i l b). ⊎_elim
        (λ (one : IsNodeOf i l b). subst (λ (p : ℕ). is_place y p ≡ true) (sym one.place) (is.tree.nodes one.level one.number one.below one.within (λ none. one.some (one.place ∙ none))))
        (λ (one : IsEntryPlace i l b). subst (λ (p : ℕ). is_place y p ≡ true) (sym one.place) (is.tree.held one.vvbn one.within one.kind))
        rest)
        (held_is_block t i s l there b held)

    -- ---- and the other way round

    entry_is : (v : ℕ) → w.entry s v ≡ placed i (entry_at i l v)
    unfolding view_at entry_from
    entry_is v = ap (λ (o : Option Label). entry_from o i v) there

    kind_some : (e : ℕ × ℕ) → (kind_at (placed i e) == map_kind) ≡ true → e.1 ≢ 0
    kind_some e is none = absurd (so (e.1 == 0) (let test : (e.1 == 0) ≡ true = grind (arith, nat_tests, none) in test) is)
      where
        so : (b : Bool) → b ≡ true → (kind_at (if b then None else Some (record { pvbn = e.0; kind = e.1; block = i e.0 })) == map_kind) ≡ true → ⊥
        so true t is = cc
        so false t is = cc

    own_kind : (b : ℕ × ℕ) → In b (own_blocks w.version (head_of l)) → b.1 ≡ map_kind
    own_kind b one =
        let root = from_flat_map (λ (r : ℕ × Rooted). map (λ k. (map_vvbn (head_of l).span r.0 k, map_kind)) (range_with_len 0 (map_blocks (head_of l).span))) b (roots_of (head_of l)) one in
        let block = from_map (λ k. (map_vvbn (head_of l).span root.0.0 k, map_kind)) b (range_with_len 0 (map_blocks (head_of l).span)) root.2 in
        ap (λ (c : ℕ × ℕ). c.1) (sym block.2)

    top_is : node l.height 0 ≡ l.container
    unfolding tree_below
    top_is = let none : l.height - l.height ≡ 0 = omega arith in ap (λ n. tree_below i l.container n 0) none

    pub well_from_sound : IsSoundVolume y s l → ((b : ℕ) → is_held_by y s b ≡ true → is_place y b ≡ true)
        → ((r : ℕ × Rooted) → In r (roots_of (head_of l)) → fits w.blocks l.span (span_of s l there) some_blocks 0 r.1.root ≡ true) → IsWellRead
    unfolding layout_at
    well_from_sound is places roots = record { numbers = numbers; tree = tree }
      where
        room : (b : ℕ) → (IsNodeOf i l b ⊎ IsEntryPlace i l b) → is_room w l (entries_of s l there).some some_blocks b ≡ true
        room b one = places b (block_is_held t i s l there b (inr one))

        wide : (h : ℕ) → 1 ≤ h → 0 < level_width (entry_count l.span) h
        wide zero low = absurd (omega (arith, low))
        wide (suc h) low = omega arith

        numbers : HasNumbers w l (span_of s l there) (entries_of s l there).some some_blocks
        numbers = record {
          container = room l.container (inl (record {
            level = l.height;
            number = 0;
            below = omega arith;
            within = wide l.height (label_is s l there).height_least;
            place = sym top_is;
            some = is.root;
          }));
          height = is.height;
          roots = roots;
        }

        tree : IsReadTree t i s l there is.height (entries_of s l there).some (entries_of s l there).few some_blocks
        tree = record {
          verdicts = λ level number low within some. is.nodes level number (record { place = node level number; block = i (node level number) }) low within (at_node level number low within some);
          ends = λ level number low within some. is.ends level number (record { place = node level number; block = i (node level number) }) low within (at_node level number low within some);
          nodes = λ level number low within some. room (node level number) (inl (record { level = level; number = number; below = low; within = within; place = refl; some = some }));
          held = λ v low kind. room (entry_at i l v).0 (inr (record { vvbn = v; within = low; kind = kind; place = refl }));
          wanted_there = λ v low one.
              let from = from_map (λ (b : ℕ × ℕ). b.0) v (own_blocks w.version (head_of l)) one in
              let kind = own_kind from.0 from.1 in
              let test = from_all (λ (b : ℕ × ℕ). kind_at (w.entry s b.0) == b.1) (own_blocks w.version (head_of l)) is.maps from.0 from.1 in
              kind_some (entry_at i l v) (sym (ap (λ (o : Option Placed). kind_at o == map_kind) (entry_is v)) ∙ sym (ap (λ (n : ℕ). kind_at (w.entry s n) == map_kind) from.2) ∙ sym (ap (λ (n : ℕ). kind_at (w.entry s from.0.0) == n) kind) ∙ test);
        }
