-- Pass 1 on a label: names and numbers, against what soundness asks of them.
use Rattle.std.proofs.Common.{◌≡◌, ◌≢◌, ℕ, ◌<◌, ◌≤◌, Bool, true, false, not, List, [], ◌∷◌, ◌++◌, map, inl, inr, refl, ap, subst, ◌∙◌, arith, ⊎_elim}
use Rattle.std.specs.Prelude.{Option, Some, None, find, flat_map, ◌&&◌, ◌||◌, ◌==◌, nat_le, if◌then◌else◌}
use Rattle.std.specs.List.{list_all, list_any, range_with_len}
use Rattle.std.specs.Option.{option_map_or}
use Rattle.std.proofs.lemmas.Bool.{and_parts, and_from, or_left, or_right, cases_eq}
use Rattle.std.proofs.lemmas.Bool.Decides.{nat_tests}
use Rattle.fv_codec.specs.declared.pointer.Pointer.{Pointer}
use Rattle.fv_codec.specs.declared.label.Label.{Label}
use Rattle.fv_laws.proofs.Lists.{In, in_left, in_right, in_either, from_map, in_map}
use Rattle.fv_laws.proofs.Tests.{from_all, to_all, none_of, to_none}
use Rattle.fv_model.specs.Spelling.{is_same_name}
use Rattle.fv_image.specs.Containers.{height_of}
use Rattle.fv_image.specs.Views.{Rooted, Snap, View, head_of, entry_count}
use Rattle.fv_image.specs.Held.{Layout}
use Rattle.fv_image.specs.Seen.{roots_of}
use Rattle.fv_image.specs.ReachRules.{are_distinct}
use Rattle.fv_image.specs.VolumeRules.{share_name}
use Rattle.fv_faults.specs.Lines.{line, within, leads}
use Rattle.fv_faults.specs.Walks.{pointer_lines}
use Rattle.fv_faults.specs.FirstPass.{volume_names, snap_names, label_numbers}
use Rattle.fv_faults.proofs.Clean.{parts_nil, nil_parts, none_of_each, each_none}
use Rattle.fv_faults.proofs.InRange.{says_within, within_says, is_pointer, from_lines, to_lines}
use Rattle.fv_faults.proofs.ReadChildren.{is_place, place_from, place_to}

-- ---- what a look in a list finds

module _ {X : Type 0} (p : X → Bool) where
  pub finds_none : (xs : List X) → find p xs ≡ None → (x : X) → In x xs → p x ≡ false
  finds_none [] none x there = absurd there
  finds_none (y ∷ ys) none x there = so (λ none later. finds_none ys none x later) (p y) refl none there
    where
      so : (find p ys ≡ None → In x ys → p x ≡ false) → (b : Bool) → p y ≡ b → (if b then Some y else find p ys) ≡ None → In x (y ∷ ys) → p x ≡ false
      so rest true is none there = absurd cc
      so rest false is none (inl same) = subst (λ z. p z ≡ false) same is
      so rest false is none (inr later) = rest none later

  pub none_finds : (xs : List X) → ((x : X) → In x xs → p x ≡ false) → find p xs ≡ None
  none_finds [] each = refl
  none_finds (y ∷ ys) each = ap (λ (b : Bool). if b then Some y else find p ys) (each y (inl refl)) ∙ none_finds ys (λ x there. each x (inr there))

  pub found_none : {Y : Type 0} (f : X → Y) (xs : List X) → option_map_or (λ x. f x ∷ []) (find p xs) [] ≡ [] → find p xs ≡ None
  found_none f xs none = so (find p xs) none
    where
      so : (o : Option X) → option_map_or (λ x. f x ∷ []) o [] ≡ [] → o ≡ None
      so None none = refl
      so (Some x) none = absurd cc

-- ---- names of snapshots

abbrev snap_name : Snap → List ℕ
snap_name p = p.name

abbrev AreApart : List Snap → List Snap → Type 0
AreApart before ps = (q p : Snap) → In q before → In p ps → is_same_name q.name p.name ≡ false

apart_from : (at : ℕ) (before ps : List Snap) → snap_names at before ps ≡ [] → AreApart before ps × (are_distinct (map snap_name ps) ≡ true)
unfolding snap_names
apart_from at before [] none = ((λ q p one other. absurd other), refl)
apart_from at before (p ∷ ps) none =
    let parts = parts_nil (option_map_or (λ first. line 4 at first.slot p.slot ∷ []) (find (λ q. is_same_name q.name p.name) before) []) _ none in
    let here = found_none (λ (q : Snap). is_same_name q.name p.name) (λ first. line 4 at first.slot p.slot) before parts.0 in
    let rest = apart_from at (before ++ (p ∷ [])) ps parts.1 in (
      (λ q r one other. ⊎_elim
          (λ (is : p ≡ r). subst (λ (r : Snap). is_same_name q.name r.name ≡ false) is (finds_none (λ (q : Snap). is_same_name q.name p.name) before here q one))
          (λ later. rest.0 q r (in_left q before (p ∷ []) one) later)
          other),
      and_from (not (list_any (is_same_name p.name) (map snap_name ps))) _
          (ap not (to_none (is_same_name p.name) (map snap_name ps) (λ n there.
          let from = from_map snap_name n ps there in
          subst (λ n. is_same_name p.name n ≡ false) from.2 (rest.0 p from.0 (in_right p before (p ∷ []) (inl refl)) from.1))))
          rest.1,
    )

pub snaps_distinct : (at : ℕ) (ps : List Snap) → snap_names at [] ps ≡ [] → are_distinct (map snap_name ps) ≡ true
snaps_distinct at ps none = (apart_from at [] ps none).1

apart_to : (at : ℕ) (before ps : List Snap) → AreApart before ps → are_distinct (map snap_name ps) ≡ true → snap_names at before ps ≡ []
unfolding snap_names
apart_to at before [] apart all = refl
apart_to at before (p ∷ ps) apart all =
    let parts = and_parts (not (list_any (is_same_name p.name) (map snap_name ps))) _ all in
    nil_parts (option_map_or (λ first. line 4 at first.slot p.slot ∷ []) (find (λ q. is_same_name q.name p.name) before) []) _
    (ap (λ (o : Option Snap). option_map_or (λ first. line 4 at first.slot p.slot ∷ []) o []) (none_finds (λ (q : Snap). is_same_name q.name p.name) before (λ q one. apart q p one (inl refl))))
    (apart_to at (before ++ (p ∷ [])) ps (λ q r one other. ⊎_elim
    (λ old. apart q r old (inr other))
    (λ new. ⊎_elim
    (λ (is : p ≡ q). subst (λ (q : Snap). is_same_name q.name r.name ≡ false) is (none_of (is_same_name p.name) (map snap_name ps) (no (list_any (is_same_name p.name) (map snap_name ps)) parts.0) r.name (in_map snap_name r ps other)))
    (λ none. absurd none)
    new)
    (in_either q before (p ∷ []) one)) parts.1)
  where
    no : (b : Bool) → not b ≡ true → b ≡ false
    no true e = absurd cc
    no false e = refl

pub distinct_snaps : (at : ℕ) (ps : List Snap) → are_distinct (map snap_name ps) ≡ true → snap_names at [] ps ≡ []
distinct_snaps at ps all = apart_to at [] ps (λ q p one other. absurd one) all

-- ---- names of volumes

module _ (y : Layout) (s at : ℕ) where
  abbrev shares : ℕ → Bool
  shares earlier = share_name (y.view.head earlier) (y.view.head s)

  pub volume_distinct : volume_names y s at ≡ [] → list_all (λ earlier. not (shares earlier)) (range_with_len 0 s) ≡ true
  unfolding volume_names
  volume_distinct none =
      let nowhere = found_none shares (λ first. line 4 at first s) (range_with_len 0 s) none in
      to_all (λ earlier. not (shares earlier)) (range_with_len 0 s) (λ k there. ap not (finds_none shares (range_with_len 0 s) nowhere k there))

  pub distinct_volume : list_all (λ earlier. not (shares earlier)) (range_with_len 0 s) ≡ true → volume_names y s at ≡ []
  unfolding volume_names
  distinct_volume all = ap (λ (o : Option ℕ). option_map_or (λ first. line 4 at first s ∷ []) o []) (none_finds shares (range_with_len 0 s) (λ k there. no (shares k) (from_all (λ earlier. not (shares earlier)) (range_with_len 0 s) all k there)))
    where
      no : (b : Bool) → not b ≡ true → b ≡ false
      no true e = absurd cc
      no false e = refl

-- ---- numbers

module _ (blocks span : ℕ) (some_span : 0 < span) (some_blocks : 0 < blocks) (at : ℕ) where
  -- a pointer in range, or a hole
  abbrev pub fits : Pointer → Bool
  fits p = (p.stamp == 0) || is_pointer blocks span some_span some_blocks p

  pointer_from : (p : Pointer) → pointer_lines blocks span at p ≡ [] → fits p ≡ true
  pointer_from p none = ⊎_elim
      (λ (hole : p.stamp ≡ 0). or_left (p.stamp == 0) _ (let test : (p.stamp == 0) ≡ true = grind (arith, nat_tests, hole) in test))
      (λ (some : p.stamp ≢ 0). or_right (p.stamp == 0) _ (from_lines blocks span some_span some_blocks at p some none))
      (cases_eq p.stamp 0)

  pointer_to : (p : Pointer) → fits p ≡ true → pointer_lines blocks span at p ≡ []
  pointer_to p is = to_lines blocks span some_span some_blocks at p (λ some. so (p.stamp == 0) refl is some)
    where
      so : (b : Bool) → (p.stamp == 0) ≡ b → (b || is_pointer blocks span some_span some_blocks p) ≡ true → p.stamp ≢ 0 → is_pointer blocks span some_span some_blocks p ≡ true
      so true e is some = absurd (let hole : p.stamp ≡ 0 = grind (arith, nat_tests, e) in some hole)
      so false e is some = is

module _ (w : View) (l : Label) (some_span : 0 < l.span) (some_entries : 0 < entry_count l.span) (some_blocks : 0 < w.blocks) where
  -- what soundness asks of the numbers in a label
  pub record HasNumbers : Type 0 where
    pub container : is_place w l some_entries some_blocks l.container ≡ true
    pub height : l.height ≡ height_of (entry_count l.span)
    pub roots : (r : ℕ × Rooted) → In r (roots_of (head_of l)) → fits w.blocks l.span some_span some_blocks 0 r.1.root ≡ true

  same_height : (h x : ℕ) → (nat_le h x && nat_le x h) ≡ true → x ≡ h
  same_height h x is =
      let both = and_parts (nat_le h x) _ is in
      let low : h ≤ x = (let test = both.0 in grind (arith, nat_tests, test)) in
      let high : x ≤ h = (let test = both.1 in grind (arith, nat_tests, test)) in
      omega (arith, low, high)

  height_same : (h x : ℕ) → x ≡ h → (nat_le h x && nat_le x h) ≡ true
  height_same h x is =
      let low : nat_le h x ≡ true = grind (arith, nat_tests, is) in
      let high : nat_le x h ≡ true = grind (arith, nat_tests, is) in
      and_from (nat_le h x) _ low high

  root_fits : (at : ℕ) → pointer_lines w.blocks l.span at l.root ≡ [] → flat_map (λ (p : Snap). pointer_lines w.blocks l.span at p.table.root) (head_of l).snapshots ≡ []
      → (r : ℕ × Rooted) → In r (roots_of (head_of l)) → fits w.blocks l.span some_span some_blocks 0 r.1.root ≡ true
  unfolding head_of
  root_fits at none more r (inl is) = subst (λ (q : ℕ × Rooted). fits w.blocks l.span some_span some_blocks 0 q.1.root ≡ true) is (pointer_from w.blocks l.span some_span some_blocks at l.root none)
  root_fits at none more r (inr there) =
      let one = from_map (λ (p : Snap). (p.slot, p.table)) r (head_of l).snapshots there in
      subst (λ (q : ℕ × Rooted). fits w.blocks l.span some_span some_blocks 0 q.1.root ≡ true) one.2
      (pointer_from w.blocks l.span some_span some_blocks at one.0.table.root (none_of_each (λ (p : Snap). pointer_lines w.blocks l.span at p.table.root) (head_of l).snapshots more one.0 one.1))

  active_to : (at : ℕ) → HasNumbers → pointer_lines w.blocks l.span at l.root ≡ []
  unfolding head_of
  active_to at is = pointer_to w.blocks l.span some_span some_blocks at l.root (is.roots (0, (head_of l).active) (inl refl))

  pub numbers_from : (at : ℕ) → label_numbers w.blocks at l ≡ [] → HasNumbers
  unfolding label_numbers
  numbers_from at none =
      let a = parts_nil (leads w.blocks at l.container) _ none in
      let b = parts_nil (within at (height_of (entry_count l.span)) (height_of (entry_count l.span)) l.height) _ a.1 in
      let c = parts_nil (pointer_lines w.blocks l.span at l.root) _ b.1 in
      record {
        container = place_from w l some_entries some_blocks at l.container a.0;
        height = same_height (height_of (entry_count l.span)) l.height (says_within at (height_of (entry_count l.span)) (height_of (entry_count l.span)) l.height b.0);
        roots = λ r there. root_fits at c.0 c.1 r there;
      }

  pub numbers_to : (at : ℕ) → HasNumbers → label_numbers w.blocks at l ≡ []
  unfolding label_numbers
  numbers_to at is =
      nil_parts (leads w.blocks at l.container) _ (place_to w l some_entries some_blocks at l.container is.container)
      (nil_parts (within at (height_of (entry_count l.span)) (height_of (entry_count l.span)) l.height) _
      (within_says at (height_of (entry_count l.span)) (height_of (entry_count l.span)) l.height (height_same (height_of (entry_count l.span)) l.height is.height))
      (nil_parts (pointer_lines w.blocks l.span at l.root) _ (active_to at is)
      (each_none (λ (p : Snap). pointer_lines w.blocks l.span at p.table.root) (head_of l).snapshots (λ p there.
      pointer_to w.blocks l.span some_span some_blocks at p.table.root (is.roots (p.slot, p.table) (inr (in_map (λ (p : Snap). (p.slot, p.table)) p (head_of l).snapshots there)))))))
