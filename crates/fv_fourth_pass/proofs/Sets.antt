-- Where the first three passes found nothing, what the second told of roots gives the sets that the fourth pass counts by.
use Rattle.std.proofs.Common.{◌≡◌, ◌≢◌, ℕ, ◌-◌, ◌<◌, ◌≤◌, Bool, true, false, List, [], ◌∷◌, drop, map, length, get_or, inl, inr, refl, sym, ap, subst, ◌∙◌, arith, Ok}
use Rattle.std.specs.Prelude.{Option, Some, None, IfSome, not, ◌&&◌, ◌||◌, ◌==◌, ◌/◌, ◌%◌, nat_lt, if◌then◌else◌}
use Rattle.std.specs.List.{list_all, list_any}
use Rattle.std.specs.Option.{is_none, is_some, option_map_or}
use Rattle.std.proofs.lemmas.Bool.Decides.{nat_tests}
use Rattle.std.proofs.lemmas.List.Folds.{list_any-append}
use Rattle.fv_disk.specs.Shown.{Image}
use Rattle.fv_bits.specs.Members.{is_member}
use Rattle.fv_codec.specs.declared.label.Label.{Label}
use Rattle.fv_laws.proofs.Lists.{In}
use Rattle.fv_tables.specs.Reached.{Item, items, is_listed}
use Rattle.fv_image.specs.NewerRoot.{Taken}
use Rattle.fv_image.specs.Views.{Footing, Head, Placed, Rooted, Snap, View, head_of, is_held_in, map_slot, used_slots, volume_bit}
use Rattle.fv_image.specs.Held.{layout_at}
use Rattle.fv_image.specs.Seen.{roots_of}
use Rattle.fv_image.specs.Volumes.{standing_of}
use Rattle.fv_image.specs.Staying.{base_items, items_of, own_items}
use Rattle.fv_image.specs.Charged.{out_items}
use Rattle.fv_image.specs.ReachRules.{has_maps_of_reach, is_reach}
use Rattle.fv_image.proofs.CountedCharge.{held_is_listed}
use Rattle.fv_image.proofs.Hints.{place_is}
use Rattle.fv_image.proofs.WellLabels.{entries_whole}
use Rattle.fv_faults.specs.Met.{IsClean}
use Rattle.fv_faults.specs.SecondPass.{ground}
use Rattle.fv_faults.specs.ThirdPass.{third_pass}
use Rattle.fv_faults.specs.Walks.{Ground, Step, steps}
use Rattle.fv_faults.proofs.EachVolume.{view_test}
use Rattle.fv_faults.proofs.FromLines.{low_label}
use Rattle.fv_faults.proofs.Later as later
use Rattle.fv_first_pass.specs.declared.first.Known.{Known}
use Rattle.fv_first_pass.specs.Passed.{spelled}
use Rattle.fv_second_pass.specs.declared.reached.Reached as sets
use Rattle.fv_second_pass.proofs.Listed.{reached_is}
use Rattle.fv_third_pass.specs.Counted.{words_of}
use Rattle.fv_third_pass.specs.declared.roots.MapRoot.{MapRoot}
use Rattle.fv_third_pass.specs.Volumes.{IsReachIn, IsWalked, base_set, reach_at, root_of}
use Rattle.fv_third_pass.proofs.WalkedFacts as facts
use Rattle.fv_third_pass.proofs.VolumeParts as parts
use Rattle.fv_fourth_pass.specs.Based.{IsOver, has_entry}
use Rattle.fv_fourth_pass.specs.Filled.{HasFilled}
use Rattle.fv_fourth_pass.specs.Needed.{HasShared, kept_items}
use Rattle.fv_fourth_pass.specs.Placed.{IsBased}
use Rattle.fv_fourth_pass.specs.Silent.{AreSetsOf, AreWide, FitsIn, any_of, any_reached}
use Rattle.fv_fourth_pass.specs.Used.{HasSets, is_out}
use Rattle.fv_fourth_pass.proofs.Once.{any_spread}

-- the bits of a root tell what its table reaches
told : (g : Ground) (label : ℕ) (r : Rooted) (span : ℕ) (o : Option (List Bool)) → IsClean (steps g label r) → IsReachIn span (steps g label r) o
    → (v : ℕ) → is_out o v ≡ is_listed (items (standing_of g.view g.slot r)) v
told g label r span None clean is v = absurd is
told g label r span (Some reach) clean is v = is.1.each v ∙ reached_is g label r clean v

any_each : {X : Type 0} (p q : X → Bool) (xs : List X) → ((x : X) → In x xs → p x ≡ q x) → list_any p xs ≡ list_any q xs
any_each p q [] same = refl
any_each p q (x ∷ xs) same = λ i. same x (inl refl) i || any_each p q xs (λ y there. same y (inr there)) i

spelled_there : (i : Image) (word : ℕ) → is_some (spelled i word) ≡ not (word / 16777216 == 0)
spelled_there i word = so (record { pvbn = word % 16777216; kind = word / 16777216; block = i (word % 16777216) }) (word / 16777216 == 0)
  where
    so : (x : Placed) (b : Bool) → is_some (if b then None else Some x) ≡ not b
    so x true = refl
    so x false = refl

never_out : (x : Bool) → (not x && false) ≡ false
never_out true = refl
never_out false = refl

-- roots behind the first
rest_of : (roots : List MapRoot) (r : ℕ × Rooted) (rs : List (ℕ × Rooted)) → map root_of roots ≡ r ∷ rs → map root_of (drop 1 roots) ≡ rs
rest_of [] r rs is = absurd cc
rest_of (q ∷ qs) r rs is = ap (λ (xs : List (ℕ × Rooted)). drop 1 xs) is

module _ (t : Taken) (i : Image) (long : (b : ℕ) → length (i b) ≡ 4096) (size : 1 ≤ t.blocks) (known : Known) (reached : sets.Reached) (walked : IsWalked t i known reached)
    (s : ℕ) (low : s < 64) (l : Label) (label : get_or known.labels.items s None ≡ Some (Ok l)) where
  abbrev w : View
  w = (layout_at t i).view

  abbrev h : Head
  h = head_of l

  abbrev at : ℕ
  at = get_or t.root.labels s 0

  abbrev row : List ℕ
  row = words_of (get_or known.rows.items s None)

  -- what some of its roots reach
  listed : (rs : List (ℕ × Rooted)) → ((r : ℕ × Rooted) → In r rs → In r (roots_of h)) → (v : ℕ) → any_of reached s rs v ≡ is_listed (items_of w s rs) v
  listed rs among v =
      any_each (λ (r : ℕ × Rooted). is_out (reach_at reached s r.0) v) (λ (r : ℕ × Rooted). is_listed (items (standing_of w s r.1)) v) rs
      (λ r there. told (ground w s h) at r.1 l.span (reach_at reached s r.0)
      (facts.own_clean t i long size known reached walked s low l label r (among r there)) (facts.reach_in t i long size known reached walked s low l label r (among r there)) v)
      ∙ sym (any_spread (λ (e : Item). e.pointer.vvbn == v) (λ (r : ℕ × Rooted). items (standing_of w s r.1)) rs)

  pub own_listed : (v : ℕ) → any_reached reached s l v ≡ is_listed (own_items w s h) v
  own_listed v = listed (roots_of h) (λ r there. there) v

  -- ---- the base

  abbrev p : ℕ
  p = l.parent - 1

  abbrev foot : Footing
  foot = record { parent = p; slot = l.base_slot; splitting = l.splitting == 1 }

  no_set : l.parent ≡ 0 → base_set reached.volumes.items l ≡ None
  no_set none = let test : (l.parent == 0) ≡ true = grind (arith, nat_tests, none) in ap (λ (b : Bool). if b then None else reach_at reached p l.base_slot) test

  module _ (some : l.parent ≢ 0) where
    set_is : base_set reached.volumes.items l ≡ reach_at reached p l.base_slot
    set_is = let test : (l.parent == 0) ≡ false = grind (arith, nat_tests, some) in ap (λ (b : Bool). if b then None else reach_at reached p l.base_slot) test

    items_are : base_items w (Some foot) ≡ items (standing_of w p (parts.table t i long size known reached walked s low l label some))
    items_are = ap (λ (o : Option Rooted). option_map_or (λ r. items (standing_of w p r)) o []) (parts.root_is t i long size known reached walked s low l label some)

    some_listed : (v : ℕ) → is_out (base_set reached.volumes.items l) v ≡ is_listed (base_items w (Some foot)) v
    some_listed v =
        let parent = parts.parent t i long size known reached walked s low l label some in
        let table = parts.table t i long size known reached walked s low l label some in
        ap (λ (o : Option (List Bool)). is_out o v) set_is
        ∙ told (ground w p (head_of parent)) (get_or t.root.labels p 0) table parent.span (reach_at reached p l.base_slot)
        (parts.base_clean t i long size known reached walked s low l label some)
        (facts.reach_in t i long size known reached walked p (parts.parent_low t i long size known reached walked s low l label some) parent
        (parts.parent_read t i long size known reached walked s low l label some) (l.base_slot, table) (parts.root_there t i long size known reached walked s low l label some)) v
        ∙ sym (ap (λ (es : List Item). is_listed es v) items_are)

  pub base_listed : (v : ℕ) → is_out (base_set reached.volumes.items l) v ≡ is_listed (base_items w h.base) v
  base_listed v = so (l.parent == 0) refl
    where
      so : (b : Bool) → (l.parent == 0) ≡ b → is_out (base_set reached.volumes.items l) v ≡ is_listed (base_items w h.base) v
      so true e =
          let none : l.parent ≡ 0 = grind (arith, nat_tests, e) in
          ap (λ (o : Option (List Bool)). is_out o v) (no_set none) ∙ sym (ap (λ (o : Option Footing). is_listed (base_items w o) v) (facts.base_none t i long size known reached walked s low l label none))
      so false e =
          let some : l.parent ≢ 0 = grind (arith, nat_tests, e) in
          some_listed some v ∙ sym (ap (λ (o : Option Footing). is_listed (base_items w o) v) (facts.base_some t i long size known reached walked s low l label some))

  pub out_listed : (v : ℕ) → (not (l.splitting == 1) && is_out (base_set reached.volumes.items l) v) ≡ is_listed (out_items w h.base) v
  out_listed v = so (l.parent == 0) refl
    where
      split : (x : Bool) (es : List Item) → (not x && is_listed es v) ≡ is_listed (if x then [] else es) v
      split true es = refl
      split false es = refl

      so : (b : Bool) → (l.parent == 0) ≡ b → (not (l.splitting == 1) && is_out (base_set reached.volumes.items l) v) ≡ is_listed (out_items w h.base) v
      so true e =
          let none : l.parent ≡ 0 = grind (arith, nat_tests, e) in
          ap (λ (o : Option (List Bool)). not (l.splitting == 1) && is_out o v) (no_set none) ∙ never_out (l.splitting == 1)
          ∙ sym (ap (λ (o : Option Footing). is_listed (out_items w o) v) (facts.base_none t i long size known reached walked s low l label none))
      so false e =
          let some : l.parent ≢ 0 = grind (arith, nat_tests, e) in
          ap (λ b. not (l.splitting == 1) && b) (some_listed some v)
          ∙ split (l.splitting == 1) (base_items w (Some foot))
          ∙ sym (ap (λ (o : Option Footing). is_listed (out_items w o) v) (facts.base_some t i long size known reached walked s low l label some))

  base_known : (l.parent == 0) ≡ is_none h.base
  base_known = so (l.parent == 0) refl
    where
      so : (b : Bool) → (l.parent == 0) ≡ b → b ≡ is_none h.base
      so true e = let none : l.parent ≡ 0 = grind (arith, nat_tests, e) in sym (ap (λ (o : Option Footing). is_none o) (facts.base_none t i long size known reached walked s low l label none))
      so false e = let some : l.parent ≢ 0 = grind (arith, nat_tests, e) in sym (ap (λ (o : Option Footing). is_none o) (facts.base_some t i long size known reached walked s low l label some))

  -- ---- their lengths

  -- what the second pass told of a root has a bit for each VVBN of its volume
  wide : (span : ℕ) (ss : List Step) (o : Option (List Bool)) → IsReachIn span ss o → IfSome o (λ set. length set ≡ span)
  wide span ss None is = absurd is
  wide span ss (Some set) is = is.0

  narrow_set : (span most : ℕ) → span ≤ most → (o : Option (List Bool)) → IfSome o (λ set. length set ≡ span) → FitsIn most o
  narrow_set span most low None has = tt
  narrow_set span most low (Some set) has = let e : length set ≡ span = has in omega (arith, e, low)

  pub roots_wide : AreWide reached s l.span (roots_of h)
  roots_wide r there = wide l.span (steps (ground w s h) at r.1) (reach_at reached s r.0) (facts.reach_in t i long size known reached walked s low l label r there)

  pub base_fits : FitsIn l.span (base_set reached.volumes.items l)
  unfolding head_of
  base_fits = so (l.parent == 0) refl
    where
      so : (b : Bool) → (l.parent == 0) ≡ b → FitsIn l.span (base_set reached.volumes.items l)
      so true e = let none : l.parent ≡ 0 = grind (arith, nat_tests, e) in subst (FitsIn l.span) (sym (no_set none)) tt
      so false e =
          let some : l.parent ≢ 0 = grind (arith, nat_tests, e) in
          let parent = parts.parent t i long size known reached walked s low l label some in
          let table = parts.table t i long size known reached walked s low l label some in
          subst (FitsIn l.span) (sym (set_is some))
          (narrow_set parent.span l.span (parts.narrow t i long size known reached walked s low l label some) (reach_at reached p l.base_slot)
          (wide parent.span (steps (ground w p (head_of parent)) (get_or t.root.labels p 0) table) (reach_at reached p l.base_slot)
          (facts.reach_in t i long size known reached walked p (parts.parent_low t i long size known reached walked s low l label some) parent
          (parts.parent_read t i long size known reached walked s low l label some) (l.base_slot, table) (parts.root_there t i long size known reached walked s low l label some))))

  -- its snapshots as roots
  abbrev snaps : List (ℕ × Rooted)
  snaps = map (λ (p : Snap). (p.slot, p.table)) h.snapshots

  pub rest_wide : (roots : List MapRoot) → map root_of roots ≡ roots_of h → AreWide reached s l.span (map root_of (drop 1 roots))
  rest_wide roots mine r there = roots_wide r (inr (subst (λ (rs : List (ℕ × Rooted)). In r rs) (rest_of roots (0, h.active) snaps mine) there))

  -- ---- its entries

  pub entries_told : (v : ℕ) → is_some (w.entry s v) ≡ has_entry row v
  entries_told v = ap (λ o. is_some o) ((parts.has_words t i long size known reached walked s low l label).entries v) ∙ spelled_there i (get_or row v 0)

  -- ---- what the third pass tells

  module _ (third : third_pass (layout_at t i) ≡ []) where
    looked : later.IsThird (layout_at t i) (facts.is t i long size known reached walked) (low_label t i long (facts.some_blocks t i long size known reached walked)) (facts.clean t i long size known reached walked)
        (facts.two t i long size known reached walked).ranges (facts.bases t i long size known reached walked)
    looked = later.third_true (layout_at t i) (facts.is t i long size known reached walked) (low_label t i long (facts.some_blocks t i long size known reached walked)) (facts.clean t i long size known reached walked)
        (facts.two t i long size known reached walked).ranges (facts.bases t i long size known reached walked) third

    mapped : list_all (is_reach w s h) (roots_of h) ≡ true
    unfolding has_maps_of_reach
    mapped = view_test w (λ s h. list_all (is_reach w s h) (roots_of h)) looked.reach s h low (facts.head t i long size known reached walked s low l label)

    -- a VVBN is held exactly where roots reach it
    held_listed : (v : ℕ) → v < h.span → is_held_in w s h v ≡ is_listed (own_items w s h) v
    unfolding is_held_in
    held_listed v below =
        let test : nat_lt v h.span ≡ true = grind (arith, nat_tests, below) in
        ap (λ (b : Bool). if b then list_any (λ slot. volume_bit w s h.span slot v) (used_slots h) else list_any (λ slot. slot == map_slot h.span v) (used_slots h)) test
        ∙ held_is_listed w s h mapped v (omega (arith, below))

  -- ---- the sets

  module _ (held : List Bool) (base out : Option (List Bool)) (are : AreSetsOf reached s l held base out) where
    pub over : IsOver w s h held base row
    over = record {
      reached = λ v below. are.reaches v ∙ own_listed v;
      based = λ v below. are.based v ∙ base_listed v;
      known = are.known ∙ base_known;
      entries = λ v below. entries_told v;
    }

    pub is_based : IsBased w s h base row
    is_based = record { based = λ v. are.based v ∙ base_listed v; entries = λ v there. entries_told v }

    pub has_sets : third_pass (layout_at t i) ≡ [] → HasSets w s h held out
    unfolding layout_at
    has_sets third = record {
      low = low;
      head = facts.head t i long size known reached walked s low l label;
      numbers = (facts.is t i long size known reached walked).numbers s h (facts.head t i long size known reached walked s low l label);
      parents = λ b g base there. (facts.is t i long size known reached walked).numbers b.parent g there;
      names = (facts.one t i long size known reached walked).snapshots;
      ids = (looked third).ids;
      ranges = (facts.two t i long size known reached walked).ranges;
      reached = λ v below. are.reaches v ∙ own_listed v;
      based = λ v below. are.left v ∙ out_listed v;
    }

    pub has_filled : third_pass (layout_at t i) ≡ [] → HasFilled w s h held row
    has_filled third = record { reached = λ v below. are.reaches v ∙ own_listed v ∙ sym (held_listed third v below); entries = λ v. entries_told v }

    -- what its snapshots or its base reach
    pub has_shared : third_pass (layout_at t i) ≡ [] → (roots : List MapRoot) → map root_of roots ≡ roots_of h → (shared : List Bool)
        → ((v : ℕ) → is_member shared v ≡ (any_of reached s (map root_of (drop 1 roots)) v || is_out base v)) → HasShared w s h shared
    unfolding layout_at
    has_shared third roots mine shared has = record {
      low = low;
      head = facts.head t i long size known reached walked s low l label;
      numbers = (facts.is t i long size known reached walked).numbers s h (facts.head t i long size known reached walked s low l label);
      parents = λ b g base there. (facts.is t i long size known reached walked).numbers b.parent g there;
      names = (facts.one t i long size known reached walked).snapshots;
      ids = (looked third).ids;
      ranges = (facts.two t i long size known reached walked).ranges;
      whole = λ v x found. let entry = place_is w s v x found in entries_whole t i long entry.0 v x entry.1;
      reached = λ v below.
          has v
          ∙ (λ n. kept v n || (are.based v ∙ base_listed v) n)
          ∙ sym (list_any-append (λ (e : Item). e.pointer.vvbn == v) (kept_items w s h) (base_items w h.base));
    }
      where
        kept : (v : ℕ) → any_of reached s (map root_of (drop 1 roots)) v ≡ is_listed (kept_items w s h) v
        kept v = ap (λ (rs : List (ℕ × Rooted)). any_of reached s rs v) (rest_of roots (0, h.active) snaps mine) ∙ listed snaps (λ r there. inr there) v
