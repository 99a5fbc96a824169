-- Pass 2 as a whole: it finds nothing exactly where soundness' tests of what it looks at hold.
use Rattle.std.proofs.Common.{◌≡◌, ℕ, ◌<◌, ◌≤◌, Bool, true, not, List, [], ◌∷◌, ◌++◌, map, inl, inr, refl, sym, ap, subst, ◌∙◌}
use Rattle.std.specs.Prelude.{Option, Some, flat_map, ◌&&◌, ◌||◌, ◌==◌, nat_lt}
use Rattle.std.specs.Option.{is_some}
use Rattle.fv_faults.proofs.Names.{name_of}
use Rattle.std.specs.List.{list_all}
use Rattle.std.proofs.lemmas.List.Concat.{flat_map-append}
use Rattle.fv_laws.proofs.Lists.{In, from_map}
use Rattle.fv_image.specs.Views.{Rooted, Snap, Head, View}
use Rattle.fv_image.specs.Held.{Lying, Layout}
use Rattle.fv_image.specs.Seen.{roots_of, root_seen, volume_seen, seen}
use Rattle.fv_image.specs.BlockRules.{is_fine}
use Rattle.fv_image.specs.ReachRules.{is_same_position, has_reached_shapes, has_pointers_in_range, has_reached_positions, has_distinct_files, reaches_once, shape_for, block_is, is_of_position, is_hint, are_distinct}
use Rattle.fv_image.proofs.Counted.{HasHeads}
use Rattle.fv_image.proofs.OwnUses.{HasLabelNumbers}
use Rattle.fv_image.proofs.CountedCharge.{snap_few}
use Rattle.fv_faults.specs.declared.fault.Fault.{Fault}
use Rattle.fv_faults.specs.Walks.{Step, steps, root_item}
use Rattle.fv_faults.specs.SecondPass.{in_volumes, ground, root_steps, second_pass}
use Rattle.fv_faults.proofs.Clean.{nil_parts, none_of_each}
use Rattle.fv_faults.proofs.Plain.{IsClean}
use Rattle.fv_faults.proofs.InRange.{is_ranged}
use Rattle.fv_faults.proofs.Quiet.{IsWalked, walk_is_clean}
use Rattle.fv_faults.proofs.Walked.{is_walked}
use Rattle.fv_faults.proofs.EachVolume.{volumes_say, silent_volumes, root_test, test_roots}

-- ---- the steps of several roots

module _ (w : View) (s label : ℕ) (h : Head) where
  abbrev of : List (ℕ × Rooted) → List Step
  of rs = flat_map (λ (r : ℕ × Rooted). steps (ground w s h) label r.1) rs

  pub roots_clean : (rs : List (ℕ × Rooted)) → IsClean (of rs) → (r : ℕ × Rooted) → In r rs → IsClean (steps (ground w s h) label r.1)
  roots_clean rs clean = none_of_each (λ (r : ℕ × Rooted). flat_map (λ (st : Step). st.lines) (steps (ground w s h) label r.1)) rs (sym (joined rs) ∙ clean)
    where
      joined : (rs : List (ℕ × Rooted)) → flat_map (λ (st : Step). st.lines) (of rs) ≡ flat_map (λ (r : ℕ × Rooted). flat_map (λ (st : Step). st.lines) (steps (ground w s h) label r.1)) rs
      joined [] = refl
      joined (r ∷ rs) = flat_map-append (λ (st : Step). st.lines) (steps (ground w s h) label r.1) (of rs) ∙ ap (λ fs. flat_map (λ (st : Step). st.lines) (steps (ground w s h) label r.1) ++ fs) (joined rs)

  pub clean_roots : (rs : List (ℕ × Rooted)) → ((r : ℕ × Rooted) → In r rs → IsClean (steps (ground w s h) label r.1)) → IsClean (of rs)
  clean_roots [] each = refl
  clean_roots (r ∷ rs) each =
      flat_map-append (λ (st : Step). st.lines) (steps (ground w s h) label r.1) (of rs)
      ∙ nil_parts (flat_map (λ (st : Step). st.lines) (steps (ground w s h) label r.1)) _ (each r (inl refl)) (clean_roots rs (λ q there. each q (inr there)))

-- the levels of each root of a label are few
pub few_levels : (w : View) (h : Head) → HasLabelNumbers h → (r : ℕ × Rooted) → In r (roots_of h) → r.1.levels ≤ 2
few_levels w h numbers r (inl is) = subst (λ (q : ℕ × Rooted). q.1.levels ≤ 2) is numbers.active
few_levels w h numbers r (inr there) =
    let one = from_map (λ (p : Snap). (p.slot, p.table)) r h.snapshots there in
    subst (λ (q : ℕ × Rooted). q.1.levels ≤ 2) one.2 (snap_few w h numbers one.0 one.1)

-- what an image gives, whatever it is: heads are what labels say, and labels have their numbers
pub record IsRead (y : Layout) : Type 0 where
  pub heads : HasHeads y
  pub numbers : (s : ℕ) (h : Head) → y.view.head s ≡ Some h → HasLabelNumbers h
  pub blocks : 0 < y.view.blocks

module _ (y : Layout) (is : IsRead y) where
  abbrev w : View
  w = y.view

  -- the pointer of a root is in range, or a hole
  abbrev pub in_range_at : (s : ℕ) (h : Head) → y.view.head s ≡ Some h → Rooted → Bool
  in_range_at s h head r = is_ranged w.blocks h.span (is.numbers s h head).span is.blocks (ground w s h) (root_item r)

  -- what pass 1 says of pointers in labels
  pub record HasRoots : Type 0 where
    pub ranges : (s : ℕ) (h : Head) → s < 64 → (head : y.view.head s ≡ Some h) → (r : ℕ × Rooted) → In r (roots_of h) → in_range_at s h head r.1 ≡ true

  -- what pass 2 looks at
  pub record AreWalked : Type 0 where
    pub shapes : has_reached_shapes (seen w) ≡ true
    pub ranges : has_pointers_in_range (seen w) ≡ true
    pub positions : has_reached_positions (seen w) ≡ true
    pub files : has_distinct_files (seen w) ≡ true
    pub once : reaches_once (seen w) ≡ true

  -- the walks of all roots find nothing
  abbrev pub AllClean : Type 0
  AllClean = (s : ℕ) (x : Lying) (h : Head) → s < 64 → y.label s ≡ Some x → w.head s ≡ Some h → (r : ℕ × Rooted) → In r (roots_of h) → IsClean (steps (ground w s h) x.place r.1)

  pub clean_from : second_pass y ≡ [] → AllClean
  unfolding second_pass
  clean_from none s x h low label head r there =
      let lines : ℕ → ℕ → Head → List Fault = λ s label h. flat_map (λ (st : Step). st.lines) (root_steps w s label h) in
      let has = volumes_say y lines is.heads none s h low head in
      roots_clean w s x.place h (roots_of h) (subst (λ (z : Lying). lines s z.place h ≡ []) (same has.lying (sym has.label ∙ label)) has.none) r there
    where
      same : (z : Lying) → ◌≡◌ {A = Option Lying} (Some z) (Some x) → z ≡ x
      same z e = cc

  pub from_clean : AllClean → second_pass y ≡ []
  unfolding second_pass
  from_clean clean = silent_volumes y (λ s label h. flat_map (λ (st : Step). st.lines) (root_steps w s label h)) (λ s x h low label head. clean_roots w s x.place h (roots_of h) (clean s x h low label head))

  -- ---- both ways

  walked_at : AllClean → HasRoots → (s : ℕ) (h : Head) → s < 64 → (head : w.head s ≡ Some h) → (r : ℕ × Rooted) → In r (roots_of h) → IsWalked (ground w s h) (is.numbers s h head).span is.blocks r.1
  walked_at clean roots s h low head r there =
      let has = volumes_say y (λ s label h. []) is.heads quiet s h low head in
      is_walked (ground w s h) (is.numbers s h head).span is.blocks r.1 has.lying.place (clean s has.lying h low has.label head r there) (roots.ranges s h low head r there)
    where
      quiet : in_volumes y (λ s label h. []) ≡ []
      quiet = silent_volumes y (λ s label h. []) (λ s x h low label head. refl)

  -- Where pass 2 finds nothing and the pointers in labels are in range, soundness' tests hold of what it looks at.
  pub second_true : HasRoots → second_pass y ≡ [] → AreWalked
  unfolding has_reached_shapes has_pointers_in_range has_reached_positions has_distinct_files reaches_once root_seen volume_seen seen
  second_true roots none =
      let walked = walked_at (clean_from none) roots in
      record {
        shapes = test_roots w (λ x r. list_all (λ e. block_is (λ block. is_fine (shape_for e.item block)) e.at) r.reached) (λ s h low head r there. (walked s h low head r there).shapes);
        ranges = test_roots w (λ x r. list_all (λ e. nat_lt e.item.pointer.vvbn x.head.span && is_hint w.blocks e.item.pointer.pvbn) r.reached) (λ s h low head r there. (walked s h low head r there).ranges);
        positions = test_roots w (λ x r. list_all (λ e. block_is (is_of_position e.item) e.at) r.reached) (λ s h low head r there. (walked s h low head r there).positions);
        files = test_roots w (λ x r. are_distinct (map name_of r.files)) (λ s h low head r there. (walked s h low head r there).names);
        once = test_roots w (λ x r. list_all (λ a. is_some a.at && list_all (λ b. not (a.item.pointer.vvbn == b.item.pointer.vvbn) || is_same_position a.item b.item) r.reached) r.reached) (λ s h low head r there. (walked s h low head r there).once);
      }

  -- And where they hold, pass 2 finds nothing.
  pub no_second : AreWalked → second_pass y ≡ []
  unfolding has_reached_shapes has_pointers_in_range has_reached_positions has_distinct_files reaches_once root_seen volume_seen seen
  no_second are = from_clean (λ s x h low label head r there.
      walk_is_clean (ground w s h) (is.numbers s h head).span is.blocks r.1 x.place (few_levels w h (is.numbers s h head) r there) (record {
        shapes = root_test w (λ x r. list_all (λ e. block_is (λ block. is_fine (shape_for e.item block)) e.at) r.reached) are.shapes s h low head r there;
        positions = root_test w (λ x r. list_all (λ e. block_is (is_of_position e.item) e.at) r.reached) are.positions s h low head r there;
        ranges = root_test w (λ x r. list_all (λ e. nat_lt e.item.pointer.vvbn x.head.span && is_hint w.blocks e.item.pointer.pvbn) r.reached) are.ranges s h low head r there;
        once = root_test w (λ x r. list_all (λ a. is_some a.at && list_all (λ b. not (a.item.pointer.vvbn == b.item.pointer.vvbn) || is_same_position a.item b.item) r.reached) r.reached) are.once s h low head r there;
        names = root_test w (λ x r. are_distinct (map name_of r.files)) are.files s h low head r there;
      }))
