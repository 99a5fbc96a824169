-- The steps of all roots of a volume and of its base table have the pointers that soundness looks at. Rule 10, ids and stamps.
use Rattle.std.proofs.Common.{◌≡◌, ℕ, Bool, true, false, List, [], ◌∷◌, ◌++◌, map, inl, inr, refl, sym, ap, ◌∙◌}
use Rattle.std.specs.Prelude.{Option, Some, None, find, flat_map, ◌&&◌, ◌==◌, nat_le, if◌then◌else◌}
use Rattle.std.specs.List.{list_all}
use Rattle.std.specs.Option.{option_map, option_map_or, option_and_then}
use Rattle.std.proofs.lemmas.List.Folds.{list_all-append, list_all-map}
use Rattle.fv_laws.proofs.Lists.{In}
use Rattle.fv_laws.proofs.Tests.{iff}
use Rattle.fv_tables.specs.Reached.{Item, items}
use Rattle.fv_image.specs.Views.{Rooted, Snap, Footing, Head, View}
use Rattle.fv_image.specs.Held.{Layout}
use Rattle.fv_image.specs.Volumes.{standing_of, snap_at}
use Rattle.fv_image.specs.Seen.{Reached, Root, Based, reached_at, root_seen, roots_of, base_root, based_at, based_on, base_seen, volume_seen}
use Rattle.fv_image.specs.BlockRules.{agree}
use Rattle.fv_image.specs.TableRules.{all_items, has_same_id}
use Rattle.fv_faults.specs.Walks.{Step, Ground, step, steps}
use Rattle.fv_faults.specs.SecondPass.{ground, root_steps}
use Rattle.fv_faults.specs.ThirdPass.{place_or, steps_on, base_steps, one_to_one_lines, stamp_lines}
use Rattle.fv_faults.proofs.Clean.{all_from, clean_from}
use Rattle.fv_faults.proofs.Plain.{Spot, met, run, IsClean, steps_are}
use Rattle.fv_faults.proofs.Members.{all_met}
use Rattle.fv_faults.proofs.TableMembers.{reached_from, reached_to}
use Rattle.fv_faults.proofs.Twins.{are_one_to_one, one_to_one_from, no_one_to_one_lines}
use Rattle.fv_faults.proofs.Third.{in_says, in_silent}

-- ---- one root

-- a test of the pointers of steps
abbrev of_item : (Item → Bool) → Step → Bool
of_item test st = test st.item

module _ (g : Ground) (test : Item → Bool) where
  run_test : (done : List Step) (ps : List Spot) → list_all (of_item test) (run g done ps) ≡ (list_all (of_item test) done && all_met test ps)
  unfolding run step
  run_test done [] = last (list_all (of_item test) done)
    where
      last : (b : Bool) → b ≡ (b && true)
      last true = refl
      last false = refl
  run_test done (p ∷ ps) =
      run_test (done ++ (step g done p.0 p.1 ∷ [])) ps
      ∙ ap (λ (b : Bool). b && all_met test ps) (list_all-append (of_item test) done (step g done p.0 p.1 ∷ []))
      ∙ so (list_all (of_item test) done) (test p.0) (all_met test ps)
    where
      so : (a b c : Bool) → ((a && (b && true)) && c) ≡ (a && (b && c))
      so true true c = refl
      so true false c = refl
      so false b c = refl

  pub steps_test : (label : ℕ) (r : Rooted) → IsClean (steps g label r) → list_all (of_item test) (steps g label r) ≡ list_all test (items (standing_of g.view g.slot r))
  steps_test label r clean =
      ap (list_all (of_item test)) (steps_are g label r clean) ∙ run_test [] (met g label r)
      ∙ iff (all_met test (met g label r)) (list_all test (items (standing_of g.view g.slot r))) (reached_from test g r label) (reached_to test g r label)

-- ---- the snapshot that a volume stands on is one of the roots of its parent

pub in_found : {X : Type 0} (p : X → Bool) (xs : List X) (x : X) → find p xs ≡ Some x → In x xs
in_found p [] x e = absurd cc
in_found p (y ∷ ys) x e = so (p y) (λ later. in_found p ys x later) e
  where
    so : (b : Bool) → (find p ys ≡ Some x → In x ys) → (if b then Some y else find p ys) ≡ Some x → In x (y ∷ ys)
    so true rest e = let same : y ≡ x = cc in inl same
    so false rest e = inr (rest e)

-- ---- one volume

module _ (y : Layout) (s label : ℕ) (h : Head)
    (clean : (r : ℕ × Rooted) → In r (roots_of h) → IsClean (steps (ground y.view s h) label r.1))
    (base_clean : (b : Footing) (g : Head) (r : Rooted) → h.base ≡ Some b → y.view.head b.parent ≡ Some g → base_root y.view b ≡ Some r → IsClean (steps_on y b g r)) where
  abbrev w : View
  w = y.view

  abbrev all : List Step
  all = root_steps w s label h ++ base_steps y h.base

  abbrev seen_items : List Item
  seen_items = all_items (volume_seen w s h)

  roots_test : (test : Item → Bool) (rs : List (ℕ × Rooted)) → ((r : ℕ × Rooted) → In r rs → IsClean (steps (ground w s h) label r.1))
      → list_all (of_item test) (flat_map (λ (r : ℕ × Rooted). steps (ground w s h) label r.1) rs) ≡ list_all test (flat_map (λ (r : Root). map (λ (e : Reached). e.item) r.reached) (map (λ (r : ℕ × Rooted). root_seen w s r.0 r.1) rs))
  unfolding root_seen
  roots_test test [] each = refl
  roots_test test (r ∷ rs) each =
      list_all-append (of_item test) (steps (ground w s h) label r.1) _
      ∙ (λ i. steps_test (ground w s h) test label r.1 (each r (inl refl)) i && roots_test test rs (λ q there. each q (inr there)) i)
      ∙ sym (list_all-append test (map (λ (e : Reached). e.item) (map (reached_at w s) (items (standing_of w s r.1)))) _
      ∙ ap (λ (b : Bool). b && list_all test (flat_map (λ (r : Root). map (λ (e : Reached). e.item) r.reached) (map (λ (r : ℕ × Rooted). root_seen w s r.0 r.1) rs)))
      (list_all-map test (λ (e : Reached). e.item) (map (reached_at w s) (items (standing_of w s r.1))) ∙ list_all-map (λ (e : Reached). test e.item) (reached_at w s) (items (standing_of w s r.1))))

  base_test : (test : Item → Bool) → list_all (of_item test) (base_steps y h.base) ≡ list_all test (map (λ (b : Based). b.item) (base_seen w s h.base))
  unfolding base_steps base_seen
  base_test test = so h.base refl
    where
      on : (b : Footing) (g : Head) (r : Rooted) → IsClean (steps_on y b g r) → list_all (of_item test) (steps_on y b g r) ≡ list_all test (map (λ (b : Based). b.item) (based_on w s b r))
      on b g r clean = steps_test (ground w b.parent g) test (place_or (y.label b.parent)) r clean
          ∙ sym (list_all-map test (λ (e : Based). e.item) (map (based_at w s b.splitting) (items (standing_of w b.parent r))) ∙ list_all-map (λ (e : Based). test e.item) (based_at w s b.splitting) (items (standing_of w b.parent r)))

      by_root : (b : Footing) → h.base ≡ Some b → (g : Head) → w.head b.parent ≡ Some g → (o : Option Rooted) → base_root w b ≡ o
          → list_all (of_item test) (option_map_or (steps_on y b g) o []) ≡ list_all test (map (λ (b : Based). b.item) (option_map_or (based_on w s b) o []))
      by_root b is g head None root = refl
      by_root b is g head (Some r) root = on b g r (base_clean b g r is head root)

      no_head : (b : Footing) → w.head b.parent ≡ None → list_all test (map (λ (b : Based). b.item) (option_map_or (based_on w s b) (base_root w b) [])) ≡ true
      no_head b none = ap (λ (o : Option Rooted). list_all test (map (λ (b : Based). b.item) (option_map_or (based_on w s b) o []))) (ap (option_and_then (λ (g : Head). option_map (λ (p : Snap). p.table) (snap_at g b.slot))) none)

      by_head : (b : Footing) → h.base ≡ Some b → (o : Option Head) → w.head b.parent ≡ o
          → list_all (of_item test) (option_map_or (λ g. option_map_or (steps_on y b g) (base_root w b) []) o []) ≡ list_all test (map (λ (b : Based). b.item) (option_map_or (based_on w s b) (base_root w b) []))
      by_head b is None head = sym (no_head b head)
      by_head b is (Some g) head = by_root b is g head (base_root w b) refl

      so : (o : Option Footing) → h.base ≡ o
          → list_all (of_item test) (option_map_or (λ b. option_map_or (λ g. option_map_or (steps_on y b g) (base_root w b) []) (w.head b.parent) []) o [])
          ≡ list_all test (map (λ (b : Based). b.item) (option_map_or (λ b. option_map_or (based_on w s b) (base_root w b) []) o []))
      so None is = refl
      so (Some b) is = by_head b is (w.head b.parent) refl

  -- A test of the pointers of all steps is one of the pointers that soundness looks at.
  pub all_same : (test : Item → Bool) → list_all (of_item test) all ≡ list_all test seen_items
  unfolding volume_seen
  all_same test =
      list_all-append (of_item test) (root_steps w s label h) (base_steps y h.base)
      ∙ (λ i. roots_test test (roots_of h) clean i && base_test test i)
      ∙ sym (list_all-append test (flat_map (λ (r : Root). map (λ (e : Reached). e.item) r.reached) (map (λ (r : ℕ × Rooted). root_seen w s r.0 r.1) (roots_of h))) (map (λ (b : Based). b.item) (base_seen w s h.base)))

  -- ---- ids and VVBNs

  abbrev is_one : Item → Item → Bool
  is_one a b = agree (has_same_id a b) (a.pointer.vvbn == b.pointer.vvbn)

  same_pairs : are_one_to_one all ≡ list_all (λ a. list_all (is_one a) seen_items) seen_items
  same_pairs = (λ i. list_all (λ (a : Step). all_same (is_one a.item) i) all) ∙ all_same (λ a. list_all (is_one a) seen_items)

  pub ids_true : one_to_one_lines all ≡ [] → list_all (λ a. list_all (is_one a) seen_items) seen_items ≡ true
  ids_true none = sym same_pairs ∙ one_to_one_from all none

  pub no_id_lines : list_all (λ a. list_all (is_one a) seen_items) seen_items ≡ true → one_to_one_lines all ≡ []
  no_id_lines are = no_one_to_one_lines all (same_pairs ∙ are)

  -- ---- stamps

  abbrev is_past : Item → Bool
  is_past e = nat_le e.pointer.stamp h.now

  pub stamps_true : flat_map (stamp_lines h.now) all ≡ [] → list_all is_past seen_items ≡ true
  unfolding stamp_lines
  stamps_true none = sym (all_same is_past) ∙ all_from (stamp_lines h.now) (of_item is_past) (λ st one. in_says (ground w s h) h.now st.item.pointer.stamp st.block one) all none

  pub no_stamps : list_all is_past seen_items ≡ true → flat_map (stamp_lines h.now) all ≡ []
  unfolding stamp_lines
  no_stamps are = clean_from (stamp_lines h.now) (of_item is_past) (λ st one. in_silent (ground w s h) h.now st.item.pointer.stamp st.block one) all (all_same is_past ∙ are)
