-- Rule 5 the other way round: where a root reaches each VVBN once and none that is a hole, no step of its walk has a line of rule 5; what a step says is
-- what its block says.
use Rattle.std.proofs.Common.{◌≡◌, ℕ, ◌≤◌, Bool, true, false, not, List, [], ◌∷◌, ◌++◌, refl, sym, ap, ◌∙◌}
use Rattle.std.specs.Prelude.{Option, Some, flat_map, ◌&&◌, ◌||◌, ◌==◌, if◌then◌else◌}
use Rattle.std.specs.List.{list_all}
use Rattle.std.specs.Option.{is_some, option_map_or}
use Rattle.std.proofs.lemmas.Bool.{and_parts, and_from}
use Rattle.std.proofs.lemmas.List.Folds.{list_all-map, list_any-append}
use Rattle.fv_tables.specs.Reached.{Item, items}
use Rattle.fv_image.specs.Views.{Placed, Rooted}
use Rattle.fv_image.specs.Volumes.{standing_of}
use Rattle.fv_image.specs.Seen.{reached_at}
use Rattle.fv_image.specs.ReachRules.{is_same_position}
use Rattle.fv_faults.specs.Lines.{line}
use Rattle.fv_faults.specs.Walks.{Step, Ground, met_in, has_reached, block_lines, step_lines, step}
use Rattle.fv_faults.proofs.Plain.{Spot, place_at, met}
use Rattle.fv_faults.proofs.Members.{all_met}
use Rattle.fv_faults.proofs.TableMembers.{reached_to}
use Rattle.fv_faults.proofs.Positions.{IsDistinct}
use Rattle.fv_faults.proofs.TablePositions.{met_once}
use Rattle.fv_faults.proofs.Reached.{AreNew, apart, reached, reaches_once_from}

module _ (g : Ground) where
  -- of two that differ in their position the VVBNs differ
  vvbns_differ : (a : Item) (ps : List Spot) → all_met (apart g a) ps ≡ true → all_met (λ e. not (is_same_position a e)) ps ≡ true → all_met (λ e. not (a.pointer.vvbn == e.pointer.vvbn)) ps ≡ true
  vvbns_differ a [] all other = refl
  vvbns_differ a (p ∷ ps) all other =
      let x = and_parts (apart g a p.0) _ all in
      let y = and_parts (not (is_same_position a p.0)) _ other in
      and_from (not (a.pointer.vvbn == p.0.pointer.vvbn)) _ (so (not (a.pointer.vvbn == p.0.pointer.vvbn)) (is_same_position a p.0) x.0 y.0) (vvbns_differ a ps x.1 y.1)
    where
      so : (n s : Bool) → (n || s) ≡ true → not s ≡ true → n ≡ true
      so true s x y = refl
      so false true x y = absurd cc
      so false false x y = absurd cc

  -- each differs from all later ones
  abbrev Differ : List Spot → Type 0
  Differ [] = Unit {0}
  Differ (p ∷ ps) = (all_met (λ e. not (p.0.pointer.vvbn == e.pointer.vvbn)) ps ≡ true) × Differ ps

  without_first : (a : Item) (xs ps : List Spot) → all_met (λ e. apart g e a && all_met (apart g e) xs) ps ≡ true → all_met (λ e. all_met (apart g e) xs) ps ≡ true
  without_first a xs [] all = refl
  without_first a xs (p ∷ ps) all =
      let parts = and_parts (apart g p.0 a && all_met (apart g p.0) xs) _ all in
      and_from (all_met (apart g p.0) xs) _ (and_parts (apart g p.0 a) _ parts.0).1 (without_first a xs ps parts.1)

  all_differ : (ps : List Spot) → all_met (λ a. all_met (apart g a) ps) ps ≡ true → IsDistinct ps → Differ ps
  all_differ [] all distinct = tt
  all_differ (p ∷ ps) all distinct =
      let parts = and_parts (apart g p.0 p.0 && all_met (apart g p.0) ps) _ all in
      (vvbns_differ p.0 ps (and_parts (apart g p.0 p.0) _ parts.0).1 distinct.0, all_differ ps (without_first p.0 ps ps parts.1) distinct.1)

  unreached : List Step → Item → Bool
  unreached done e = not (has_reached done e.pointer.vvbn)

  still : (done : List Step) (e : Item) (block : ℕ) (ps : List Spot) → all_met (unreached done) ps ≡ true → all_met (λ f. not (e.pointer.vvbn == f.pointer.vvbn)) ps ≡ true → all_met (unreached (done ++ (step g done e block ∷ []))) ps ≡ true
  unfolding unreached step
  still done e block [] a b = refl
  still done e block (p ∷ ps) a b =
      let x = and_parts (not (has_reached done p.0.pointer.vvbn)) _ a in
      let y = and_parts (not (e.pointer.vvbn == p.0.pointer.vvbn)) _ b in
      and_from (not (has_reached (done ++ (step g done e block ∷ [])) p.0.pointer.vvbn)) _
      (ap not (list_any-append (λ (s : Step). s.item.pointer.vvbn == p.0.pointer.vvbn) done (step g done e block ∷ [])) ∙ so (has_reached done p.0.pointer.vvbn) (e.pointer.vvbn == p.0.pointer.vvbn) x.0 y.0)
      (still done e block ps x.1 y.1)
    where
      so : (m n : Bool) → not m ≡ true → not n ≡ true → not (m || (n || false)) ≡ true
      so true n x y = absurd cc
      so false true x y = absurd cc
      so false false x y = refl

  all_new : (done : List Step) (ps : List Spot) → all_met (unreached done) ps ≡ true → all_met (λ e. is_some (place_at g e)) ps ≡ true → Differ ps → AreNew g done ps
  unfolding unreached
  all_new done [] a b differ = tt
  all_new done (p ∷ ps) a b differ =
      let x = and_parts (not (has_reached done p.0.pointer.vvbn)) _ a in
      let y = and_parts (is_some (place_at g p.0)) _ b in
      (no (has_reached done p.0.pointer.vvbn) x.0, (y.0, all_new (done ++ (step g done p.0 p.1 ∷ [])) ps (still done p.0 p.1 ps x.1 differ.0) y.1 differ.1))
    where
      no : (m : Bool) → not m ≡ true → m ≡ false
      no true e = absurd cc
      no false e = refl

  none_yet : (ps : List Spot) → all_met (unreached []) ps ≡ true
  unfolding unreached
  none_yet [] = refl
  none_yet (p ∷ ps) = none_yet ps

  each_part : (p q : Item → Bool) (ps : List Spot) → all_met (λ e. p e && q e) ps ≡ true → (all_met p ps ≡ true) × (all_met q ps ≡ true)
  each_part p q [] all = (refl, refl)
  each_part p q (x ∷ xs) all =
      let parts = and_parts (p x.0 && q x.0) _ all in
      let here = and_parts (p x.0) (q x.0) parts.0 in
      let rest = each_part p q xs parts.1 in
      (and_from (p x.0) _ here.0 rest.0, and_from (q x.0) _ here.1 rest.1)

  items_to_spots : (label : ℕ) (r : Rooted) (ps : List Spot) → all_met (λ a. list_all (λ b. apart g a b.item) (reached g r)) ps ≡ true → all_met (λ a. all_met (apart g a) (met g label r)) ps ≡ true
  items_to_spots label r [] all = refl
  items_to_spots label r (p ∷ ps) all =
      let parts = and_parts (list_all (λ b. apart g p.0 b.item) (reached g r)) _ all in
      and_from (all_met (apart g p.0) (met g label r)) _
      (reached_to (apart g p.0) g r label (sym (list_all-map (λ b. apart g p.0 b.item) (reached_at g.view g.slot) (items (standing_of g.view g.slot r))) ∙ parts.0))
      (items_to_spots label r ps parts.1)

  pub once_new : (label : ℕ) (r : Rooted) → r.levels ≤ 2 → reaches_once_from g (reached g r) ≡ true → AreNew g [] (met g label r)
  once_new label r fits all =
      let test = λ (e : Item). is_some (place_at g e) && list_all (λ b. apart g e b.item) (reached g r) in
      let spots = reached_to test g r label (sym (list_all-map (λ a. is_some a.at && list_all (λ b. apart g a.item b.item) (reached g r)) (reached_at g.view g.slot) (items (standing_of g.view g.slot r))) ∙ all) in
      let parts = each_part (λ e. is_some (place_at g e)) (λ e. list_all (λ b. apart g e b.item) (reached g r)) (met g label r) spots in
      all_new [] (met g label r) (none_yet (met g label r)) parts.0 (all_differ (met g label r) (items_to_spots label r (met g label r) parts.1) (met_once g r fits label))

  -- what a new step says
  pub says_block : (done : List Step) (e : Item) (block : ℕ) (x : Placed) → has_reached done e.pointer.vvbn ≡ false → place_at g e ≡ Some x → (step g done e block).lines ≡ block_lines g.view.blocks g.span (flat_map met_in done) e x
  unfolding step step_lines
  says_block done e block x new found =
      ap (λ (b : Bool). if b then line 5 block 1 2 ∷ [] else option_map_or (block_lines g.view.blocks g.span (flat_map met_in done) e) (place_at g e) (line 5 block 1 0 ∷ [])) new
      ∙ ap (λ (o : Option Placed). option_map_or (block_lines g.view.blocks g.span (flat_map met_in done) e) o (line 5 block 1 0 ∷ [])) found
