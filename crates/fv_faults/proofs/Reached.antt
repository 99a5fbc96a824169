-- Rules on what roots reach, where the walk of a root finds nothing.
use Rattle.std.proofs.Common.{◌≡◌, ℕ, Bool, true, false, not, List, [], ◌∷◌, ◌++◌, map, refl, sym, ap, subst, ◌∙◌, arith}
use Rattle.std.specs.Prelude.{Option, Some, None, flat_map, ◌&&◌, ◌||◌, ◌==◌, if◌then◌else◌}
use Rattle.std.specs.List.{list_all}
use Rattle.std.specs.Option.{is_some, option_map_or}
use Rattle.std.proofs.lemmas.Bool.{and_parts, and_from, or_left, or_right}
use Rattle.std.proofs.lemmas.Bool.Decides.{nat_tests}
use Rattle.std.proofs.lemmas.List.{append_assoc, append-nil}
use Rattle.std.proofs.lemmas.List.Folds.{list_all-map, list_any-append}
use Rattle.std.proofs.lemmas.List.Concat.{flat_map-append}
use Rattle.fv_tables.specs.Reached.{Item, items}
use Rattle.fv_image.specs.Views.{Placed, Rooted}
use Rattle.fv_image.specs.Volumes.{standing_of}
use Rattle.fv_image.specs.Seen.{Reached, reached_at}
use Rattle.fv_image.specs.ReachRules.{is_same_position}
use Rattle.fv_image.specs.HintRules.{is_true_hint}
use Rattle.fv_faults.specs.declared.fault.Fault.{Fault}
use Rattle.fv_faults.specs.Lines.{line, unless}
use Rattle.fv_faults.specs.Walks.{Step, Ground, met_in, has_reached, block_lines, step_lines, step, steps}
use Rattle.fv_faults.specs.ThirdPass.{pvbn_at}
use Rattle.fv_faults.specs.FourthPass.{hint_lines}
use Rattle.fv_faults.proofs.Clean.{parts_nil, nil_parts, holds_from, none_from}
use Rattle.fv_faults.proofs.Plain.{Spot, place_at, met, run, run_keeps, IsClean, steps_are}
use Rattle.fv_faults.proofs.Members.{all_met}
use Rattle.fv_faults.proofs.TableMembers.{reached_from, reached_to}

-- ---- lines of a step by its pointer, its block and its place alone

module _ (g : Ground) (f : Item → ℕ → Option Placed → List Fault) where
  abbrev pub of_step : Step → List Fault
  of_step s = f s.item s.block s.at

  abbrev of_spot : Spot → List Fault
  of_spot p = f p.0 p.1 (place_at g p.0)

  run_lines : (done : List Step) (ps : List Spot) → flat_map of_step (run g done ps) ≡ flat_map of_step done ++ flat_map of_spot ps
  unfolding run step
  run_lines done [] = sym (append-nil (flat_map of_step done))
  run_lines done (p ∷ ps) =
      run_lines (done ++ (step g done p.0 p.1 ∷ [])) ps
      ∙ ap (λ fs. fs ++ flat_map of_spot ps) (flat_map-append of_step done (step g done p.0 p.1 ∷ []))
      ∙ append_assoc (flat_map of_step done) (of_spot p ++ []) (flat_map of_spot ps)
      ∙ ap (λ fs. flat_map of_step done ++ (fs ++ flat_map of_spot ps)) (append-nil (of_spot p))

  module _ (test : Item → Bool) (says : (e : Item) (b : ℕ) → f e b (place_at g e) ≡ [] → test e ≡ true) (silent : (e : Item) (b : ℕ) → test e ≡ true → f e b (place_at g e) ≡ []) where
    spots_pass : (ps : List Spot) → flat_map of_spot ps ≡ [] → all_met test ps ≡ true
    spots_pass [] none = refl
    spots_pass (p ∷ ps) none = let parts = parts_nil (of_spot p) (flat_map of_spot ps) none in and_from (test p.0) _ (says p.0 p.1 parts.0) (spots_pass ps parts.1)

    pass_spots : (ps : List Spot) → all_met test ps ≡ true → flat_map of_spot ps ≡ []
    pass_spots [] all = refl
    pass_spots (p ∷ ps) all = let parts = and_parts (test p.0) _ all in nil_parts (of_spot p) (flat_map of_spot ps) (silent p.0 p.1 parts.0) (pass_spots ps parts.1)

    -- No step of a root has such a line exactly where the test holds of all that its table reaches.
    pub passes : (label : ℕ) (r : Rooted) → IsClean (steps g label r) → flat_map of_step (steps g label r) ≡ [] → list_all test (items (standing_of g.view g.slot r)) ≡ true
    passes label r clean none =
        reached_from test g r label (spots_pass (met g label r) (sym (run_lines [] (met g label r)) ∙ sym (ap (flat_map of_step) (steps_are g label r clean)) ∙ none))

    pub silent_where : (label : ℕ) (r : Rooted) → IsClean (steps g label r) → list_all test (items (standing_of g.view g.slot r)) ≡ true → flat_map of_step (steps g label r) ≡ []
    silent_where label r clean all =
        ap (flat_map of_step) (steps_are g label r clean) ∙ run_lines [] (met g label r) ∙ pass_spots (met g label r) (reached_to test g r label all)

-- ---- rule 11

module _ (g : Ground) where
  abbrev pub reached : Rooted → List Reached
  reached r = map (reached_at g.view g.slot) (items (standing_of g.view g.slot r))

  abbrev hints_of : Item → ℕ → Option Placed → List Fault
  hints_of e block at = unless (is_true_hint e.pointer at) (line 11 block (pvbn_at at) e.pointer.pvbn)

  abbrev hint_test : Item → Bool
  hint_test e = is_true_hint e.pointer (place_at g e)

  pub hints_true : (label : ℕ) (r : Rooted) → IsClean (steps g label r) → flat_map hint_lines (steps g label r) ≡ [] → list_all (λ e. is_true_hint e.item.pointer e.at) (reached r) ≡ true
  unfolding hint_lines
  hints_true label r clean none = list_all-map (λ e. is_true_hint e.item.pointer e.at) (reached_at g.view g.slot) (items (standing_of g.view g.slot r))
      ∙ passes g hints_of hint_test (λ e b. holds_from (hint_test e) _) (λ e b. none_from (hint_test e) _) label r clean none

  pub no_hint_lines : (label : ℕ) (r : Rooted) → IsClean (steps g label r) → list_all (λ e. is_true_hint e.item.pointer e.at) (reached r) ≡ true → flat_map hint_lines (steps g label r) ≡ []
  unfolding hint_lines
  no_hint_lines label r clean all = silent_where g hints_of hint_test (λ e b. holds_from (hint_test e) _) (λ e b. none_from (hint_test e) _) label r clean
      (sym (list_all-map (λ e. is_true_hint e.item.pointer e.at) (reached_at g.view g.slot) (items (standing_of g.view g.slot r))) ∙ all)

  -- ---- rule 5

  -- a step without a line: its VVBN is new and stands, and its block says nothing
  pub record IsFresh (done : List Step) (p : Spot) : Type 0 where
    pub new : has_reached done p.0.pointer.vvbn ≡ false
    pub at : Placed
    pub found : place_at g p.0 ≡ Some at
    pub block : block_lines g.view.blocks g.span (flat_map met_in done) p.0 at ≡ []

  fresh : (done : List Step) (p : Spot) → (step g done p.0 p.1).lines ≡ [] → IsFresh done p
  unfolding step step_lines
  fresh done p none = so (has_reached done p.0.pointer.vvbn) refl (place_at g p.0) refl none
    where
      so : (b : Bool) → has_reached done p.0.pointer.vvbn ≡ b → (o : Option Placed) → place_at g p.0 ≡ o
          → (if b then line 5 p.1 1 2 ∷ [] else option_map_or (block_lines g.view.blocks g.span (flat_map met_in done) p.0) o (line 5 p.1 1 0 ∷ [])) ≡ [] → IsFresh done p
      so true e o f none = absurd cc
      so false e None f none = absurd cc
      so false e (Some x) f none = record { new = e; at = x; found = f; block = none }

  abbrev pub AreFresh : List Step → List Spot → Type 0
  AreFresh done [] = Unit {0}
  AreFresh done (p ∷ ps) = IsFresh done p × AreFresh (done ++ (step g done p.0 p.1 ∷ [])) ps

  pub all_fresh : (done : List Step) (ps : List Spot) → IsClean (run g done ps) → AreFresh done ps
  unfolding run
  all_fresh done [] clean = tt
  all_fresh done (p ∷ ps) clean =
      let before = run_keeps g (done ++ (step g done p.0 p.1 ∷ [])) ps clean in
      let last = parts_nil (flat_map (λ (s : Step). s.lines) done) _ (sym (flat_map-append (λ (s : Step). s.lines) done (step g done p.0 p.1 ∷ [])) ∙ before) in
      (fresh done p (parts_nil (step g done p.0 p.1).lines [] last.1).0, all_fresh (done ++ (step g done p.0 p.1 ∷ [])) ps clean)

  -- each VVBN is new when the walk comes to it, and stands
  abbrev pub AreNew : List Step → List Spot → Type 0
  AreNew done [] = Unit {0}
  AreNew done (p ∷ ps) = (has_reached done p.0.pointer.vvbn ≡ false) × ((is_some (place_at g p.0) ≡ true) × AreNew (done ++ (step g done p.0 p.1 ∷ [])) ps)

  pub fresh_new : (done : List Step) (ps : List Spot) → AreFresh done ps → AreNew done ps
  fresh_new done [] are = tt
  fresh_new done (p ∷ ps) are = (are.0.new, (ap (λ (o : Option Placed). is_some o) are.0.found, fresh_new (done ++ (step g done p.0 p.1 ∷ [])) ps are.1))

  placed_all : (done : List Step) (ps : List Spot) → AreFresh done ps → all_met (λ e. is_some (place_at g e)) ps ≡ true
  placed_all done [] are = refl
  placed_all done (p ∷ ps) are = and_from (is_some (place_at g p.0)) _ (ap (λ (o : Option Placed). is_some o) are.0.found) (placed_all (done ++ (step g done p.0 p.1 ∷ [])) ps are.1)

  -- two pointers with one VVBN have one position
  abbrev pub apart : Item → Item → Bool
  apart a b = not (a.pointer.vvbn == b.pointer.vvbn) || is_same_position a b

  equal : (a b : ℕ) → (a == b) ≡ true → a ≡ b
  equal a b e = grind (arith, nat_tests, e)

  later_differ : (v : ℕ) (done : List Step) (ps : List Spot) → AreFresh done ps → has_reached done v ≡ true → all_met (λ e. not (v == e.pointer.vvbn)) ps ≡ true
  later_differ v done [] are there = refl
  later_differ v done (p ∷ ps) are there =
      and_from (not (v == p.0.pointer.vvbn)) _ (so (v == p.0.pointer.vvbn) refl)
      (later_differ v (done ++ (step g done p.0 p.1 ∷ [])) ps are.1 (list_any-append (λ (s : Step). s.item.pointer.vvbn == v) done (step g done p.0 p.1 ∷ []) ∙ or_left (has_reached done v) _ there))
    where
      differ : false ≡ true → ⊥
      differ e = cc

      so : (b : Bool) → (v == p.0.pointer.vvbn) ≡ b → not b ≡ true
      so false e = refl
      so true e = absurd (differ (sym are.0.new ∙ ap (has_reached done) (sym (equal v p.0.pointer.vvbn e)) ∙ there))

  swap : (a b : ℕ) → (a == b) ≡ (b == a)
  swap a b = grind (arith, nat_tests)

  one_side : (v : ℕ) (a : Item) (ps : List Spot) → a.pointer.vvbn ≡ v → all_met (λ e. not (v == e.pointer.vvbn)) ps ≡ true → (all_met (apart a) ps ≡ true) × (all_met (λ e. apart e a) ps ≡ true)
  one_side v a [] is all = (refl, refl)
  one_side v a (p ∷ ps) is all =
      let parts = and_parts (not (v == p.0.pointer.vvbn)) _ all in
      let rest = one_side v a ps is parts.1 in
      let here : not (a.pointer.vvbn == p.0.pointer.vvbn) ≡ true = ap (λ n. not (n == p.0.pointer.vvbn)) is ∙ parts.0 in
      let there : not (p.0.pointer.vvbn == a.pointer.vvbn) ≡ true = ap not (swap p.0.pointer.vvbn a.pointer.vvbn) ∙ here in
      (and_from (apart a p.0) _ (or_left (not (a.pointer.vvbn == p.0.pointer.vvbn)) _ here) rest.0, and_from (apart p.0 a) _ (or_left (not (p.0.pointer.vvbn == a.pointer.vvbn)) _ there) rest.1)

  itself : (a : Item) → apart a a ≡ true
  itself a = or_right (not (a.pointer.vvbn == a.pointer.vvbn)) _ (and_from (a.owner == a.owner) _ (one a.owner) (and_from (a.level == a.level) _ (one a.level) (one a.place)))
    where
      one : (n : ℕ) → (n == n) ≡ true
      one n = grind (arith, nat_tests)

  pub both_pass : (p q : Item → Bool) (ps : List Spot) → all_met p ps ≡ true → all_met q ps ≡ true → all_met (λ e. p e && q e) ps ≡ true
  both_pass p q [] a b = refl
  both_pass p q (x ∷ xs) a b =
      let l = and_parts (p x.0) _ a in
      let m = and_parts (q x.0) _ b in
      and_from (p x.0 && q x.0) _ (and_from (p x.0) (q x.0) l.0 m.0) (both_pass p q xs l.1 m.1)

  all_apart : (done : List Step) (ps : List Spot) → AreFresh done ps → all_met (λ a. all_met (apart a) ps) ps ≡ true
  unfolding step
  all_apart done [] are = refl
  all_apart done (p ∷ ps) are =
      let after = done ++ (step g done p.0 p.1 ∷ []) in
      let reached_it : has_reached after p.0.pointer.vvbn ≡ true =
      list_any-append (λ (s : Step). s.item.pointer.vvbn == p.0.pointer.vvbn) done (step g done p.0 p.1 ∷ [])
      ∙ or_right (has_reached done p.0.pointer.vvbn) _ (or_left (p.0.pointer.vvbn == p.0.pointer.vvbn) false (let one : (p.0.pointer.vvbn == p.0.pointer.vvbn) ≡ true = grind (arith, nat_tests) in one)) in
      let sides = one_side p.0.pointer.vvbn p.0 ps refl (later_differ p.0.pointer.vvbn after ps are.1 reached_it) in
      and_from (apart p.0 p.0 && all_met (apart p.0) ps) _ (and_from (apart p.0 p.0) _ (itself p.0) sides.0)
      (both_pass (λ a. apart a p.0) (λ a. all_met (apart a) ps) ps sides.1 (all_apart after ps are.1))

  -- what rule 5 asks of a root, as soundness tests it
  abbrev pub reaches_once_from : List Reached → Bool
  reaches_once_from rs = list_all (λ a. is_some a.at && list_all (λ b. not (a.item.pointer.vvbn == b.item.pointer.vvbn) || is_same_position a.item b.item) rs) rs

  spots_to_items : (label : ℕ) (r : Rooted) (ps : List Spot) → all_met (λ a. all_met (apart a) (met g label r)) ps ≡ true → all_met (λ a. list_all (λ b. apart a b.item) (reached r)) ps ≡ true
  spots_to_items label r [] all = refl
  spots_to_items label r (p ∷ ps) all =
      let parts = and_parts (all_met (apart p.0) (met g label r)) _ all in
      and_from (list_all (λ b. apart p.0 b.item) (reached r)) _
      (list_all-map (λ b. apart p.0 b.item) (reached_at g.view g.slot) (items (standing_of g.view g.slot r)) ∙ reached_from (apart p.0) g r label parts.0)
      (spots_to_items label r ps parts.1)

  -- Where the walk of a root finds nothing, the root reaches each VVBN once and none that is a hole.
  pub reached_once : (label : ℕ) (r : Rooted) → IsClean (steps g label r) → reaches_once_from (reached r) ≡ true
  reached_once label r clean =
      let are = all_fresh [] (met g label r) (subst IsClean (steps_are g label r clean) clean) in
      let all = both_pass (λ e. is_some (place_at g e)) (λ a. list_all (λ b. apart a b.item) (reached r)) (met g label r) (placed_all [] (met g label r) are)
      (spots_to_items label r (met g label r) (all_apart [] (met g label r) are)) in
      list_all-map (λ a. is_some a.at && list_all (λ b. apart a.item b.item) (reached r)) (reached_at g.view g.slot) (items (standing_of g.view g.slot r))
      ∙ reached_from (λ e. is_some (place_at g e) && list_all (λ b. apart e b.item) (reached r)) g r label all
