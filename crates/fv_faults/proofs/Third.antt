-- Rules 6, 9 and the stamps of rule 10 on what a root reaches, where the walk of the root finds nothing.
use Rattle.std.proofs.Common.{◌≡◌, ℕ, ◌*◌, ◌/◌, Bool, true, false, not, List, [], ◌∷◌, ◌++◌, refl, sym, ap, ◌∙◌, arith, Ok, Err}
use Rattle.std.specs.Prelude.{Option, flat_map, ◌&&◌, ◌||◌, ◌==◌, nat_le, nat_lt, if◌then◌else◌}
use Rattle.std.specs.List.{list_all, list_any, range_with_len}
use Rattle.std.proofs.lemmas.Bool.Decides.{nat_tests}
use Rattle.std.proofs.lemmas.List.Folds.{list_all-map, list_any-append}
use Rattle.fv_codec.specs.Fields.{in_range}
use Rattle.fv_model.specs.Space.{map_blocks}
use Rattle.fv_tables.specs.Reached.{Item, items, is_listed}
use Rattle.fv_image.specs.Layout.{block_bits}
use Rattle.fv_image.specs.Views.{Placed, Rooted, Head, View, map_vvbn, volume_bit}
use Rattle.fv_image.specs.Volumes.{standing_of}
use Rattle.fv_image.specs.BlockRules.{agree}
use Rattle.fv_image.specs.Views.{kind_at}
use Rattle.fv_image.specs.Seen.{reached_at}
use Rattle.fv_image.specs.ReachRules.{kind_of, is_reach}
use Rattle.fv_faults.specs.declared.fault.Fault.{Fault}
use Rattle.fv_faults.specs.Lines.{says, expects}
use Rattle.fv_faults.specs.Walks.{Step, Ground, step, steps}
use Rattle.fv_faults.specs.SecondPass.{ground}
use Rattle.fv_faults.specs.ThirdPass.{bit_lines, pvbn_at, reach_lines, kind_lines, stamp_lines}
use Rattle.fv_faults.proofs.Clean.{all_from, clean_from, holds_from, none_from}
use Rattle.fv_faults.proofs.Plain.{Spot, place_at, met, run, IsClean, steps_are}
use Rattle.fv_faults.proofs.TableMembers.{reached_from, reached_to}
use Rattle.fv_faults.proofs.Reached.{passes, silent_where, reached}

module _ (g : Ground) where
  -- ---- rule 9

  abbrev kinds_of : Item → ℕ → Option Placed → List Fault
  kinds_of e block at = expects 9 block (kind_of e) (kind_at at)

  abbrev kind_test : Item → Bool
  kind_test e = kind_at (place_at g e) == kind_of e

  turned : (a b : ℕ) → (a == b) ≡ (b == a)
  turned a b = grind (arith, nat_tests)

  kind_says : (e : Item) (b : ℕ) → kinds_of e b (place_at g e) ≡ [] → kind_test e ≡ true
  kind_says e b none = turned (kind_at (place_at g e)) (kind_of e) ∙ holds_from (kind_of e == kind_at (place_at g e)) _ none

  kind_silent : (e : Item) (b : ℕ) → kind_test e ≡ true → kinds_of e b (place_at g e) ≡ []
  kind_silent e b is = none_from (kind_of e == kind_at (place_at g e)) _ (turned (kind_of e) (kind_at (place_at g e)) ∙ is)

  pub kinds_true : (label : ℕ) (r : Rooted) → IsClean (steps g label r) → flat_map kind_lines (steps g label r) ≡ [] → list_all (λ e. kind_at e.at == kind_of e.item) (reached g r) ≡ true
  unfolding kind_lines
  kinds_true label r clean none = list_all-map (λ e. kind_at e.at == kind_of e.item) (reached_at g.view g.slot) (items (standing_of g.view g.slot r)) ∙ passes g kinds_of kind_test kind_says kind_silent label r clean none

  pub no_kind_lines : (label : ℕ) (r : Rooted) → IsClean (steps g label r) → list_all (λ e. kind_at e.at == kind_of e.item) (reached g r) ≡ true → flat_map kind_lines (steps g label r) ≡ []
  unfolding kind_lines
  no_kind_lines label r clean all = silent_where g kinds_of kind_test kind_says kind_silent label r clean (sym (list_all-map (λ e. kind_at e.at == kind_of e.item) (reached_at g.view g.slot) (items (standing_of g.view g.slot r))) ∙ all)

  -- ---- rule 10, stamps

  module _ (now : ℕ) where
    abbrev stamps_of : Item → ℕ → Option Placed → List Fault
    stamps_of e block at = says 10 block (in_range 0 now e.pointer.stamp)

    abbrev stamp_test : Item → Bool
    stamp_test e = nat_le e.pointer.stamp now

    pub in_says : (x b : ℕ) → says 10 b (in_range 0 now x) ≡ [] → nat_le x now ≡ true
    in_says x b none = so (nat_lt x 0) refl (nat_lt now x) refl none
      where
        so : (l : Bool) → nat_lt x 0 ≡ l → (h : Bool) → nat_lt now x ≡ h → says 10 b (if l then Err (record { want = 0; found = x }) else if h then Err (record { want = now; found = x }) else Ok tt) ≡ [] → nat_le x now ≡ true
        so true e h f none = absurd cc
        so false e true f none = absurd cc
        so false e false f none = grind (arith, nat_tests, f)

    pub in_silent : (x b : ℕ) → nat_le x now ≡ true → says 10 b (in_range 0 now x) ≡ []
    in_silent x b is =
        let low : nat_lt x 0 ≡ false = grind (arith, nat_tests) in
        let high : nat_lt now x ≡ false = grind (arith, nat_tests, is) in
        rw (low, high) refl

    pub stamps_past : (label : ℕ) (r : Rooted) → IsClean (steps g label r) → flat_map (stamp_lines now) (steps g label r) ≡ [] → list_all stamp_test (items (standing_of g.view g.slot r)) ≡ true
    unfolding stamp_lines
    stamps_past label r clean none = passes g stamps_of stamp_test (λ e b. in_says e.pointer.stamp b) (λ e b. in_silent e.pointer.stamp b) label r clean none

    pub no_stamp_lines : (label : ℕ) (r : Rooted) → IsClean (steps g label r) → list_all stamp_test (items (standing_of g.view g.slot r)) ≡ true → flat_map (stamp_lines now) (steps g label r) ≡ []
    unfolding stamp_lines
    no_stamp_lines label r clean all = silent_where g stamps_of stamp_test (λ e b. in_says e.pointer.stamp b) (λ e b. in_silent e.pointer.stamp b) label r clean all

  -- ---- rule 6

  any_run : (v : ℕ) (done : List Step) (ps : List Spot) → list_any (λ (s : Step). s.item.pointer.vvbn == v) (run g done ps) ≡ (list_any (λ (s : Step). s.item.pointer.vvbn == v) done || list_any (λ (p : Spot). p.0.pointer.vvbn == v) ps)
  unfolding run step
  any_run v done [] = last (list_any (λ (s : Step). s.item.pointer.vvbn == v) done)
    where
      last : (b : Bool) → b ≡ (b || false)
      last true = refl
      last false = refl
  any_run v done (p ∷ ps) =
      any_run v (done ++ (step g done p.0 p.1 ∷ [])) ps
      ∙ ap (λ (b : Bool). b || list_any (λ (p : Spot). p.0.pointer.vvbn == v) ps) (list_any-append (λ (s : Step). s.item.pointer.vvbn == v) done (step g done p.0 p.1 ∷ []))
      ∙ so (list_any (λ (s : Step). s.item.pointer.vvbn == v) done) (p.0.pointer.vvbn == v) (list_any (λ (p : Spot). p.0.pointer.vvbn == v) ps)
    where
      so : (a b c : Bool) → ((a || (b || false)) || c) ≡ (a || (b || c))
      so true b c = refl
      so false true c = refl
      so false false c = refl

  none_any : {X : Type 0} (p : X → Bool) (xs : List X) → list_all (λ x. not (p x)) xs ≡ not (list_any p xs)
  none_any p [] = refl
  none_any p (x ∷ xs) = so (p x) (none_any p xs)
    where
      so : (b : Bool) → list_all (λ x. not (p x)) xs ≡ not (list_any p xs) → (not b && list_all (λ x. not (p x)) xs) ≡ not (b || list_any p xs)
      so true rest = refl
      so false rest = rest

  same_nots : (a b : Bool) → (not a ≡ true → not b ≡ true) → (not b ≡ true → not a ≡ true) → a ≡ b
  same_nots true true there back = refl
  same_nots false false there back = refl
  same_nots true false there back = let wrong = back refl in absurd cc
  same_nots false true there back = let wrong = there refl in absurd cc

  -- The steps of a root reach what its table reaches.
  pub steps_reach : (label : ℕ) (r : Rooted) → IsClean (steps g label r) → (v : ℕ) → list_any (λ (s : Step). s.item.pointer.vvbn == v) (steps g label r) ≡ is_listed (items (standing_of g.view g.slot r)) v
  steps_reach label r clean v =
      ap (list_any (λ (s : Step). s.item.pointer.vvbn == v)) (steps_are g label r clean) ∙ any_run v [] (met g label r)
      ∙ same_nots (list_any (λ (p : Spot). p.0.pointer.vvbn == v) (met g label r)) (is_listed (items (standing_of g.view g.slot r)) v)
      (λ none. sym (none_any (λ (e : Item). e.pointer.vvbn == v) (items (standing_of g.view g.slot r))) ∙ reached_from (λ e. not (e.pointer.vvbn == v)) g r label (none_any (λ (p : Spot). p.0.pointer.vvbn == v) (met g label r) ∙ none))
      (λ none. sym (none_any (λ (p : Spot). p.0.pointer.vvbn == v) (met g label r)) ∙ reached_to (λ e. not (e.pointer.vvbn == v)) g r label (none_any (λ (e : Item). e.pointer.vvbn == v) (items (standing_of g.view g.slot r)) ∙ none))

module _ (w : View) (s : ℕ) (h : Head) (slot label : ℕ) (r : Rooted) (clean : IsClean (steps (ground w s h) label r)) where
  abbrev bit_of : ℕ → List Fault
  bit_of v = bit_lines 6 (pvbn_at (w.entry s (map_vvbn h.span slot (v / block_bits)))) (list_any (λ (st : Step). st.item.pointer.vvbn == v) (steps (ground w s h) label r)) (volume_bit w s h.span slot v)

  abbrev test : ℕ → Bool
  test v = agree (volume_bit w s h.span slot v) (is_listed (items (standing_of w s r)) v)

  pub maps_true : reach_lines w s h slot (steps (ground w s h) label r) ≡ [] → is_reach w s h (slot, r) ≡ true
  unfolding reach_lines
  maps_true none = all_from bit_of test (λ v none. ap (agree (volume_bit w s h.span slot v)) (sym (steps_reach (ground w s h) label r clean v)) ∙ holds_from (agree (volume_bit w s h.span slot v) (list_any (λ (st : Step). st.item.pointer.vvbn == v) (steps (ground w s h) label r))) _ none) (range_with_len 0 (block_bits * map_blocks h.span)) none

  pub no_reach_lines : is_reach w s h (slot, r) ≡ true → reach_lines w s h slot (steps (ground w s h) label r) ≡ []
  unfolding reach_lines
  no_reach_lines all = clean_from bit_of test (λ v is. none_from (agree (volume_bit w s h.span slot v) (list_any (λ (st : Step). st.item.pointer.vvbn == v) (steps (ground w s h) label r))) _ (ap (agree (volume_bit w s h.span slot v)) (steps_reach (ground w s h) label r clean v) ∙ is)) (range_with_len 0 (block_bits * map_blocks h.span)) all
