-- Rule 10, marks: the lines of the steps of a root, and the test of soundness.
use Rattle.std.proofs.Common.{◌≡◌, ℕ, zero, suc, ◌≤◌, Bool, true, false, List, [], ◌∷◌, inl, inr, refl, sym, ◌∙◌, arith}
use Rattle.std.specs.Prelude.{Option, Some, None, flat_map, ◌||◌, ◌==◌, nat_lt, nat_le, if◌then◌else◌}
use Rattle.std.specs.List.{list_all}
use Rattle.std.specs.Option.{option_map_or}
use Rattle.std.proofs.lemmas.Bool.{and_parts, and_from}
use Rattle.std.proofs.lemmas.List.Folds.{list_all-map}
use Rattle.std.proofs.lemmas.Bool.Decides.{nat_tests}
use Rattle.fv_laws.proofs.Lists.{In}
use Rattle.fv_tables.specs.Reached.{Item, items}
use Rattle.fv_image.specs.Views.{Placed, Rooted}
use Rattle.fv_image.specs.Volumes.{standing_of}
use Rattle.fv_image.specs.Seen.{reached_at}
use Rattle.fv_faults.specs.declared.fault.Fault.{Fault}
use Rattle.fv_faults.specs.Lines.{line, unless}
use Rattle.fv_faults.specs.Walks.{Ground, root_item, pointers_under, steps}
use Rattle.fv_faults.specs.ThirdPass.{greatest_stamp, mark_lines}
use Rattle.fv_faults.proofs.Clean.{holds_from, none_from}
use Rattle.fv_faults.proofs.Plain.{Spot, place_at, plain_one, plain, no_more, files_met, met, IsClean}
use Rattle.fv_faults.proofs.Members.{all_met, met_both}
use Rattle.fv_faults.proofs.TableMembers.{reached_from, reached_to}
use Rattle.fv_faults.proofs.Reached.{passes, silent_where, reached}
use Rattle.fv_faults.proofs.Marks.{at_cell, in_node, rises_over, stays_under, marks_down, marks_up}

-- ---- what holds of a root and is handed on to each pointer in a block holds of all that the root meets

module _ (g : Ground) (kept : Item → Bool) (hands : (e c : Item) (x : Placed) → kept e ≡ true → In c (pointers_under e x) → kept c ≡ true) where
  kept_each : (f : Item → List Spot) (cs : List Item) → ((c : Item) → In c cs → all_met kept (f c) ≡ true) → all_met kept (flat_map f cs) ≡ true
  kept_each f [] each = refl
  kept_each f (c ∷ cs) each = met_both kept (f c) (flat_map f cs) (each c (inl refl)) (kept_each f cs (λ d there. each d (inr there)))

  kept_one : (below : Item → Placed → List Spot) (e : Item) (block : ℕ) → ((x : Placed) → all_met kept (below e x) ≡ true) → kept e ≡ true → all_met kept (plain_one g below e block) ≡ true
  kept_one below e block rest is = so (e.pointer.stamp == 0) (place_at g e)
    where
      so : (b : Bool) (o : Option Placed) → all_met kept (if b then [] else (e, block) ∷ option_map_or (below e) o []) ≡ true
      so true o = refl
      so false None = and_from (kept e) true is refl
      so false (Some x) = and_from (kept e) _ is (rest x)

  kept_plain : (cell : Item → Placed → List Spot) → ((e : Item) (x : Placed) → kept e ≡ true → all_met kept (cell e x) ≡ true) → (level : ℕ) (e : Item) (block : ℕ) → kept e ≡ true → all_met kept (plain g cell level e block) ≡ true
  unfolding plain
  kept_plain cell on_cell zero e block is = kept_one cell e block (λ x. on_cell e x is) is
  kept_plain cell on_cell (suc k) e block is =
      kept_one (λ e x. flat_map (λ c. plain g cell k c x.pvbn) (pointers_under e x)) e block
      (λ x. kept_each (λ c. plain g cell k c x.pvbn) (pointers_under e x) (λ c there. kept_plain cell on_cell k c x.pvbn (hands e c x is there))) is

  kept_files : (e : Item) (x : Placed) → kept e ≡ true → all_met kept (files_met g e x) ≡ true
  kept_files e x is = kept_each (λ c. plain g no_more c.levels c x.pvbn) (pointers_under e x) (λ c there. kept_plain no_more (λ e x is. refl) c.levels c x.pvbn (hands e c x is there))

  pub kept_met : (label : ℕ) (r : Rooted) → kept (root_item r) ≡ true → all_met kept (met g label r) ≡ true
  unfolding met
  kept_met label r is = kept_plain (files_met g) kept_files r.levels (root_item r) label is

-- ---- nothing that a root meets stands above its tree

abbrev is_within : Item → Bool
is_within e = nat_le e.level e.levels

hands_within : (e c : Item) (x : Placed) → is_within e ≡ true → In c (pointers_under e x) → is_within c ≡ true
hands_within e c x is there = so (e.level == 0) refl
  where
    so : (b : Bool) → (e.level == 0) ≡ b → is_within c ≡ true
    so true low = let same = at_cell e c x low there in grind (arith, nat_tests, same)
    so false high =
        let at = in_node e c x high there in
        let fits : e.level ≤ e.levels = grind (arith, nat_tests, is) in
        let low : c.level ≤ c.levels = omega (arith, at.0, at.1, fits) in
        grind (arith, nat_tests, low)

within_root : (r : Rooted) → is_within (root_item r) ≡ true
within_root r = let test : nat_le r.levels r.levels ≡ true = grind (arith, nat_tests) in test

module _ (g : Ground) where
  abbrev greatest : Item → Placed → ℕ
  greatest e x = greatest_stamp (pointers_under e x)

  abbrev marks_of : Item → ℕ → Option Placed → List Fault
  marks_of e block at = if e.level == 0 then [] else option_map_or (λ x. unless (nat_le (greatest e x) e.pointer.stamp) (line 10 block (greatest e x) e.pointer.stamp)) at []

  abbrev mark_test : Item → Bool
  mark_test e = (e.level == 0) || option_map_or (λ x. nat_le (greatest e x) e.pointer.stamp) (place_at g e) true

  mark_says : (e : Item) (b : ℕ) → marks_of e b (place_at g e) ≡ [] → mark_test e ≡ true
  mark_says e b none = so (e.level == 0) (place_at g e) none
    where
      so : (z : Bool) (o : Option Placed) → (if z then [] else option_map_or (λ x. unless (nat_le (greatest e x) e.pointer.stamp) (line 10 b (greatest e x) e.pointer.stamp)) o []) ≡ [] → (z || option_map_or (λ x. nat_le (greatest e x) e.pointer.stamp) o true) ≡ true
      so true o none = refl
      so false None none = refl
      so false (Some x) none = holds_from (nat_le (greatest e x) e.pointer.stamp) _ none

  mark_silent : (e : Item) (b : ℕ) → mark_test e ≡ true → marks_of e b (place_at g e) ≡ []
  mark_silent e b is = so (e.level == 0) (place_at g e) is
    where
      so : (z : Bool) (o : Option Placed) → (z || option_map_or (λ x. nat_le (greatest e x) e.pointer.stamp) o true) ≡ true → (if z then [] else option_map_or (λ x. unless (nat_le (greatest e x) e.pointer.stamp) (line 10 b (greatest e x) e.pointer.stamp)) o []) ≡ []
      so true o is = refl
      so false None is = refl
      so false (Some x) is = none_from (nat_le (greatest e x) e.pointer.stamp) _ is

  weaker : (ps : List Spot) → all_met mark_test ps ≡ true → all_met (rises_over g) ps ≡ true
  weaker [] all = refl
  weaker (p ∷ ps) all =
      let parts = and_parts (mark_test p.0) _ all in
      and_from (rises_over g p.0) _ (so (p.0.level == 0) (nat_lt p.0.levels p.0.level) (option_map_or (λ x. nat_le (greatest p.0 x) p.0.pointer.stamp) (place_at g p.0) true) parts.0) (weaker ps parts.1)
    where
      so : (a b c : Bool) → (a || c) ≡ true → (a || (b || c)) ≡ true
      so true b c is = refl
      so false true c is = refl
      so false false c is = is

  stronger : (ps : List Spot) → all_met is_within ps ≡ true → all_met (rises_over g) ps ≡ true → all_met mark_test ps ≡ true
  stronger [] within all = refl
  stronger (p ∷ ps) within all =
      let fits = and_parts (is_within p.0) _ within in
      let parts = and_parts (rises_over g p.0) _ all in
      let not_above : nat_lt p.0.levels p.0.level ≡ false = (let low : p.0.level ≤ p.0.levels = grind (arith, nat_tests, fits.0) in grind (arith, nat_tests, low)) in
      and_from (mark_test p.0) _ (so (p.0.level == 0) (nat_lt p.0.levels p.0.level) (option_map_or (λ x. nat_le (greatest p.0 x) p.0.pointer.stamp) (place_at g p.0) true) not_above parts.0) (stronger ps fits.1 parts.1)
    where
      so : (a b c : Bool) → b ≡ false → (a || (b || c)) ≡ true → (a || c) ≡ true
      so true b c low is = refl
      so false true c low is = absurd cc
      so false false c low is = is

  pub marks_true : (label : ℕ) (r : Rooted) → IsClean (steps g label r) → flat_map mark_lines (steps g label r) ≡ [] → list_all (λ e. stays_under g e.item) (reached g r) ≡ true
  unfolding mark_lines
  marks_true label r clean none =
      list_all-map (λ e. stays_under g e.item) (reached_at g.view g.slot) (items (standing_of g.view g.slot r))
      ∙ reached_from (stays_under g) g r label (marks_down g label r (weaker (met g label r) (reached_to mark_test g r label (passes g marks_of mark_test mark_says mark_silent label r clean none))))

  pub no_mark_lines : (label : ℕ) (r : Rooted) → r.levels ≤ 2 → IsClean (steps g label r) → list_all (λ e. stays_under g e.item) (reached g r) ≡ true → flat_map mark_lines (steps g label r) ≡ []
  unfolding mark_lines
  no_mark_lines label r fits clean all =
      silent_where g marks_of mark_test mark_says mark_silent label r clean
      (reached_from mark_test g r label (stronger (met g label r) (kept_met g is_within hands_within label r (within_root r))
      (marks_up g label r fits (reached_to (stays_under g) g r label (sym (list_all-map (λ e. stays_under g e.item) (reached_at g.view g.slot) (items (standing_of g.view g.slot r))) ∙ all)))))
