-- Rule 2 of pointers: what blocks say of the pointers in them, and that each pointer that a root reaches is in range.
use Rattle.std.proofs.Common.{◌≡◌, ◌≢◌, ℕ, ◌-◌, ◌<◌, ◌≤◌, Bool, true, false, List, [], ◌∷◌, ◌++◌, inl, inr, refl, sym, ap, subst, ◌∙◌, arith, ⊎_elim, Ok, Err}
use Rattle.std.specs.Prelude.{Option, Some, None, flat_map, ◌&&◌, ◌||◌, ◌==◌, nat_lt, nat_le, if◌then◌else◌}
use Rattle.std.specs.Option.{option_map_or}
use Rattle.std.proofs.lemmas.Bool.{and_parts, and_from, or_left, or_right, cases_eq}
use Rattle.std.proofs.lemmas.Bool.Decides.{nat_tests}
use Rattle.fv_codec.specs.declared.pointer.Pointer.{Pointer}
use Rattle.fv_codec.specs.Fields.{in_range}
use Rattle.fv_model.specs.Machines.{first_block}
use Rattle.fv_laws.proofs.Lists.{In}
use Rattle.fv_tables.specs.Reached.{Item}
use Rattle.fv_image.specs.Views.{Placed, Rooted}
use Rattle.fv_image.specs.ReachRules.{is_hint}
use Rattle.fv_faults.specs.declared.fault.Fault.{Fault}
use Rattle.fv_faults.specs.Lines.{says, within, leads}
use Rattle.fv_faults.specs.Walks.{Ground, pointer_lines, pointers_under, root_item}
use Rattle.fv_faults.proofs.Clean.{parts_nil, nil_parts, none_of_each, each_none}
use Rattle.fv_faults.proofs.Plain.{place_at, met}
use Rattle.fv_faults.proofs.Members.{all_met}
use Rattle.fv_faults.proofs.Bridge.{met_down, met_up}

-- a number within its bounds
pub says_within : (block least most x : ℕ) → says 2 block (in_range least most x) ≡ [] → (nat_le least x && nat_le x most) ≡ true
says_within block least most x none = so (nat_lt x least) refl (nat_lt most x) refl none
  where
    so : (l : Bool) → nat_lt x least ≡ l → (h : Bool) → nat_lt most x ≡ h → says 2 block (if l then Err (record { want = least; found = x }) else if h then Err (record { want = most; found = x }) else Ok tt) ≡ [] → (nat_le least x && nat_le x most) ≡ true
    so true i h j none = absurd cc
    so false i true j none = absurd cc
    so false i false j none =
        let low : nat_le least x ≡ true = grind (arith, nat_tests, i) in
        let high : nat_le x most ≡ true = grind (arith, nat_tests, j) in
        and_from (nat_le least x) _ low high

pub within_says : (block least most x : ℕ) → (nat_le least x && nat_le x most) ≡ true → says 2 block (in_range least most x) ≡ []
within_says block least most x is =
    let parts = and_parts (nat_le least x) _ is in
    let test = parts.0 in
    let other = parts.1 in
    let low : nat_lt x least ≡ false = grind (arith, nat_tests, test) in
    let high : nat_lt most x ≡ false = grind (arith, nat_tests, other) in
    rw (low, high) refl

module _ (blocks span : ℕ) (some_span : 0 < span) (some_blocks : 0 < blocks) where
  -- as soundness tests it
  abbrev pub is_pointer : Pointer → Bool
  is_pointer p = nat_lt p.vvbn span && is_hint blocks p.pvbn

  pub from_lines : (block : ℕ) (p : Pointer) → p.stamp ≢ 0 → pointer_lines blocks span block p ≡ [] → is_pointer p ≡ true
  from_lines block p some none =
      let stands : (p.stamp == 0) ≡ false = grind (arith, nat_tests, some) in
      let parts = parts_nil (within block 0 (span - 1) p.vvbn) _ (sym (ap (λ (b : Bool). if b then [] else within block 0 (span - 1) p.vvbn ++ (if p.pvbn == 0 then [] else leads blocks block p.pvbn)) stands) ∙ none) in
      let vvbn = (and_parts (nat_le 0 p.vvbn) _ (says_within block 0 (span - 1) p.vvbn parts.0)).1 in
      let below : nat_lt p.vvbn span ≡ true = grind (arith, nat_tests, vvbn, some_span) in
      and_from (nat_lt p.vvbn span) _ below (so (p.pvbn == 0) refl parts.1)
    where
      so : (b : Bool) → (p.pvbn == 0) ≡ b → (if b then [] else leads blocks block p.pvbn) ≡ [] → is_hint blocks p.pvbn ≡ true
      so true e none = or_left (p.pvbn == 0) _ e
      so false e none =
          let both = and_parts (nat_le (first_block blocks) p.pvbn) _ (says_within block (first_block blocks) (blocks - 1) p.pvbn none) in
          let most = both.1 in
          let high : nat_lt p.pvbn blocks ≡ true = grind (arith, nat_tests, most, some_blocks) in
          or_right (p.pvbn == 0) _ (and_from (nat_le (first_block blocks) p.pvbn) _ both.0 high)

  pub to_lines : (block : ℕ) (p : Pointer) → (p.stamp ≢ 0 → is_pointer p ≡ true) → pointer_lines blocks span block p ≡ []
  to_lines block p is = ⊎_elim
      (λ (none : p.stamp ≡ 0). let hole_is : (p.stamp == 0) ≡ true = grind (arith, nat_tests, none) in ap (λ (b : Bool). if b then [] else within block 0 (span - 1) p.vvbn ++ (if p.pvbn == 0 then [] else leads blocks block p.pvbn)) hole_is)
      (λ (some : p.stamp ≢ 0).
      let stands : (p.stamp == 0) ≡ false = grind (arith, nat_tests, some) in
      let parts = and_parts (nat_lt p.vvbn span) _ (is some) in
      let test = parts.0 in
      let low : nat_le 0 p.vvbn ≡ true = grind (arith, nat_tests) in
      let high : nat_le p.vvbn (span - 1) ≡ true = grind (arith, nat_tests, test) in
      ap (λ (b : Bool). if b then [] else within block 0 (span - 1) p.vvbn ++ (if p.pvbn == 0 then [] else leads blocks block p.pvbn)) stands
      ∙ nil_parts (within block 0 (span - 1) p.vvbn) _ (within_says block 0 (span - 1) p.vvbn (and_from (nat_le 0 p.vvbn) _ low high)) (so (p.pvbn == 0) refl parts.1))
      (cases_eq p.stamp 0)
    where
      so : (b : Bool) → (p.pvbn == 0) ≡ b → (b || (nat_le (first_block blocks) p.pvbn && nat_lt p.pvbn blocks)) ≡ true → (if b then [] else leads blocks block p.pvbn) ≡ []
      so true e is = refl
      so false e is =
          let both = and_parts (nat_le (first_block blocks) p.pvbn) _ is in
          let test = both.1 in
          let high : nat_le p.pvbn (blocks - 1) ≡ true = grind (arith, nat_tests, test) in
          within_says block (first_block blocks) (blocks - 1) p.pvbn (and_from (nat_le (first_block blocks) p.pvbn) _ both.0 high)

  -- ---- of the pointers in a block

  abbrev pub no_lines : List Fault → Bool
  no_lines [] = true
  no_lines (f ∷ fs) = false

  pub nil_is : (fs : List Fault) → no_lines fs ≡ true → fs ≡ []
  nil_is [] e = refl
  nil_is (f ∷ fs) e = absurd cc

  module _ (g : Ground) where
    abbrev pub holds_pointers : Item → Bool
    holds_pointers e = option_map_or (λ x. no_lines (flat_map (λ c. pointer_lines blocks span x.pvbn c.pointer) (pointers_under e x))) (place_at g e) true

    abbrev pub is_ranged : Item → Bool
    is_ranged e = (e.pointer.stamp == 0) || is_pointer e.pointer

    down : (e : Item) (x : Placed) → e.pointer.stamp ≢ 0 → place_at g e ≡ Some x → holds_pointers e ≡ true → (c : Item) → In c (pointers_under e x) → is_ranged c ≡ true
    down e x some found holds c there = ⊎_elim
        (λ (none : c.pointer.stamp ≡ 0). or_left (c.pointer.stamp == 0) _ (let hole_is : (c.pointer.stamp == 0) ≡ true = grind (arith, nat_tests, none) in hole_is))
        (λ (stands : c.pointer.stamp ≢ 0). or_right (c.pointer.stamp == 0) _ (from_lines x.pvbn c.pointer stands
        (none_of_each (λ c. pointer_lines blocks span x.pvbn c.pointer) (pointers_under e x) (nil_is _ (sym (ap (λ (o : Option Placed). option_map_or (λ x. no_lines (flat_map (λ c. pointer_lines blocks span x.pvbn c.pointer) (pointers_under e x))) o true) found) ∙ holds)) c there)))
        (cases_eq c.pointer.stamp 0)

    back : (e : Item) (x : Placed) → e.pointer.stamp ≢ 0 → place_at g e ≡ Some x → ((c : Item) → In c (pointers_under e x) → c.pointer.stamp ≢ 0 → is_ranged c ≡ true) → holds_pointers e ≡ true
    back e x some found each =
        ap (λ (o : Option Placed). option_map_or (λ x. no_lines (flat_map (λ c. pointer_lines blocks span x.pvbn c.pointer) (pointers_under e x))) o true) found
        ∙ ap no_lines (each_none (λ c. pointer_lines blocks span x.pvbn c.pointer) (pointers_under e x) (λ c there. to_lines x.pvbn c.pointer (λ stands. so c.pointer (c.pointer.stamp == 0) refl stands (each c there stands))))
      where
        so : (p : Pointer) (b : Bool) → (p.stamp == 0) ≡ b → p.stamp ≢ 0 → (b || is_pointer p) ≡ true → is_pointer p ≡ true
        so p true e stands is = absurd (let none : p.stamp ≡ 0 = grind (arith, nat_tests, e) in stands none)
        so p false e stands is = is

    alone : (e : Item) → place_at g e ≡ None → holds_pointers e ≡ true
    alone e none = ap (λ (o : Option Placed). option_map_or (λ x. no_lines (flat_map (λ c. pointer_lines blocks span x.pvbn c.pointer) (pointers_under e x))) o true) none

    -- Where the root's pointer is in range, blocks say nothing of the pointers in them exactly where each pointer that is met is in range.
    pub ranged : (label : ℕ) (r : Rooted) → is_ranged (root_item r) ≡ true → all_met holds_pointers (met g label r) ≡ true → all_met is_ranged (met g label r) ≡ true
    ranged label r root all = met_down g holds_pointers is_ranged down label r root all

    pub holds_ranged : (label : ℕ) (r : Rooted) → r.levels ≤ 2 → all_met is_ranged (met g label r) ≡ true → all_met holds_pointers (met g label r) ≡ true
    holds_ranged label r fits all = met_up g holds_pointers is_ranged back alone label r fits all
