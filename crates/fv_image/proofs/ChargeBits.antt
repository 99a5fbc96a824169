-- A table that leads to each VVBN from one position only leads to it from one place of one tree.
use Rattle.std.proofs.Common.{◌≡◌, ◌≢◌, ℕ, ◌≤◌, Bool, true, false, not, List, sym, ap, subst, ◌∙◌, arith}
use Rattle.std.specs.Prelude.{◌||◌, ◌==◌}
use Rattle.std.specs.List.{list_all}
use Rattle.std.proofs.lemmas.Bool.{and_parts}
use Rattle.std.proofs.lemmas.Bool.Decides.{nat_tests}
use Rattle.fv_codec.specs.declared.pointer.Pointer.{Pointer}
use Rattle.fv_model.specs.Places.{Owner}
use Rattle.fv_tables.specs.Spelled.{Under}
use Rattle.fv_tables.specs.Told.{standing_at}
use Rattle.fv_tables.specs.Reached.{Item, items}
use Rattle.fv_tables.proofs.TablePlaces.{pointer_in, at_place, one_owner}
use Rattle.fv_image.specs.ReachRules.{is_same_position}

module _ (u : Under) (levels : ℕ) (root : Pointer) (few : levels ≤ 2)
    (once : list_all (λ a. list_all (λ b. not (a.pointer.vvbn == b.pointer.vvbn) || is_same_position a b) (items (standing_at u levels root))) (items (standing_at u levels root)) ≡ true) where
  abbrev es_of : List Item
  es_of = items (standing_at u levels root)

  -- one VVBN is led to from one place
  pub led_once : (o k : Owner) (level index l j : ℕ) → (pointer_in u levels root o level index).stamp ≢ 0 → (pointer_in u levels root k l j).stamp ≢ 0 → (pointer_in u levels root k l j).vvbn ≡ (pointer_in u levels root o level index).vvbn → (k ≡ o) × ((l ≡ level) × (j ≡ index))
  led_once o k level index l j here there same =
      let row = at_place u levels root (λ a. list_all (λ b. not (a.pointer.vvbn == b.pointer.vvbn) || is_same_position a b) es_of) once o level index here in
      let pair = at_place u levels root (λ b. not (row.item.pointer.vvbn == b.pointer.vvbn) || is_same_position row.item b) row.passes k l j there in
      let vvbn : row.item.pointer.vvbn ≡ pair.item.pointer.vvbn = ap (λ (p : Pointer). p.vvbn) row.pointer ∙ sym same ∙ sym (ap (λ (p : Pointer). p.vvbn) pair.pointer) in
      let position : is_same_position row.item pair.item ≡ true = by (row.item.pointer.vvbn == pair.item.pointer.vvbn) (is_same_position row.item pair.item) (let equal : (row.item.pointer.vvbn == pair.item.pointer.vvbn) ≡ true = grind (arith, nat_tests, vvbn) in equal) pair.passes in
      let first = and_parts (row.item.owner == pair.item.owner) _ position in
      let second = and_parts (row.item.level == pair.item.level) (row.item.place == pair.item.place) first.1 in
      let owners : row.item.owner ≡ pair.item.owner = grind (arith, nat_tests, first.0) in
      let levels_are : row.item.level ≡ pair.item.level = grind (arith, nat_tests, second.0) in
      let places : row.item.place ≡ pair.item.place = grind (arith, nat_tests, second.1) in
      let at_level : l ≡ level = sym pair.level_is ∙ sym levels_are ∙ row.level_is in
      let at_index : j ≡ index = sym pair.place_is ∙ sym places ∙ row.place_is in
      let stands : (pointer_in u levels root k level index).stamp ≢ 0 = subst (λ (q : ℕ). (pointer_in u levels root k level q).stamp ≢ 0) at_index (subst (λ (q : ℕ). (pointer_in u levels root k q j).stamp ≢ 0) at_level there) in
      (one_owner u levels root few k o level index stands here (sym pair.owner ∙ sym owners ∙ row.owner), (at_level, at_index))
    where
      by : (a b : Bool) → a ≡ true → (not a || b) ≡ true → b ≡ true
      by true b e h = h
      by false b e h = absurd cc
