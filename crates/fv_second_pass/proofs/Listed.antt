-- Where the walk of a root finds nothing, its steps reach just the VVBNs that the root's table reaches.
use Rattle.std.proofs.Common.{◌≡◌, ℕ, ◌<◌, Bool, true, false, not, List, [], ◌∷◌, refl, sym, ap, ◌∙◌}
use Rattle.std.specs.Prelude.{◌||◌, ◌&&◌, ◌==◌}
use Rattle.std.specs.List.{list_all, list_any}
use Rattle.fv_bits.specs.Members.{is_member}
use Rattle.fv_tables.specs.Reached.{Item, items, is_listed}
use Rattle.fv_image.specs.Views.{Rooted}
use Rattle.fv_image.specs.Volumes.{standing_of}
use Rattle.fv_faults.specs.Met.{IsClean}
use Rattle.fv_faults.specs.Walks.{Ground, Step, has_reached, steps}
use Rattle.fv_faults.proofs.AllSteps.{steps_test}
use Rattle.fv_second_pass.specs.Reaching.{IsReach}

any_is : {X : Type 0} (p : X → Bool) (xs : List X) → list_any p xs ≡ not (list_all (λ x. not (p x)) xs)
any_is p [] = refl
any_is p (x ∷ xs) = so (p x) (any_is p xs)
  where
    so : (b : Bool) → list_any p xs ≡ not (list_all (λ x. not (p x)) xs) → (b || list_any p xs) ≡ not (not b && list_all (λ x. not (p x)) xs)
    so true later = refl
    so false later = later

module _ (g : Ground) (label : ℕ) (r : Rooted) (clean : IsClean (steps g label r)) where
  pub reached_is : (v : ℕ) → has_reached (steps g label r) v ≡ is_listed (items (standing_of g.view g.slot r)) v
  reached_is v =
      any_is (λ (s : Step). s.item.pointer.vvbn == v) (steps g label r)
      ∙ ap not (steps_test g (λ (e : Item). not (e.pointer.vvbn == v)) label r clean)
      ∙ sym (any_is (λ (e : Item). e.pointer.vvbn == v) (items (standing_of g.view g.slot r)))

  -- So a bit tells whether the table reaches a VVBN.
  pub bit_is : (reach : List Bool) → IsReach g (steps g label r) reach → (v : ℕ) → v < g.span → is_member reach v ≡ is_listed (items (standing_of g.view g.slot r)) v
  bit_is reach is v low = is.bits v low ∙ reached_is v
