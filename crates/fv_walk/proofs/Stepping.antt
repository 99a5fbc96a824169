-- Where a walk goes on from a block that was read.
use Rattle.std.proofs.Common.{◌≡◌, ℕ, false, List, [], sym, ap, ◌∙◌}
use Rattle.std.specs.Prelude.{Option, Some, None, map, flat_map}
use Rattle.fv_tables.specs.Reached.{Item}
use Rattle.fv_image.specs.Views.{Placed}
use Rattle.fv_faults.specs.Walks.{Ground, step, Step, block_lines, has_reached, met_in, pointers_under}
use Rattle.fv_faults.specs.Met.{place_at}
use Rattle.fv_walk.specs.declared.limits.Limits.{Limits}
use Rattle.fv_walk.specs.declared.source.Found.{Found}
use Rattle.fv_walk.specs.declared.visit.Visit.{Visit}
use Rattle.fv_walk.specs.Sources.{found_of}
use Rattle.fv_walk.specs.Visits.{item_of, leads_on, visit_of}
use Rattle.fv_walk.specs.Limiting.{IsLimitsOf}
use Rattle.fv_walk.specs.Blocks.{Outcome, at_place}
use Rattle.fv_walk.specs.Goings.{StepsTo}
use Rattle.fv_walk.proofs.Blocks.{block_of, no_lines, no_pointers, same_pointers}
use Rattle.fv_walk.proofs.Steps.{at_is, item_is, lines_of_block, ends_with}

module _ (l : Limits) (g : Ground) (e : Item) (block : ℕ) (done : List Step) (f : Found) (x : Placed) (body : List ℕ)
    (of : IsLimitsOf g l) (found : f ≡ found_of x) (same : body ≡ x.block) (fresh : has_reached done e.pointer.vvbn ≡ false) (is : place_at g e ≡ Some x) where
  pub steps_of : (o : Option (List Visit)) → Outcome l (flat_map met_in done) e f.pvbn body o → StepsTo (step g done e block) o
  steps_of None some =
      ends_with g e block done (block_lines g.view.blocks g.span (flat_map met_in done) e x) (lines_of_block g e block done x fresh is)
      (λ none. some (block_of l g (flat_map met_in done) e f x body of found same ∙ none))
  steps_of (Some all) goes = (
    x,
    at_is g e block done ∙ is,
    lines_of_block g e block done x fresh is ∙ sym (block_of l g (flat_map met_in done) e f x body of found same) ∙ goes.0,
    goes.1
        ∙ ap (λ (y : Found). map (λ (c : Item). visit_of (c, y.pvbn)) (pointers_under e (at_place y.pvbn body))) found
        ∙ ap (λ (b : List ℕ). map (λ (c : Item). visit_of (c, x.pvbn)) (pointers_under e (at_place x.pvbn b))) same
        ∙ ap (map (λ (c : Item). visit_of (c, x.pvbn))) (same_pointers e x ∙ ap (λ (d : Item). pointers_under d x) (sym (item_is g e block done))),
  )

-- below a data block there are none
pub data_steps : (g : Ground) (v : Visit) (done : List Step) (x : Placed) → leads_on v ≡ false → has_reached done v.pointer.vvbn ≡ false → place_at g (item_of v) ≡ Some x
    → StepsTo (step g done (item_of v) v.block) (Some [])
data_steps g v done x quiet fresh is = (
  x,
  at_is g (item_of v) v.block done ∙ is,
  lines_of_block g (item_of v) v.block done x fresh is ∙ no_lines v x quiet g.view.blocks g.span (flat_map met_in done),
  sym (ap (map (λ (c : Item). visit_of (c, x.pvbn))) (ap (λ e. pointers_under e x) (item_is g (item_of v) v.block done) ∙ no_pointers v x quiet)),
)
