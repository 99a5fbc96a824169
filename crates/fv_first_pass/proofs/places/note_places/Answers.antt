use Rattle.std.proofs.Common.{◌≡◌, [], subst}
use Rattle.std.specs.Prelude.{◌↔◌, IsTrue}
use Rattle.fv_root.specs.Finding.{root_found}
use Rattle.fv_image.specs.Layout.{root_place}
use Rattle.fv_faults.specs.Adding.{Adds}
use Rattle.fv_first_pass.specs.Passed.{places_to}
use Rattle.fv_first_pass.proofs.LabelPlaces.{places_added, places_none}
use Rattle.fv_first_pass.proofs.places.note_places.Goals as goal

pub returns-clause-adds : goal.returns-clause-adds
returns-clause-adds c = λ i. places_added (root_found c.args.found.now) i (root_place c.args.found.now.slot) c.args.lines.now c.note_all_places.new.lines
    (subst (λ at. Adds (places_to c.args.found.now.blocks at c.args.found.now.root.labels 64) c.args.lines.now c.note_all_places.new.lines) c.root_place.ensures
    c.in_ok-clean.ensures.adds)

pub returns-clause-clean : goal.returns-clause-clean
returns-clause-clean c = λ i. places_none (root_found c.args.found.now) i (root_place c.args.found.now.slot) c.in_ok-clean.clean
    (subst (λ at. IsTrue c.in_ok-clean.clean ↔ (places_to c.args.found.now.blocks at c.args.found.now.root.labels 64 ≡ [])) c.root_place.ensures
    c.in_ok-clean.ensures.clean)
