use Rattle.std.proofs.Common.{rules, ◌≡◌, refl, subst}
use Rattle.fv_image.specs.Layout.{root_place}
use Rattle.fv_faults.specs.Adding.{Adds}
use Rattle.fv_faults.specs.FourthPass.{commit_lines, room_lines}
use Rattle.fv_first_pass.specs.Heads.{HasLabels}
use Rattle.fv_third_pass.specs.Surveys.{layout_of}
use Rattle.fv_fourth_pass.specs.Spaced.{HasUses}
use Rattle.fv_fourth_pass.specs.Summed.{AreSums}
use Rattle.fv_fourth_pass.proofs.Slots.{pass_added}
use Rattle.fv_fourth_pass.proofs.Summing.{delayed_all, has_uses, own_all, sums_first}
use Rattle.fv_fourth_pass.proofs.pass.pass_four.Goals as goal

pub returns : goal.returns
unfolding Rattle.fv_image.specs.Held.layout_at Rattle.fv_image.specs.Held.view_at
returns g c = record {
  adds = λ tells silent.
      let x = c.args.survey.now in
      let y = layout_of x (g.D.Disk.shown c.args.disk.now).reads in
      let root = root_place x.root.now.slot in
      let sums = c.note_slots.new.sums in
      let noted = c.in_ok-noted.noted in
      let one = c.note_commits.new.lines in
      let two = c.note_room.new.lines in
      let are : AreSums y.view 64 sums = c.in_ok-noted.ensures.sums tells silent (sums_first y.view _ refl refl) in
      let heads : HasLabels y x.known.now.labels.items = silent.walked.passed.spells.heads in
      let counted : HasUses y.view sums.uses.items = has_uses y.view sums are in
      let first : HasLabels y c.deref.result.now = search rules in
      let uses : HasUses y.view c.deref-2.result.now = search rules in
      let second : HasLabels y c.deref-3.result.now = search rules in
      let place : c.root_place-at.result ≡ root = search rules in
      pass_added y root c.args.lines noted one two
      (c.in_ok-noted.ensures.passes.adds tells silent)
      (subst (λ n. Adds (commit_lines n y.view) noted one) place (c.in_ok-note_commits.ensures y first refl uses))
      (subst (λ n. Adds (room_lines n y.view) one two) place (c.in_ok-note_room.ensures y second refl (own_all y.view sums are) (delayed_all y.view sums are)));
  read = search rules;
}
