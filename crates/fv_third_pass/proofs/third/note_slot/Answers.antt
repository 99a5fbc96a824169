use Rattle.std.proofs.Common.{rules, ◌≡◌, get_or, refl, sym, subst}
use Rattle.std.specs.Prelude.{Some, None}
use Rattle.fv_root.specs.Finding.{root_found}
use Rattle.fv_faults.specs.Adding.{Adds}
use Rattle.fv_faults.specs.ThirdPass.{volume_lines}
use Rattle.fv_faults.proofs.Adding.{adds_none}
use Rattle.fv_third_pass.specs.Counted.{label_of}
use Rattle.fv_third_pass.specs.Surveys.{layout_of}
use Rattle.fv_third_pass.proofs.ThirdSlots.{label_known, none_said, some_said}
use Rattle.fv_third_pass.proofs.third.note_slot.Goals as goal

pub returns-in_default : goal.returns-in_default
returns-in_default g c = record {
  adds = λ tells walked.
      let x = c.args.survey.now in
      let none : label_of (get_or x.known.now.labels.items c.args.slot None) ≡ None = search rules in
      subst (λ ls. Adds ls c.args.lines c.args.lines)
      (sym (none_said (root_found x.root.now) (g.D.Disk.shown c.args.disk.now).reads x.known.now walked.passed c.args.slot c.requires.slot (volume_lines (layout_of x (g.D.Disk.shown c.args.disk.now).reads)) none))
      (adds_none c.args.lines c.args.lines refl);
  read = search rules;
}

pub returns : goal.returns
returns g c = record {
  adds = λ tells walked.
      let x = c.args.survey.now in
      let read : label_of (get_or x.known.now.labels.items c.args.slot None) ≡ Some c.in-Some.label.now = search rules in
      let is = label_known (get_or x.known.now.labels.items c.args.slot None) c.in-Some.label.now read in
      subst (λ ls. Adds ls c.args.lines c.in_ok-noted.noted)
      (sym (some_said (root_found x.root.now) (g.D.Disk.shown c.args.disk.now).reads x.known.now walked.passed c.args.slot c.requires.slot (volume_lines (layout_of x (g.D.Disk.shown c.args.disk.now).reads)) c.in-Some.label.now is))
      (c.in_ok-noted.ensures.adds tells (record { walked = walked; label = is }));
  read = c.in_ok-noted.ensures.read;
}
