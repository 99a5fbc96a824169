use Rattle.std.proofs.Common.{rules, ◌≡◌, get_or, refl, sym, subst, ◌∙◌}
use Rattle.std.specs.Prelude.{Some, None}
use Rattle.fv_image.specs.Held.{layout_at}
use Rattle.fv_image.specs.Views.{head_of}
use Rattle.fv_root.specs.Finding.{root_found}
use Rattle.fv_faults.specs.Adding.{Adds}
use Rattle.fv_faults.proofs.Adding.{adds_none}
use Rattle.fv_second_pass.proofs.Volumes.{head_is, head_there}
use Rattle.fv_third_pass.specs.Counted.{label_of}
use Rattle.fv_third_pass.proofs.ThirdSlots.{label_known, no_head, none_said, some_said}
use Rattle.fv_fourth_pass.specs.Noted.{volume_lines}
use Rattle.fv_fourth_pass.proofs.Summing.{longer, no_space, some_space, still_within, sums_next}
use Rattle.fv_fourth_pass.proofs.pass.note_slot.Goals as goal

pub returns-in_default-clause-passes : goal.returns-in_default-clause-passes
returns-in_default-clause-passes g c = record {
  adds = λ tells silent.
      let x = c.args.survey.now in
      let t = root_found x.root.now in
      let i = (g.D.Disk.shown c.args.disk.now).reads in
      let none : label_of (get_or x.known.now.labels.items c.args.slot None) ≡ None = search rules in
      subst (λ ls. Adds ls c.args.lines c.args.lines)
      (sym (none_said t i x.known.now silent.walked.passed c.args.slot c.requires.slot (volume_lines (layout_at t i).view) none))
      (adds_none c.args.lines c.args.lines refl);
  read = search rules;
}

pub returns-in_default-clause-sums : goal.returns-in_default-clause-sums
returns-in_default-clause-sums g c = λ tells silent are.
    let x = c.args.survey.now in
    let t = root_found x.root.now in
    let i = (g.D.Disk.shown c.args.disk.now).reads in
    let w = (layout_at t i).view in
    let none : label_of (get_or x.known.now.labels.items c.args.slot None) ≡ None = search rules in
    sums_next c.args.sums.now c.add_space.new.sums _ c.args.slot c.requires.at c.in_ok-add_space.ensures.uses c.in_ok-add_space.ensures.own c.in_ok-add_space.ensures.delayed w are
    (no_space w c.args.slot _ (head_is t i x.known.now silent.walked.passed c.args.slot c.requires.slot ∙ no_head (get_or x.known.now.labels.items c.args.slot None) none) refl refl)

pub returns-in_default-clause-at : goal.returns-in_default-clause-at
returns-in_default-clause-at g c = longer c.args.sums.now c.add_space.new.sums _ c.args.slot c.requires.at c.in_ok-add_space.ensures.uses c.in_ok-add_space.ensures.own c.in_ok-add_space.ensures.delayed

pub returns-in_default-clause-within : goal.returns-in_default-clause-within
returns-in_default-clause-within g c =
    still_within c.args.sums.now c.add_space.new.sums _ c.args.slot c.requires.at c.in_ok-add_space.ensures.uses c.in_ok-add_space.ensures.own c.in_ok-add_space.ensures.delayed
    c.requires.within (search rules)

pub returns-clause-passes : goal.returns-clause-passes
returns-clause-passes g c = record {
  adds = λ tells silent.
      let x = c.args.survey.now in
      let t = root_found x.root.now in
      let i = (g.D.Disk.shown c.args.disk.now).reads in
      let read : label_of (get_or x.known.now.labels.items c.args.slot None) ≡ Some c.in-Some.label.now = search rules in
      let is = label_known (get_or x.known.now.labels.items c.args.slot None) c.in-Some.label.now read in
      subst (λ ls. Adds ls c.args.lines c.in_ok-noted.noted.lines)
      (sym (some_said t i x.known.now silent.walked.passed c.args.slot c.requires.slot (volume_lines (layout_at t i).view) c.in-Some.label.now is))
      (c.in_ok-noted.ensures.adds tells (record { silent = silent; label = is }));
  read = record { only_reads = c.in_ok-noted.ensures.read.only_reads; cause = c.in_ok-noted.ensures.read.cause };
}

pub returns-clause-sums : goal.returns-clause-sums
returns-clause-sums g c = λ tells silent are.
    let x = c.args.survey.now in
    let t = root_found x.root.now in
    let i = (g.D.Disk.shown c.args.disk.now).reads in
    let w = (layout_at t i).view in
    let s = c.args.slot in
    let l = c.in-Some.label.now in
    let read : label_of (get_or x.known.now.labels.items s None) ≡ Some l = search rules in
    let is = label_known (get_or x.known.now.labels.items s None) l read in
    sums_next c.args.sums.now c.add_space-2.new.sums c.in_ok-noted.noted.space s c.requires.at c.in_ok-add_space-2.ensures.uses c.in_ok-add_space-2.ensures.own c.in_ok-add_space-2.ensures.delayed w are
    (some_space w s c.in_ok-noted.noted.space (head_of l) (head_there t i x.known.now silent.walked.passed s c.requires.slot l is)
    (c.in_ok-noted.ensures.space tells (record { silent = silent; label = is })))

pub returns-clause-at : goal.returns-clause-at
returns-clause-at g c = longer c.args.sums.now c.add_space-2.new.sums c.in_ok-noted.noted.space c.args.slot c.requires.at c.in_ok-add_space-2.ensures.uses c.in_ok-add_space-2.ensures.own c.in_ok-add_space-2.ensures.delayed

pub returns-clause-within : goal.returns-clause-within
returns-clause-within g c =
    still_within c.args.sums.now c.add_space-2.new.sums c.in_ok-noted.noted.space c.args.slot c.requires.at c.in_ok-add_space-2.ensures.uses c.in_ok-add_space-2.ensures.own c.in_ok-add_space-2.ensures.delayed
    c.requires.within c.in_ok-noted.ensures.within
