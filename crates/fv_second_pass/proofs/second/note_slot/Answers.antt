use Rattle.std.proofs.Common.{rules, ◌≡◌, get_or, refl, sym, subst, Ok}
use Rattle.std.specs.Prelude.{Some, None}
use Rattle.fv_root.specs.Finding.{root_found}
use Rattle.fv_faults.specs.Adding.{Adds}
use Rattle.fv_faults.proofs.Adding.{adds_none}
use Rattle.fv_second_pass.specs.Told.{shaped_label}
use Rattle.fv_second_pass.proofs.SlotSteps.{empty_lines, empty_reached, lines_are, reached_are}
use Rattle.fv_second_pass.proofs.Volumes.{label_read_is, no_head_in}
use Rattle.fv_second_pass.proofs.second.note_slot.Goals as goal

pub returns-in-Ok-clause-adds : goal.returns-in-Ok-clause-adds
returns-in-Ok-clause-adds g c = λ tells passed.
    let t = root_found c.args.root.now in
    let i = (g.D.Disk.shown c.args.disk.now).reads in
    let read : shaped_label (get_or c.args.known.now.labels.items c.args.slot None) ≡ Some c.in-Some.label.now = search rules in
    let is : get_or c.args.known.now.labels.items c.args.slot None ≡ Some (Ok c.in-Some.label.now) = label_read_is (get_or c.args.known.now.labels.items c.args.slot None) c.in-Some.label.now read in
    subst (λ ls. Adds ls c.args.lines.now c.walk_volume.new.lines) (sym (lines_are t i c.args.known.now passed c.args.slot c.requires.slot c.in-Some.label.now is))
    (c.in-Ok.ensures.adds tells (record { passed = passed; label = is }))

pub returns-in-Ok-clause-reach : goal.returns-in-Ok-clause-reach
returns-in-Ok-clause-reach g c = λ tells passed.
    let t = root_found c.args.root.now in
    let i = (g.D.Disk.shown c.args.disk.now).reads in
    let read : shaped_label (get_or c.args.known.now.labels.items c.args.slot None) ≡ Some c.in-Some.label.now = search rules in
    let is : get_or c.args.known.now.labels.items c.args.slot None ≡ Some (Ok c.in-Some.label.now) = label_read_is (get_or c.args.known.now.labels.items c.args.slot None) c.in-Some.label.now read in
    reached_are t i c.args.known.now passed c.args.slot c.requires.slot c.in-Some.label.now is c.in-Ok.maps (c.in-Ok.ensures.reach tells (record { passed = passed; label = is }))

pub returns-in_default-clause-adds : goal.returns-in_default-clause-adds
returns-in_default-clause-adds g c = λ tells passed.
    let none : shaped_label (get_or c.args.known.now.labels.items c.args.slot None) ≡ None = search rules in
    subst (λ ls. Adds ls c.args.lines.now c.args.lines.now)
    (sym (empty_lines (root_found c.args.root.now) (g.D.Disk.shown c.args.disk.now).reads c.args.known.now passed c.args.slot c.requires.slot (no_head_in (get_or c.args.known.now.labels.items c.args.slot None) none)))
    (adds_none c.args.lines.now c.args.lines.now refl)

pub returns-in_default-clause-reach : goal.returns-in_default-clause-reach
returns-in_default-clause-reach g c = λ tells passed.
    let none : shaped_label (get_or c.args.known.now.labels.items c.args.slot None) ≡ None = search rules in
    empty_reached (root_found c.args.root.now) (g.D.Disk.shown c.args.disk.now).reads c.args.known.now passed c.args.slot c.requires.slot (no_head_in (get_or c.args.known.now.labels.items c.args.slot None) none) None
