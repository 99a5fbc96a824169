use Rattle.std.proofs.Common.{rules, ◌≡◌, [], ◌∷◌, get_or, sym, ap, subst, ◌∙◌, Ok, Err}
use Rattle.std.specs.Prelude.{None, Some}
use Rattle.fv_image.specs.Held.{layout_at}
use Rattle.fv_root.specs.Finding.{root_found}
use Rattle.fv_faults.specs.Adding.{Adds}
use Rattle.fv_faults.specs.Lines.{line}
use Rattle.fv_faults.specs.FirstPass.{read_lines}
use Rattle.fv_first_pass.proofs.OneSlot.{empty_row, label_here, read_slot_lines}
use Rattle.fv_first_pass.proofs.slots.read_slot.Goals as goal

pub returns-in-None-clause-row : goal.returns-in-None-clause-row
returns-in-None-clause-row g c = λ tells has quiet.
    empty_row (root_found c.args.found.now) (g.D.Disk.shown c.args.disk.now).reads c.args.labels.now has c.args.slot c.requires.slot
    (subst (λ n. get_or c.args.labels.now n None ≡ None) c.from-2.ensures c.in-None.is)

pub returns-in_ok-note_shape-in-Some-Err-clause-adds : goal.returns-in_ok-note_shape-in-Some-Err-clause-adds
returns-in_ok-note_shape-in-Some-Err-clause-adds g c = λ tells has.
    let shape = c.in-Some-Err.shape in
    let is : get_or c.args.labels.now c.args.slot None ≡ Some (Err c.in-Some-Err.shape) = search rules in
    let read = read_slot_lines (root_found c.args.found.now) (g.D.Disk.shown c.args.disk.now).reads c.args.labels.now has c.args.slot c.requires.slot (Err shape)
    is in
    subst (λ ls. Adds ls c.args.lines.now c.note_shape.new.lines) (sym read)
    (subst (λ n. Adds (line 1 (get_or c.args.found.now.root.labels n 0) shape.want shape.found ∷ []) c.args.lines.now c.note_shape.new.lines) c.from.ensures
    c.in_ok-note_shape-in-Some-Err.ensures)

pub returns-in_ok-row-in-Some-Ok-clause-adds : goal.returns-in_ok-row-in-Some-Ok-clause-adds
returns-in_ok-row-in-Some-Ok-clause-adds g c = λ tells has.
    let t = root_found c.args.found.now in
    let i = (g.D.Disk.shown c.args.disk.now).reads in
    let label = c.in-Some-Ok.label in
    let is : get_or c.args.labels.now c.args.slot None ≡ Some (Ok c.in-Some-Ok.label) = search rules in
    subst (λ ls. Adds ls c.args.lines.now c.read_volume.new.lines) (sym (read_slot_lines t i c.args.labels.now has c.args.slot c.requires.slot (Ok label) is))
    (subst (λ at. Adds (read_lines (layout_at t i) c.args.slot at (Ok label)) c.args.lines.now c.read_volume.new.lines)
    (c.from-in-Some-Ok.ensures ∙ ap (λ n. get_or c.args.found.now.root.labels n 0) c.from.ensures)
    (c.in_ok-row-in-Some-Ok.ensures.adds tells t (label_here t i c.args.labels.now has c.args.slot c.requires.slot label is)))

pub returns-in_ok-row-in-Some-Ok-clause-row : goal.returns-in_ok-row-in-Some-Ok-clause-row
returns-in_ok-row-in-Some-Ok-clause-row g c = λ tells has quiet.
    let t = root_found c.args.found.now in
    let i = (g.D.Disk.shown c.args.disk.now).reads in
    let label = c.in-Some-Ok.label in
    let is : get_or c.args.labels.now c.args.slot None ≡ Some (Ok c.in-Some-Ok.label) = search rules in
    c.in_ok-row-in-Some-Ok.ensures.row tells t (label_here t i c.args.labels.now has c.args.slot c.requires.slot label is)
    (ap (λ at. read_lines (layout_at t i) c.args.slot at (Ok label)) (c.from-in-Some-Ok.ensures ∙ ap (λ n. get_or c.args.found.now.root.labels n 0) c.from.ensures)
    ∙ sym (read_slot_lines t i c.args.labels.now has c.args.slot c.requires.slot (Ok label) is) ∙ quiet)
