use Rattle.std.proofs.Common.{rules, ◌≡◌, ◌-◌, get_or, sym}
use Rattle.std.specs.Prelude.{Some, None}
use Rattle.fv_disk.proofs.Reading.{reads_whole}
use Rattle.fv_walk.specs.Visits.{rooted}
use Rattle.fv_third_pass.specs.Counted.{label_of}
use Rattle.fv_third_pass.proofs.BaseParts.{base_slots, has_parent, has_table, none_noted, some_noted}
use Rattle.fv_third_pass.proofs.WholeVolume.{root, some_blocks}
use Rattle.fv_third_pass.proofs.third.note_base.Goals as goal

pub returns-then-label-eq0-clause-adds : goal.returns-then-label-eq0-clause-adds
returns-then-label-eq0-clause-adds g c = λ tells done has is.
    let v = c.args.volume.now in
    let x = v.survey.now in
    let l = v.label.now in
    let fits = c.requires in
    let disk = g.D.Disk.shown c.args.disk.now in
    let long = reads_whole disk (g.met.D.Disk.laws c.args.disk.now) tells in
    none_noted (root v fits) disk.reads long (some_blocks v fits) x.known.now x.reached.now is.walked v.slot fits.slot l is.label
    c.if-label-eq0.true l.now done c.args.judge.lines

pub returns-in_default-clause-adds : goal.returns-in_default-clause-adds
returns-in_default-clause-adds g c = λ tells done has is.
    let v = c.args.volume.now in
    let x = v.survey.now in
    let l = v.label.now in
    let fits = c.requires in
    let disk = g.D.Disk.shown c.args.disk.now in
    let long = reads_whole disk (g.met.D.Disk.laws c.args.disk.now) tells in
    let none : label_of (get_or x.known.now.labels.items (l.parent - 1) None) ≡ None = search rules in
    absurd (has_parent (root v fits) disk.reads long (some_blocks v fits) x.known.now x.reached.now is.walked v.slot fits.slot l is.label
    c.if-label-eq0.false none)

pub returns-in_default-snap_table-clause-adds : goal.returns-in_default-snap_table-clause-adds
returns-in_default-snap_table-clause-adds g c = λ tells done has is.
    let v = c.args.volume.now in
    let x = v.survey.now in
    let l = v.label.now in
    let fits = c.requires in
    let disk = g.D.Disk.shown c.args.disk.now in
    let long = reads_whole disk (g.met.D.Disk.laws c.args.disk.now) tells in
    let bounds = base_slots l c.if-label-eq0.false fits.label in
    let read : label_of (get_or x.known.now.labels.items (l.parent - 1) None) ≡ Some c.in-Some.parent.now = search rules in
    absurd (has_table (root v fits) disk.reads long (some_blocks v fits) x.known.now x.reached.now is.walked v.slot fits.slot l is.label
    c.if-label-eq0.false c.in-Some.parent.now read (sym (c.in_default-snap_table.ensures.table bounds.0 bounds.1)))

pub returns-in-Ok-clause-adds : goal.returns-in-Ok-clause-adds
returns-in-Ok-clause-adds g c = λ tells done has is.
    let v = c.args.volume.now in
    let x = v.survey.now in
    let l = v.label.now in
    let fits = c.requires in
    let disk = g.D.Disk.shown c.args.disk.now in
    let long = reads_whole disk (g.met.D.Disk.laws c.args.disk.now) tells in
    let bounds = base_slots l c.if-label-eq0.false fits.label in
    let read : label_of (get_or x.known.now.labels.items (l.parent - 1) None) ≡ Some c.in-Some.parent.now = search rules in
    some_noted (root v fits) disk.reads long (some_blocks v fits) x.known.now x.reached.now is.walked v.slot fits.slot l is.label
    c.if-label-eq0.false c.in-Some.parent.now (rooted c.in-Some-snap_table.table) read (c.in-Some-snap_table.ensures.table bounds.0 bounds.1)
    l.now done c.args.judge.lines c.in-Ok.lines (λ labelled clean. c.in-Ok.ensures.adds tells labelled done has clean)
