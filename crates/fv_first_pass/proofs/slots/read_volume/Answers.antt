use Rattle.fv_image.specs.Held.{layout_at}
use Rattle.fv_disk.proofs.Reading.{reads_whole}
use Rattle.fv_first_pass.proofs.OneSlot.{has_labels, label_in_slot, stopped_adds, stopped_row, volume_adds, volume_row}
use Rattle.fv_first_pass.proofs.slots.read_volume.Goals as goal

pub returns-then-not-clean-clause-adds : goal.returns-then-not-clean-clause-adds
returns-then-not-clean-clause-adds g c = λ tells t here.
    let i = (g.D.Disk.shown c.args.disk.now).reads in
    let labels = c.args.labels.now in
    let site = c.args.site.now in
    stopped_adds t i labels site c.args.at here c.args.lines.now c.note_base.new.lines
    (c.in_ok-note_base.ensures (layout_at t i) (has_labels t i labels site c.args.at here)) c.in_ok-clean.clean
    (c.in_ok-clean.ensures.clean (layout_at t i) (label_in_slot t i labels site c.args.at here)) c.note_stops.new.lines c.if-not-clean.true
    (c.in_ok-clean.ensures.adds (layout_at t i) (label_in_slot t i labels site c.args.at here))

pub returns-then-not-clean-clause-row : goal.returns-then-not-clean-clause-row
returns-then-not-clean-clause-row g c = λ tells t here none.
    let i = (g.D.Disk.shown c.args.disk.now).reads in
    stopped_row t i c.args.labels.now c.args.site.now c.args.at here c.in_ok-clean.clean _
    (c.in_ok-clean.ensures.clean (layout_at t i) (label_in_slot t i c.args.labels.now c.args.site.now c.args.at here)) c.if-not-clean.true none

pub returns-clause-adds : goal.returns-clause-adds
returns-clause-adds g c = λ tells t here.
    let i = (g.D.Disk.shown c.args.disk.now).reads in
    let labels = c.args.labels.now in
    let site = c.args.site.now in
    volume_adds t i labels site c.args.at here c.args.lines.now c.note_base.new.lines
    (c.in_ok-note_base.ensures (layout_at t i) (has_labels t i labels site c.args.at here)) c.in_ok-clean.clean
    (c.in_ok-clean.ensures.clean (layout_at t i) (label_in_slot t i labels site c.args.at here)) c.note_stops.new.lines c.read_container.new.lines c.if-not-clean.false
    (c.in_ok-clean.ensures.adds (layout_at t i) (label_in_slot t i labels site c.args.at here))
    (c.in_ok-row.ensures.adds tells t here.of)

pub returns-clause-row : goal.returns-clause-row
returns-clause-row g c = λ tells t here none.
    let i = (g.D.Disk.shown c.args.disk.now).reads in
    volume_row t i c.args.labels.now c.args.site.now c.args.at here
    (reads_whole (g.D.Disk.shown c.args.disk.now) (g.met.D.Disk.laws c.args.disk.now) tells) c.requires.site c.in_ok-row.row
    (c.in_ok-row.ensures.entries tells t here.of) none
