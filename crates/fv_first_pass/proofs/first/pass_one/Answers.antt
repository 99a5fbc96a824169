use Rattle.std.proofs.Common.{refl, sym, subst}
use Rattle.fv_disk.specs.Shown.{Image}
use Rattle.fv_faults.specs.Adding.{Adds}
use Rattle.fv_first_pass.specs.Heads.{HasLabels}
use Rattle.fv_first_pass.specs.Passed.{slots_to}
use Rattle.fv_image.specs.Layout.{root_place}
use Rattle.fv_image.specs.Held.{layout_at}
use Rattle.fv_root.specs.Finding.{root_found}
use Rattle.fv_first_pass.proofs.Passing.{AreRows, all_spelled, first_adds, first_stopped, never_spelled}
use Rattle.fv_first_pass.proofs.first.pass_one.Goals as goal

pub returns-then-not-clean-clause-adds : goal.returns-then-not-clean-clause-adds
returns-then-not-clean-clause-adds g c = λ tells.
    let i = (g.D.Disk.shown c.args.disk.now).reads in
    let t = root_found c.args.found.now in
    first_stopped (layout_at t i) (root_place c.args.found.now.slot) c.in_ok-clean.clean c.args.lines.now c.note_places.new.lines (c.in_ok-clean.ensures.clean i) c.if-not-clean.true
    (c.in_ok-clean.ensures.adds i)

pub returns-then-not-clean-clause-spells : goal.returns-then-not-clean-clause-spells
returns-then-not-clean-clause-spells g c = λ tells none.
    never_spelled (root_found c.args.found.now) (g.D.Disk.shown c.args.disk.now).reads (root_place c.args.found.now.slot) _ _ c.in_ok-clean.clean
    (c.in_ok-clean.ensures.clean (g.D.Disk.shown c.args.disk.now).reads) c.if-not-clean.true none

pub returns-clause-adds : goal.returns-clause-adds
returns-clause-adds g c = λ tells.
    let i = (g.D.Disk.shown c.args.disk.now).reads in
    let t = root_found c.args.found.now in
    first_adds (layout_at t i) (root_place c.args.found.now.slot) c.in_ok-clean.clean c.args.lines.now c.note_places.new.lines c.read_slots.new.lines
    (c.in_ok-clean.ensures.clean i) c.if-not-clean.false (c.in_ok-clean.ensures.adds i)
    (subst (λ (j : Image). HasLabels (layout_at t j) c.in_ok-labels.labels.items → Adds (slots_to (layout_at t j) 64) c.note_places.new.lines c.read_slots.new.lines)
    c.in_ok-labels.ensures.read.only_reads.stays.reads
    (λ has. c.in_ok-rows.ensures.adds (rw c.in_ok-labels.ensures.read.only_reads.stays.tells tells) (subst (HasLabels _) (sym c.deref.ensures.value) has))
    (c.in_ok-labels.ensures.labels tells t refl))

pub returns-clause-spells : goal.returns-clause-spells
returns-clause-spells g c = λ tells none.
    let i = (g.D.Disk.shown c.args.disk.now).reads in
    let t = root_found c.args.found.now in
    let has = c.in_ok-labels.ensures.labels tells t refl in
    all_spelled t i (root_place c.args.found.now.slot) c.in_ok-labels.labels.items c.in_ok-rows.rows.items has
    (subst (λ (j : Image). HasLabels (layout_at t j) c.in_ok-labels.labels.items → AreRows t j c.in_ok-rows.rows.items 64)
    c.in_ok-labels.ensures.read.only_reads.stays.reads
    (λ has. c.in_ok-rows.ensures.rows (rw c.in_ok-labels.ensures.read.only_reads.stays.tells tells) (subst (HasLabels _) (sym c.deref.ensures.value) has))
    has)
    none
