use Rattle.std.proofs.Common.{rules, ◌≡◌, [], subst, ◌∙◌, arith}
use Rattle.std.specs.Prelude.{IsTrue}
use Rattle.std.proofs.lemmas.List.{length_push}
use Rattle.fv_disk.specs.Shown.{Image}
use Rattle.fv_image.specs.Held.{layout_at}
use Rattle.fv_root.specs.Finding.{root_found}
use Rattle.fv_faults.specs.Adding.{Adds}
use Rattle.fv_first_pass.specs.Heads.{HasLabels}
use Rattle.fv_first_pass.specs.Passed.{HasRow, slot_lines, slots_to}
use Rattle.fv_first_pass.proofs.Passing.{slots_more, rows_more}
use Rattle.fv_first_pass.proofs.slots.read_slots.Given as given
use Rattle.fv_first_pass.proofs.slots.read_slots.Goals as goal

told : (g : given.Over) (c : goal.In_ok-add g) → IsTrue (g.D.Disk.shown c.args.disk.now).tells → IsTrue (g.D.Disk.shown c.loop-slot.disk).tells
told g c tells = rw c.loop-slot.invariant.only_reads.stays.tells tells

pub loop-slot-preserved : goal.loop-slot-preserved
loop-slot-preserved g c = record {
  adds = λ tells has.
      slots_more (layout_at (root_found c.args.found.now) (g.D.Disk.shown c.args.disk.now).reads) c.loop-slot.slot c.args.lines.now c.loop-slot.lines c.read_slot.new.lines
      (c.loop-slot.invariant.adds tells has)
      (subst (λ (i : Image). HasLabels (layout_at (root_found c.args.found.now) i) c.args.labels.now
      → Adds (slot_lines (layout_at (root_found c.args.found.now) i) c.loop-slot.slot) c.loop-slot.lines c.read_slot.new.lines) c.loop-slot.invariant.only_reads.stays.reads
      (c.in_ok-row.ensures.adds (told g c tells)) has);
  rows = λ tells has.
      rows_more (root_found c.args.found.now) (g.D.Disk.shown c.args.disk.now).reads c.loop-slot.slot c.loop-slot.rows.items _ c.in_ok-row.row c.loop-slot.invariant.long c.in_ok-add.ensures
      (c.loop-slot.invariant.rows tells has)
      (subst (λ (i : Image). HasLabels (layout_at (root_found c.args.found.now) i) c.args.labels.now
      → slot_lines (layout_at (root_found c.args.found.now) i) c.loop-slot.slot ≡ [] → HasRow (root_found c.args.found.now) i c.loop-slot.slot c.in_ok-row.row) c.loop-slot.invariant.only_reads.stays.reads
      (c.in_ok-row.ensures.row (told g c tells)) has);
  long = rw c.in_ok-add.ensures (length_push c.loop-slot.rows.items c.in_ok-row.row ∙ (let long = c.loop-slot.invariant.long in omega (arith, long)));
  only_reads = search rules;
  faults = search rules;
}

pub returns-clause-adds : goal.returns-clause-adds
returns-clause-adds g c = λ tells has.
    subst (λ n. Adds (slots_to (layout_at (root_found c.args.found.now) (g.D.Disk.shown c.args.disk.now).reads) n) c.args.lines.now c.loop-slot.lines)
    (let past = c.loop-slot-test.false in let end = c.loop-slot.auto.slot-end in let e : c.loop-slot.slot ≡ 64 = omega (arith, past, end) in e)
    (c.loop-slot.invariant.adds tells has)
