use Rattle.std.proofs.Common.{rules, ◌≡◌, subst, ◌∙◌, arith}
use Rattle.std.specs.Prelude.{IsTrue}
use Rattle.std.proofs.lemmas.List.{length_push}
use Rattle.fv_disk.specs.Shown.{Image}
use Rattle.fv_image.specs.Held.{layout_at}
use Rattle.fv_root.specs.Finding.{root_found}
use Rattle.fv_faults.specs.Adding.{Adds}
use Rattle.fv_second_pass.specs.Told.{IsPassed}
use Rattle.fv_second_pass.specs.Reaching.{SlotReached, slot_lines, slots_to}
use Rattle.fv_second_pass.proofs.SlotSteps.{AreSlots, reached_more, slots_more}
use Rattle.fv_second_pass.proofs.second.note_slots.Given as given
use Rattle.fv_second_pass.proofs.second.note_slots.Goals as goal

told : (g : given.Over) (c : goal.In_ok-add g) → IsTrue (g.D.Disk.shown c.args.disk.now).tells → IsTrue (g.D.Disk.shown c.loop-slot.disk).tells
told g c tells = rw c.loop-slot.invariant.only_reads.stays.tells tells

pub loop-slot-preserved : goal.loop-slot-preserved
loop-slot-preserved g c =
    let t = root_found c.args.root.now in
    record {
      adds = λ tells passed.
          slots_more (layout_at t (g.D.Disk.shown c.args.disk.now).reads) c.loop-slot.slot c.args.lines.now c.loop-slot.lines c.note_slot.new.lines
          (c.loop-slot.invariant.adds tells passed)
          (subst (λ (i : Image). IsPassed t i c.args.known.now → Adds (slot_lines (layout_at t i) c.loop-slot.slot) c.loop-slot.lines c.note_slot.new.lines) c.loop-slot.invariant.only_reads.stays.reads
          (c.in_ok-maps.ensures.adds (told g c tells)) passed);
      reach = λ tells passed.
          reached_more (layout_at t (g.D.Disk.shown c.args.disk.now).reads) c.loop-slot.slot c.loop-slot.volumes.items c.add.new.volumes.items c.in_ok-maps.maps c.loop-slot.invariant.long c.in_ok-add.ensures
          (c.loop-slot.invariant.reach tells passed)
          (subst (λ (i : Image). IsPassed t i c.args.known.now → SlotReached (layout_at t i) c.loop-slot.slot c.in_ok-maps.maps) c.loop-slot.invariant.only_reads.stays.reads
          (c.in_ok-maps.ensures.reach (told g c tells)) passed);
      long = rw c.in_ok-add.ensures (length_push c.loop-slot.volumes.items c.in_ok-maps.maps ∙ (let long = c.loop-slot.invariant.long in omega (arith, long)));
      only_reads = search rules;
      faults = search rules;
    }

pub returns-clause-adds : goal.returns-clause-adds
returns-clause-adds g c = λ tells passed.
    subst (λ n. Adds (slots_to (layout_at (root_found c.args.root.now) (g.D.Disk.shown c.args.disk.now).reads) n) c.args.lines.now c.loop-slot.lines)
    (let past = c.loop-slot-test.false in let end = c.loop-slot.auto.slot-end in let e : c.loop-slot.slot ≡ 64 = omega (arith, past, end) in e)
    (c.loop-slot.invariant.adds tells passed)

pub returns-clause-reach : goal.returns-clause-reach
returns-clause-reach g c = λ tells passed.
    subst (λ n. AreSlots (layout_at (root_found c.args.root.now) (g.D.Disk.shown c.args.disk.now).reads) c.loop-slot.volumes.items n)
    (let past = c.loop-slot-test.false in let end = c.loop-slot.auto.slot-end in let e : c.loop-slot.slot ≡ 64 = omega (arith, past, end) in e)
    (c.loop-slot.invariant.reach tells passed)
