use Rattle.std.proofs.Common.{rules, ◌≡◌, subst, sym, arith}
use Rattle.std.specs.Prelude.{IsTrue}
use Rattle.fv_disk.specs.Shown.{Image}
use Rattle.fv_faults.specs.Adding.{Adds}
use Rattle.fv_faults.specs.ThirdPass.{volume_lines}
use Rattle.fv_third_pass.specs.Surveys.{IsSurveyOf, layout_of}
use Rattle.fv_third_pass.specs.Volumes.{slot_lines, slots_to}
use Rattle.fv_third_pass.proofs.ThirdSlots.{no_slots, slots_more}
use Rattle.fv_third_pass.proofs.third.note_slots.Given as given
use Rattle.fv_third_pass.proofs.third.note_slots.Goals as goal

told : (g : given.Over) (c : goal.In_ok-noted g) → IsTrue (g.D.Disk.shown c.args.disk.now).tells → IsTrue (g.D.Disk.shown c.loop-slot.disk).tells
told g c tells = rw c.loop-slot.invariant.only_reads.stays.tells tells

pub loop-slot-init : goal.loop-slot-init
loop-slot-init g c = record {
  adds = λ tells walked. let y = layout_of c.args.survey.now (g.D.Disk.shown c.args.disk.now).reads in no_slots y (volume_lines y) c.args.lines;
  only_reads = search rules;
  faults = search rules;
}

pub loop-slot-preserved : goal.loop-slot-preserved
loop-slot-preserved g c =
    let x = c.args.survey.now in
    let first = c.loop-slot.invariant.only_reads.stays.reads in
    record {
      adds = λ tells walked.
          let y = layout_of x (g.D.Disk.shown c.args.disk.now).reads in
          slots_more y (volume_lines y) c.loop-slot.slot c.args.lines c.loop-slot.noted c.in_ok-noted.noted (c.loop-slot.invariant.adds tells walked)
          (subst (λ (i : Image). Adds (slot_lines (layout_of x i) c.loop-slot.slot) c.loop-slot.noted c.in_ok-noted.noted) first
          (c.in_ok-noted.ensures.adds (told g c tells) (subst (IsSurveyOf x) (sym first) walked)));
      only_reads = search rules;
      faults = search rules;
    }

pub returns : goal.returns
returns g c = record {
  adds = λ tells walked.
      subst (λ n. Adds (slots_to (layout_of c.args.survey.now (g.D.Disk.shown c.args.disk.now).reads) n) c.args.lines c.loop-slot.noted)
      (let past = c.loop-slot-test.false in let end = c.loop-slot.auto.slot-end in let e : c.loop-slot.slot ≡ 64 = omega (arith, past, end) in e)
      (c.loop-slot.invariant.adds tells walked);
  read = search rules;
}
