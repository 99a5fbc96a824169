use Rattle.std.proofs.Common.{rules, ◌≡◌, ◌+◌, subst, sym, arith}
use Rattle.std.specs.Prelude.{IsTrue}
use Rattle.fv_disk.specs.Shown.{Image}
use Rattle.fv_faults.specs.Adding.{Adds}
use Rattle.fv_third_pass.specs.Surveys.{layout_of}
use Rattle.fv_third_pass.proofs.ThirdSlots.{no_slots, slots_more}
use Rattle.fv_fourth_pass.specs.Noted.{slot_lines, slots_to, volume_lines}
use Rattle.fv_fourth_pass.specs.Silent.{IsSilentOf}
use Rattle.fv_fourth_pass.specs.Summed.{AreSums}
use Rattle.fv_fourth_pass.proofs.pass.note_slots.Given as given
use Rattle.fv_fourth_pass.proofs.pass.note_slots.Goals as goal

told : (g : given.Over) (c : goal.In_ok-noted g) → IsTrue (g.D.Disk.shown c.args.disk.now).tells → IsTrue (g.D.Disk.shown c.loop-slot.disk).tells
told g c tells = rw c.loop-slot.invariant.only_reads.stays.tells tells

pub loop-slot-init : goal.loop-slot-init
loop-slot-init g c = record {
  adds = λ tells silent.
      let y = layout_of c.args.survey.now (g.D.Disk.shown c.args.disk.now).reads in no_slots y (volume_lines y.view) c.args.lines;
  sums = λ tells silent are. are;
  at = c.requires.at;
  within = c.requires.within;
  only_reads = search rules;
  faults = search rules;
}

pub loop-slot-preserved : goal.loop-slot-preserved
loop-slot-preserved g c =
    let x = c.args.survey.now in
    let i : Image = (g.D.Disk.shown c.args.disk.now).reads in
    let first = c.loop-slot.invariant.only_reads.stays.reads in
    record {
      adds = λ tells silent.
          slots_more (layout_of x i) (volume_lines (layout_of x i).view) c.loop-slot.slot c.args.lines c.loop-slot.noted c.in_ok-noted.noted (c.loop-slot.invariant.adds tells silent)
          (subst (λ (j : Image). Adds (slot_lines (layout_of x j) c.loop-slot.slot) c.loop-slot.noted c.in_ok-noted.noted) first
          (c.in_ok-noted.ensures.passes.adds (told g c tells) (subst (IsSilentOf x) (sym first) silent)));
      sums = λ tells silent are.
          subst (λ (j : Image). AreSums (layout_of x j).view (c.loop-slot.slot + 1) c.note_slot.new.sums) first
          (c.in_ok-noted.ensures.sums (told g c tells) (subst (IsSilentOf x) (sym first) silent)
          (subst (λ (j : Image). AreSums (layout_of x j).view c.loop-slot.slot c.loop-slot.sums) (sym first) (c.loop-slot.invariant.sums tells silent are)));
      at = c.in_ok-noted.ensures.at;
      within = c.in_ok-noted.ensures.within;
      only_reads = search rules;
      faults = search rules;
    }

pub returns-clause-passes : goal.returns-clause-passes
returns-clause-passes g c = record {
  adds = λ tells silent.
      subst (λ n. Adds (slots_to (layout_of c.args.survey.now (g.D.Disk.shown c.args.disk.now).reads) n) c.args.lines c.loop-slot.noted)
      (let past = c.loop-slot-test.false in let end = c.loop-slot.auto.slot-end in let e : c.loop-slot.slot ≡ 64 = omega (arith, past, end) in e)
      (c.loop-slot.invariant.adds tells silent);
  read = search rules;
}

pub returns-clause-sums : goal.returns-clause-sums
returns-clause-sums g c = λ tells silent are.
    subst (λ n. AreSums (layout_of c.args.survey.now (g.D.Disk.shown c.args.disk.now).reads).view n c.loop-slot.sums)
    (let past = c.loop-slot-test.false in let end = c.loop-slot.auto.slot-end in let e : c.loop-slot.slot ≡ 64 = omega (arith, past, end) in e)
    (c.loop-slot.invariant.sums tells silent are)
