use Rattle.std.proofs.Common.{rules, ◌≡◌, ◌++◌, subst, arith}
use Rattle.std.specs.Prelude.{IsTrue}
use Rattle.fv_disk.specs.Shown.{Image}
use Rattle.fv_third_pass.specs.Tallied.{Tallies}
use Rattle.fv_third_pass.specs.Counted.{blocks_to, slot_blocks}
use Rattle.fv_third_pass.proofs.Blocks.{parts_first, parts_next}
use Rattle.fv_third_pass.proofs.counting.hold_slots.Given as given
use Rattle.fv_third_pass.proofs.counting.hold_slots.Goals as goal

told : (g : given.Over) (c : goal.In_ok-hold_slot g) → IsTrue (g.D.Disk.shown c.args.disk.now).tells → IsTrue (g.D.Disk.shown c.loop-slot.disk).tells
told g c tells = rw c.loop-slot.invariant.only_reads.stays.tells tells

pub loop-slot-init : goal.loop-slot-init
unfolding blocks_to
loop-slot-init g c = record {
  size = search rules;
  tallies = λ tells list tallies. parts_first (slot_blocks (g.D.Disk.shown c.args.disk.now).reads c.args.found.now.root c.args.known.now) list c.args.holders.now tallies;
  only_reads = search rules;
  faults = search rules;
}

pub loop-slot-preserved : goal.loop-slot-preserved
unfolding blocks_to
loop-slot-preserved g c = record {
  size = search rules;
  tallies = λ tells list tallies.
      let i = (g.D.Disk.shown c.args.disk.now).reads in
      let before = blocks_to i c.args.found.now.root c.args.known.now c.loop-slot.slot in
      parts_next (slot_blocks i c.args.found.now.root c.args.known.now) c.loop-slot.slot list c.hold_slot.new.holders
      (subst (λ (i : Image). Tallies ((list ++ before) ++ slot_blocks i c.args.found.now.root c.args.known.now c.loop-slot.slot) c.hold_slot.new.holders)
      c.loop-slot.invariant.only_reads.stays.reads
      (c.in_ok-hold_slot.ensures.tallies (told g c tells) (list ++ before) (c.loop-slot.invariant.tallies tells list tallies)));
  only_reads = search rules;
  faults = search rules;
}

pub returns-clause-tallies : goal.returns-clause-tallies
returns-clause-tallies g c = λ tells list tallies.
    subst (λ n. Tallies (list ++ blocks_to (g.D.Disk.shown c.args.disk.now).reads c.args.found.now.root c.args.known.now n) c.loop-slot.holders)
    (let past = c.loop-slot-test.false in let end = c.loop-slot.auto.slot-end in let e : c.loop-slot.slot ≡ 64 = omega (arith, past, end) in e)
    (c.loop-slot.invariant.tallies tells list tallies)
