use Rattle.std.proofs.Common.{rules, ◌≡◌, ◌∙◌, subst, arith}
use Rattle.std.proofs.lemmas.List.{length_push}
use Rattle.std.specs.Prelude.{get_or}
use Rattle.fv_disk.specs.Shown.{Image}
use Rattle.fv_image.specs.Held.{lying_at}
use Rattle.fv_first_pass.specs.Heads.{label_read}
use Rattle.fv_first_pass.proofs.Labelled.{one_label, one_range}
use Rattle.fv_first_pass.proofs.labels.read_all.Goals as goal

pub loop-slot-preserved : goal.loop-slot-preserved
loop-slot-preserved g c = record {
  value = λ tells. one_label (g.D.Disk.shown c.args.disk.now).reads c.args.root.now c.loop-slot.slot c.loop-slot.labels.items _ c.in_ok-read.read (c.loop-slot.invariant.value tells)
      (subst (λ (i : Image). c.in_ok-read.read ≡ label_read (lying_at i (get_or c.args.root.now.labels c.loop-slot.slot 0))) c.loop-slot.invariant.only_reads.stays.reads
      (c.in_ok-read.ensures.value (rw c.loop-slot.invariant.only_reads.stays.tells tells)))
      c.in_ok-add.ensures;
  range = one_range c.loop-slot.labels.items _ c.in_ok-read.read c.loop-slot.invariant.range c.in_ok-read.ensures.range c.in_ok-add.ensures;
  long = rw c.in_ok-add.ensures (length_push c.loop-slot.labels.items c.in_ok-read.read ∙ (let long = c.loop-slot.invariant.long in omega (arith, long)));
  only_reads = search rules;
  faults = search rules;
}

pub returns-clause-long : goal.returns-clause-long
returns-clause-long g c =
    let long = c.loop-slot.invariant.long in
    let past = c.loop-slot-test.false in
    let end = c.loop-slot.auto.slot-end in
    omega (arith, long, past, end)
