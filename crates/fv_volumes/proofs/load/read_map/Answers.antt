use Rattle.std.proofs.Common.{◌≡◌, ◌≤◌, ◌+◌, ℕ, ap, sym, subst, ◌∙◌, arith}
use Rattle.std.specs.Prelude.{IsTrue}
use Rattle.fv_disk.specs.Shown.{Image}
use Rattle.fv_disk.proofs.Resting.{reads_then}
use Rattle.fv_model.specs.Space.{map_blocks}
use Rattle.fv_volmap.specs.Slots.{Volume, stored_count}
use Rattle.fv_volume.specs.SlotReads.{HasReadSlot, HaveRead, IsOpenedOn, TakesSlot}
use Rattle.fv_volumes.proofs.SlotReads.{empty_read, read_first, used_first}
use Rattle.fv_volumes.proofs.load.read_map.Goals as goal

pub loop-slot-init : goal.loop-slot-init
loop-slot-init g c =
    let i = (g.D.Disk.shown c.args.disk.now).reads in
    let did = c.in_ok-read_slot.ensures in
    let new = c.read_slot.new.map in
    let some : 1 ≤ map_blocks c.args.span = omega (arith, c.requires.least) in
    record {
      stands = did.stands;
      map = did.takes.span ∙ ap (λ (m : Volume). m.span) c.in_ok-map.ensures.empty;
      used = used_first c.args.snapshots.now c.args.span (map_blocks c.args.span) new some (subst (λ (m : Volume). TakesSlot m 0 (map_blocks c.args.span) new) c.in_ok-map.ensures.empty did.takes);
      read = λ tells opened. read_first i c.args.container.now.map c.args.span new (did.read tells opened (subst (HasReadSlot i c.args.container.now.map c.args.span 0 0) (sym c.in_ok-map.ensures.empty) (empty_read i c.args.container.now.map c.args.span)));
      only_reads = did.only_reads;
      calm = did.cause;
    }

pub loop-slot-preserved : goal.loop-slot-preserved
loop-slot-preserved g c =
    let was = c.loop-slot.invariant in
    let step = c.in_ok-read_next_slot.ensures in
    let stays = was.only_reads.stays in
    let map = c.args.container.now.map in
    record {
      stands = step.stands;
      map = step.map;
      used = step.used;
      read = λ tells opened. subst (λ (i : Image). HaveRead i map c.args.span (c.loop-slot.slot + 1) c.read_next_slot.new.map) stays.reads
          (step.read (subst IsTrue (sym stays.tells) tells) (subst (λ (i : Image). IsOpenedOn i map) (sym stays.reads) opened)
          (subst (λ (i : Image). HaveRead i map c.args.span c.loop-slot.slot c.loop-slot.map) (sym stays.reads) (was.read tells opened)));
      only_reads = reads_then (g.D.Disk.shown c.args.disk.now) (g.D.Disk.shown c.loop-slot.disk) (g.D.Disk.shown c.read_next_slot.new.disk) was.only_reads step.only_reads;
      calm = step.cause ∙ was.calm;
    }

pub returns-clause-read : goal.returns-clause-read
returns-clause-read g c = λ tells opened.
    let all : c.loop-slot.slot ≡ stored_count = omega (arith, c.loop-slot-test.false, c.loop-slot.auto.slot-end) in
    subst (λ (n : ℕ). HaveRead (g.D.Disk.shown c.args.disk.now).reads c.args.container.now.map c.args.span n c.loop-slot.map) all (c.loop-slot.invariant.read tells opened)
