use Rattle.std.proofs.Common.{◌≡◌, length}
use Rattle.std.specs.Prelude.{IsTrue}
use Rattle.fv_disk.specs.DiskCalls.{OnlyReads}
use Rattle.fv_image.specs.Held.{layout_at}
use Rattle.fv_root.specs.Finding.{root_found}
use Rattle.fv_faults.specs.Adding.{Adds}
use Rattle.fv_second_pass.specs.Told.{IsPassed}
use Rattle.fv_second_pass.specs.Reaching.{slots_to}
use Rattle.fv_second_pass.proofs.SlotSteps.{AreSlots}
use Rattle.fv_second_pass.proofs.second.note_slots.Given as goal

abbrev pub invariant-loop-slot : goal.invariant-loop-slot
invariant-loop-slot g l = record {
  adds : IsTrue (g.D.Disk.shown l.fn.disk).tells → IsPassed (root_found l.root) (g.D.Disk.shown l.fn.disk).reads l.known
      → Adds (slots_to (layout_at (root_found l.root) (g.D.Disk.shown l.fn.disk).reads) l.slot) l.fn.lines l.lines;
  reach : IsTrue (g.D.Disk.shown l.fn.disk).tells → IsPassed (root_found l.root) (g.D.Disk.shown l.fn.disk).reads l.known
      → AreSlots (layout_at (root_found l.root) (g.D.Disk.shown l.fn.disk).reads) l.volumes.items l.slot;
  long : length l.volumes.items ≡ l.slot;
  only_reads : OnlyReads (g.D.Disk.shown l.fn.disk) (g.D.Disk.shown l.disk);
  faults : (g.D.Disk.shown l.disk).faults ≡ (g.D.Disk.shown l.fn.disk).faults;
}
