use Rattle.std.proofs.Common.{◌≡◌, length}
use Rattle.std.specs.Prelude.{IsTrue}
use Rattle.fv_disk.specs.DiskCalls.{OnlyReads}
use Rattle.fv_image.specs.Held.{layout_at}
use Rattle.fv_root.specs.Finding.{root_found}
use Rattle.fv_faults.specs.Adding.{Adds}
use Rattle.fv_first_pass.specs.Heads.{HasLabels}
use Rattle.fv_first_pass.specs.Passed.{slots_to}
use Rattle.fv_first_pass.proofs.Passing.{AreRows}
use Rattle.fv_first_pass.proofs.slots.read_slots.Given as goal

abbrev pub invariant-loop-slot : goal.invariant-loop-slot
invariant-loop-slot g l = record {
  adds : IsTrue (g.D.Disk.shown l.fn.disk).tells → HasLabels (layout_at (root_found l.found) (g.D.Disk.shown l.fn.disk).reads) l.labels
      → Adds (slots_to (layout_at (root_found l.found) (g.D.Disk.shown l.fn.disk).reads) l.slot) l.fn.lines l.lines;
  rows : IsTrue (g.D.Disk.shown l.fn.disk).tells → HasLabels (layout_at (root_found l.found) (g.D.Disk.shown l.fn.disk).reads) l.labels
      → AreRows (root_found l.found) (g.D.Disk.shown l.fn.disk).reads l.rows.items l.slot;
  long : length l.rows.items ≡ l.slot;
  only_reads : OnlyReads (g.D.Disk.shown l.fn.disk) (g.D.Disk.shown l.disk);
  faults : (g.D.Disk.shown l.disk).faults ≡ (g.D.Disk.shown l.fn.disk).faults;
}
