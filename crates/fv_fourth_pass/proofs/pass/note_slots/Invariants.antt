use Rattle.std.proofs.Common.{◌≡◌, length}
use Rattle.std.specs.Prelude.{IsTrue}
use Rattle.fv_disk.specs.DiskCalls.{OnlyReads}
use Rattle.fv_faults.specs.Adding.{Adds}
use Rattle.fv_third_pass.specs.Surveys.{layout_of}
use Rattle.fv_fourth_pass.specs.Noted.{slots_to}
use Rattle.fv_fourth_pass.specs.Silent.{IsSilentOf}
use Rattle.fv_fourth_pass.specs.Summed.{AreSums, AreWithin}
use Rattle.fv_fourth_pass.proofs.pass.note_slots.Given as given

abbrev pub invariant-loop-slot : given.invariant-loop-slot
invariant-loop-slot g l = record {
  adds : IsTrue (g.D.Disk.shown l.fn.disk).tells → IsSilentOf l.survey (g.D.Disk.shown l.fn.disk).reads
      → Adds (slots_to (layout_of l.survey (g.D.Disk.shown l.fn.disk).reads) l.slot) l.fn.lines l.noted;
  sums : IsTrue (g.D.Disk.shown l.fn.disk).tells → IsSilentOf l.survey (g.D.Disk.shown l.fn.disk).reads
      → AreSums (layout_of l.survey (g.D.Disk.shown l.fn.disk).reads).view 0 l.fn.sums
      → AreSums (layout_of l.survey (g.D.Disk.shown l.fn.disk).reads).view l.slot l.sums;
  at : length l.sums.uses.items ≡ l.slot;
  within : AreWithin l.sums;
  only_reads : OnlyReads (g.D.Disk.shown l.fn.disk) (g.D.Disk.shown l.disk);
  faults : (g.D.Disk.shown l.disk).faults ≡ (g.D.Disk.shown l.fn.disk).faults;
}
