use Rattle.std.proofs.Common.{◌≡◌}
use Rattle.std.specs.Prelude.{IsTrue}
use Rattle.fv_disk.specs.DiskCalls.{OnlyReads}
use Rattle.fv_faults.specs.Adding.{Adds}
use Rattle.fv_third_pass.specs.Surveys.{IsSurveyOf, layout_of}
use Rattle.fv_third_pass.specs.Volumes.{slots_to}
use Rattle.fv_third_pass.proofs.third.note_slots.Given as goal

abbrev pub invariant-loop-slot : goal.invariant-loop-slot
invariant-loop-slot g l = record {
  adds : IsTrue (g.D.Disk.shown l.fn.disk).tells → IsSurveyOf l.survey (g.D.Disk.shown l.fn.disk).reads
      → Adds (slots_to (layout_of l.survey (g.D.Disk.shown l.fn.disk).reads) l.slot) l.fn.lines l.noted;
  only_reads : OnlyReads (g.D.Disk.shown l.fn.disk) (g.D.Disk.shown l.disk);
  faults : (g.D.Disk.shown l.disk).faults ≡ (g.D.Disk.shown l.fn.disk).faults;
}
