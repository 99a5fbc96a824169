use Rattle.std.proofs.Common.{◌≡◌}
use Rattle.std.specs.Prelude.{IsTrue}
use Rattle.fv_disk.specs.DiskCalls.{OnlyReads}
use Rattle.fv_faults.specs.Adding.{Adds}
use Rattle.fv_third_pass.specs.Maps.{reach_to}
use Rattle.fv_third_pass.proofs.volume_map.note_blocks.Given as goal

abbrev pub invariant-loop-k : goal.invariant-loop-k
invariant-loop-k g l = record {
  adds : IsTrue (g.D.Disk.shown l.fn.disk).tells → Adds (reach_to (g.D.Disk.shown l.fn.disk).reads l.row l.map.span l.map.slot l.reach l.k) l.fn.lines l.lines;
  only_reads : OnlyReads (g.D.Disk.shown l.fn.disk) (g.D.Disk.shown l.disk);
  faults : (g.D.Disk.shown l.disk).faults ≡ (g.D.Disk.shown l.fn.disk).faults;
}
