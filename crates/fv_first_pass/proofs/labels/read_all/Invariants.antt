use Rattle.std.proofs.Common.{◌≡◌, ℕ, length, get_or}
use Rattle.std.specs.Prelude.{IsTrue, None}
use Rattle.fv_disk.specs.DiskCalls.{OnlyReads}
use Rattle.fv_first_pass.specs.Heads.{IsReadLabel, labels_under}
use Rattle.fv_first_pass.proofs.labels.read_all.Given as goal

abbrev pub invariant-loop-slot : goal.invariant-loop-slot
invariant-loop-slot g l = record {
  value : IsTrue (g.D.Disk.shown l.fn.disk).tells → l.labels.items ≡ labels_under (g.D.Disk.shown l.fn.disk).reads l.root l.slot;
  range : (s : ℕ) → IsReadLabel (get_or l.labels.items s None);
  long : length l.labels.items ≡ l.slot;
  only_reads : OnlyReads (g.D.Disk.shown l.fn.disk) (g.D.Disk.shown l.disk);
  faults : (g.D.Disk.shown l.disk).faults ≡ (g.D.Disk.shown l.fn.disk).faults;
}
