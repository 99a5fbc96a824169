use Rattle.std.proofs.Common.{◌≡◌, ◌-◌}
use Rattle.std.specs.Prelude.{IsTrue}
use Rattle.fv_disk.specs.DiskCalls.{OnlyReads}
use Rattle.fv_first_pass.specs.Filled.{BelowTo, FillsTo}
use Rattle.fv_first_pass.proofs.tree.+read_node.Given as goal

abbrev pub decreases-read_node : goal.decreases-read_node
decreases-read_node g l = l.level

abbrev pub invariant-loop-c : goal.invariant-loop-c
invariant-loop-c g l = record {
  adds : IsTrue (g.D.Disk.shown l.fn.disk).tells → BelowTo (g.D.Disk.shown l.fn.disk).reads l.site (l.level - 1) l.spot.number l.node l.c l.initial.lines l.lines;
  filled : IsTrue (g.D.Disk.shown l.fn.disk).tells → FillsTo (g.D.Disk.shown l.fn.disk).reads l.site (l.level - 1) l.spot.number l.node l.c l.initial.entries l.entries;
  only_reads : OnlyReads (g.D.Disk.shown l.fn.disk) (g.D.Disk.shown l.disk);
  faults : (g.D.Disk.shown l.disk).faults ≡ (g.D.Disk.shown l.fn.disk).faults;
}
