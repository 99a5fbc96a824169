use Rattle.std.proofs.Common.{◌≡◌, ◌≤◌, ◌-◌, length}
use Rattle.fv_disk.specs.DiskCalls.{OnlyReads}
use Rattle.fv_store.specs.Held.{StandsOn}
use Rattle.fv_container.specs.Finding.{AreHeld, LooksUpRow}
use Rattle.fv_container.proofs.finding.look_row.Given as goal

abbrev pub invariant-loop-from : goal.invariant-loop-from
invariant-loop-from g l = record {
  within : l.from ≤ length l.into;
  len : length l.into ≡ length l.fn.into;
  stands : StandsOn (g.D.Disk.shown l.disk) l.store.pairs;
  looked : LooksUpRow (g.D.Disk.shown l.fn.disk) l.leaves l.tree l.first l.from l.into;
  held : AreHeld 0 l.from l.into;
  only_reads : OnlyReads (g.D.Disk.shown l.fn.disk) (g.D.Disk.shown l.disk);
  faults : (g.D.Disk.shown l.disk).faults ≡ (g.D.Disk.shown l.fn.disk).faults;
}

abbrev pub decreases-loop-from : goal.decreases-loop-from
decreases-loop-from g l = length l.into - l.from
