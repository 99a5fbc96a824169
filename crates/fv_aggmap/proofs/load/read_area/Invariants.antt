use Rattle.std.proofs.Common.{◌≡◌, length}
use Rattle.std.specs.Prelude.{IsTrue}
use Rattle.fv_disk.specs.DiskCalls.{OnlyReads}
use Rattle.fv_aggmap.specs.Loading.{HasRead}
use Rattle.fv_aggmap.proofs.load.read_area.Given as goal

abbrev pub invariant-loop-k : goal.invariant-loop-k
invariant-loop-k g l = record {
  len : length l.into ≡ l.fn.found.blocks;
  read : IsTrue (g.D.Disk.shown l.fn.disk).tells → HasRead (g.D.Disk.shown l.fn.disk).reads l.fn.found l.k l.into;
  only_reads : OnlyReads (g.D.Disk.shown l.fn.disk) (g.D.Disk.shown l.disk);
  faults : (g.D.Disk.shown l.disk).faults ≡ (g.D.Disk.shown l.fn.disk).faults;
}
