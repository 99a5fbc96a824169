use Rattle.std.proofs.Common.{◌≡◌, ◌≢◌, ◌%◌}
use Rattle.std.specs.Prelude.{IsTrue}
use Rattle.fv_disk.specs.DiskCalls.{OnlyReads}
use Rattle.fv_image.specs.Containers.{fan}
use Rattle.fv_third_pass.specs.Nodes.{over, level_below}
use Rattle.fv_third_pass.proofs.nodes.read_level.Given as goal

abbrev pub invariant-loop-number : goal.invariant-loop-number
invariant-loop-number g l = record {
  places : IsTrue (g.D.Disk.shown l.fn.disk).tells → l.places.items ≡ level_below (g.D.Disk.shown l.fn.disk).reads l.above l.number;
  node : IsTrue (g.D.Disk.shown l.fn.disk).tells → l.number % fan ≢ 0 → l.node ≡ over (g.D.Disk.shown l.fn.disk).reads l.above l.number;
  only_reads : OnlyReads (g.D.Disk.shown l.fn.disk) (g.D.Disk.shown l.disk);
  faults : (g.D.Disk.shown l.disk).faults ≡ (g.D.Disk.shown l.fn.disk).faults;
}
