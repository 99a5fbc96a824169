use Rattle.std.proofs.Common.{◌≡◌, ℕ, List, ◌++◌, length}
use Rattle.std.specs.Prelude.{IsTrue}
use Rattle.fv_disk.specs.DiskCalls.{OnlyReads}
use Rattle.fv_third_pass.specs.Tallied.{Tallies}
use Rattle.fv_third_pass.specs.Counted.{blocks_to}
use Rattle.fv_third_pass.proofs.counting.hold_slots.Given as goal

abbrev pub invariant-loop-slot : goal.invariant-loop-slot
invariant-loop-slot g l = record {
  size : length l.holders.held ≡ length l.fn.holders.held;
  tallies : IsTrue (g.D.Disk.shown l.fn.disk).tells → (list : List ℕ) → Tallies list l.fn.holders
      → Tallies (list ++ blocks_to (g.D.Disk.shown l.fn.disk).reads l.found.root l.known l.slot) l.holders;
  only_reads : OnlyReads (g.D.Disk.shown l.fn.disk) (g.D.Disk.shown l.disk);
  faults : (g.D.Disk.shown l.disk).faults ≡ (g.D.Disk.shown l.fn.disk).faults;
}
