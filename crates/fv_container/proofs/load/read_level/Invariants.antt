use Rattle.std.proofs.Common.{◌≡◌, ℕ, ◌+◌, ◌*◌, ◌/◌, ◌%◌, ◌<◌, ◌≤◌, true, length, get_or}
use Rattle.std.specs.Prelude.{IsTrue}
use Rattle.fv_codec.specs.Blocks.{inner_at, last_place}
use Rattle.fv_image.specs.Containers.{child_in, lying}
use Rattle.fv_store.specs.Held.{StandsOn}
use Rattle.fv_disk.specs.DiskCalls.{OnlyReads}
use Rattle.fv_container.specs.Reading.{AreShaped, StandInner}
use Rattle.fv_container.proofs.load.read_level.Given as goal

abbrev pub invariant-loop-q : goal.invariant-loop-q
invariant-loop-q g l = record {
  len : length l.places ≡ length l.initial.places;
  stands : StandsOn (g.D.Disk.shown l.disk) l.store.pairs;
  leaves : IsTrue (g.D.Disk.shown l.fn.disk).tells → (k : ℕ) → k < l.leaves → k < 256 * l.q → get_or l.places k 0 ≡ child_in (lying inner_at (g.D.Disk.shown l.fn.disk).reads (get_or l.initial.places (l.leaves + k / 256) 0)) (k % 256);
  bounded : ((m : ℕ) → m < l.leaves → get_or l.initial.places m 0 ≤ last_place) → (m : ℕ) → m < l.leaves → get_or l.places m 0 ≤ last_place;
  past : (m : ℕ) → l.leaves ≤ m → get_or l.places m 0 ≡ get_or l.initial.places m 0;
  shaped : IsTrue (g.D.Disk.shown l.fn.disk).tells → AreShaped (g.D.Disk.shown l.fn.disk).reads 1 l.initial.places l.leaves l.q;
  whole : IsTrue (g.D.Disk.shown l.fn.disk).tells → l.whole ≡ true → StandInner (g.D.Disk.shown l.fn.disk).reads l.initial.places l.leaves l.q;
  kept : IsTrue (g.D.Disk.shown l.fn.disk).tells → StandInner (g.D.Disk.shown l.fn.disk).reads l.initial.places l.leaves l.q → l.whole ≡ true;
  only_reads : OnlyReads (g.D.Disk.shown l.fn.disk) (g.D.Disk.shown l.disk);
  faults : (g.D.Disk.shown l.disk).faults ≡ (g.D.Disk.shown l.fn.disk).faults;
}
