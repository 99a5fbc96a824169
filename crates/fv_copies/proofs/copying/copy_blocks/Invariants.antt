use Rattle.std.proofs.Common.{◌≡◌, ◌≤◌, ◌+◌, ℕ, true, List, length}
use Rattle.fv_bits.specs.Members.{is_member}
use Rattle.fv_store.specs.Held.{StandsOn}
use Rattle.fv_copies.specs.Copying.{Copy, HasCopied, IsSource, LeavesTaken, content_of, copies_below}
use Rattle.fv_copies.proofs.copying.copy_blocks.Given as goal

abbrev pub invariant-loop-vvbn : goal.invariant-loop-vvbn
invariant-loop-vvbn g l = record {
  stands : StandsOn (g.D.Disk.shown l.disk) l.pool.store.pairs;
  lacks : (v : ℕ) → l.vvbn ≤ v → is_member l.map v ≡ true → g.S.Sink.lacks l.sink v;
  copied : IsSource (g.D.Disk.shown l.fn.disk) l.fn.pool l.source.slot l.map → (ts : List Copy) → g.S.Sink.got l.fn.sink l.fn.pool (content_of (g.D.Disk.shown l.fn.disk)) ts
      → HasCopied (g.D.Disk.shown l.fn.disk) l.fn.pool l.source.slot (copies_below l.map l.vvbn) (g.S.Sink.got l.sink l.pool (content_of (g.D.Disk.shown l.disk))) ts;
  room : g.S.Sink.room l.fn.sink l.fn.pool ≤ g.S.Sink.room l.sink l.pool + length (copies_below l.map l.vvbn);
  leaves : LeavesTaken g.S.Sink.quiet (g.D.Disk.shown l.fn.disk) l.fn.pool (g.D.Disk.shown l.disk) l.pool;
  goes : g.S.Sink.goes l.fn.sink l.fn.pool l.sink l.pool;
  faults : (g.D.Disk.shown l.disk).faults ≡ (g.D.Disk.shown l.fn.disk).faults;
  write_faults : (g.D.Disk.shown l.disk).write_faults ≡ (g.D.Disk.shown l.fn.disk).write_faults;
}
